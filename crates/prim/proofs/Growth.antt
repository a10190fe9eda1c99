-- Laws of a network that grows by one link at a time: what it holds, and that at the end it is the Prim Network.
use mathlib.Core.Path.{◌≡◌, refl, sym, ap, subst, ◌∙◌}
use mathlib.Core.List.{List, [], ◌∷◌, ◌++◌, append-nil, Memᴰ, map, nil≢cons}
use Prim.Native.Nat.{ℕ, suc, ◌+◌, ◌-◌, ◌*◌, ◌^◌, ◌≤◌, ◌<◌}
use native.Mathlib.Omega.{arith}
use lib.ListN.{length}
use lib.Seq.{append_snoc}
use Rattle.std.specs.Prelude.{Option, Some, None, option_and_then, option_to_list}
use Rattle.lists.specs.Filled.{filled}
use Rattle.lists.specs.Sums.{sum_over}
use Rattle.lists.specs.Least.{least_item}
use Rattle.lists.proofs.Filled.{filled-snoc}
use Rattle.lists.proofs.Keep.{mem-length}
use Rattle.difference_form.specs.Rows.{most_difference}
use Rattle.prim_form.specs.Network.{Link, taxa, network_length, unplaced, next, grow, network}
use Rattle.prim.specs.Calls.{Holds, most_links, no_link}
use Rattle.prim.specs.Growing.{WithLink, Near, Keeps, moved_link, link_length}
use Rattle.prim.specs.declared.answer.Network.{Network}
use Rattle.prim_form.proofs.Unplaced.{mem-unplaced, length-unplaced, length_unplaced_next}
use Rattle.prim_form.proofs.Placing.{Placing, Step, done, placing, placing-step, grow-done, grow-next}
use Rattle.prim.proofs.Waiting.{kept_links, next-kept, place-keeps}
use Rattle.prim.proofs.Holding.{network_length-snoc, taxa-snoc, length-snoc}

-- a network that has grown: the links that it holds are the first ones of the Prim Network, what is kept fits them, and where no taxon is
-- too far from row 1 their total is bounded by their number
pub record GrownTo (d : ℕ → ℕ → ℕ) (n : ℕ) (waiting : List (Option Link)) (r : Network) : Type 0 where
  pub links : List Link
  pub list : r.links.items ≡ filled most_links no_link links
  pub count : r.links.count ≡ length links
  pub total : Near d n → r.total ≡ network_length links
  pub keeps : Keeps d n (taxa links) waiting
  pub within : length links < n
  pub rest : network d n ≡ links ++ grow d n (n - suc (length links)) (taxa links)
  pub left : length (unplaced n (taxa links)) ≡ n - suc (length links)
  pub sum : Near d n → network_length links ≤ length links * most_difference

-- row 1 alone
pub grown-start : (d : ℕ → ℕ → ℕ) (n : ℕ) (waiting : List (Option Link)) (r : Network) → 1 ≤ n → Keeps d n [] waiting → Holds [] r
    → GrownTo d n waiting r
unfolding network taxa network_length sum_over
grown-start d n waiting r some keeps holds = record {
  links = [];
  list = holds.list;
  count = holds.count;
  total = λ near. holds.total;
  keeps = keeps;
  within = some;
  rest = refl;
  left = length-unplaced n;
  sum = λ near. omega arith;
}

-- what the next link tells of the link that is it
placing_of : (d : ℕ → ℕ → ℕ) (n : ℕ) (later : List ℕ) (l : Link) → next d later (unplaced n later) ≡ l ∷ [] → Placing d n later l
unfolding next
placing_of d n later l e = at (placing-step d n later)
  where
    at : Step d n later → Placing d n later l
    at (done none) = absurd (nil≢cons (rw none at e))
    at (placing k p) = subst (Placing d n later) (let same : k ∷ [] ≡ l ∷ [] = sym p.is_next ∙ e in cc) p

-- and if there is none, no taxon is unplaced
none_left : (d : ℕ → ℕ → ℕ) (n : ℕ) (later : List ℕ) → next d later (unplaced n later) ≡ [] → unplaced n later ≡ []
none_left d n later e = at (placing-step d n later)
  where
    at : Step d n later → unplaced n later ≡ []
    at (done none) = none
    at (placing k p) = absurd (nil≢cons (sym e ∙ p.is_next))

module _ (d : ℕ → ℕ → ℕ) (n : ℕ) (waiting : List (Option Link)) (r : Network) (g : GrownTo d n waiting r) where
  -- all taxa placed: the network holds the Prim Network
  pub grown_end : least_item link_length (kept_links waiting) ≡ None → Near d n → Holds (network d n) r
  grown_end none near =
      let next_none : next d (taxa g.links) (unplaced n (taxa g.links)) ≡ [] =
      sym (next-kept d n (taxa g.links) waiting g.keeps) ∙ ap option_to_list none in
      let end = grow-done d n (n - suc (length g.links)) (taxa g.links) (none_left d n (taxa g.links) next_none) in
      let same : network d n ≡ g.links =
      g.rest ∙ ap (λ (ls : List Link). g.links ++ ls) end ∙ append-nil g.links in
      rw same (record { list = g.list; count = g.count; total = g.total near })

  -- one more taxon
  module _ (few : n ≤ 64) (l : Link)
      (found : least_item link_length (kept_links waiting) ≡ Some l) where
    -- the taxa placed after row 1
    later : List ℕ
    later = taxa g.links

    -- it is placed by the next link
    is-next : next d later (unplaced n later) ≡ l ∷ []
    unfolding later
    is-next = sym (next-kept d n (taxa g.links) waiting g.keeps) ∙ ap option_to_list found

    its : Placing d n later l
    its = placing_of d n later l is-next

    -- some taxon is left
    some : suc (length g.links) < n
    unfolding later
    some =
        let one = mem-length its.fresh in
        let left : length (unplaced n (taxa g.links)) ≡ n - suc (length g.links) = g.left in
        omega arith

    -- no taxon is farther from the network than from row 1
    short : Near d n → l.length ≤ most_difference
    short near =
        let t = (mem-unplaced n later l.taxon).0 its.fresh in
        let one : l.length ≤ d l.taxon 1 = its.least l.taxon 1 its.fresh (Memᴰ.head refl) in
        let far : d l.taxon 1 ≤ most_difference = near l.taxon (omega arith) t.1 in
        omega arith

    -- there is room for the link
    pub grown_room : r.links.count < 63
    grown_room = omega (arith, g.count, some)

    -- and its length can be added
    counted : Near d n → r.total + l.length < 2 ^ 64
    counted near = omega (arith, grown_room, g.count, g.total near, g.sum near, short near)

    -- with its link and with what is then kept the network has grown by one taxon
    pub grown-next : (r' : Network) (waiting' : List (Option Link)) → WithLink r l r'
        → waiting' ≡ map (option_and_then (moved_link d l.taxon)) waiting → GrownTo d n waiting' r'
    unfolding later
    grown-next r' waiting' linked stepped =
        let taxa-next : taxa (g.links ++ (l ∷ [])) ≡ taxa g.links ++ (l.taxon ∷ []) = taxa-snoc g.links l in
        let length-next : length (g.links ++ (l ∷ [])) ≡ suc (length g.links) = length-snoc g.links l in
        let fewer : n - suc (length g.links) ≡ suc (n - suc (suc (length g.links))) = let left = some in omega arith in
        record {
          links = g.links ++ (l ∷ []);
          list = linked.links.items ∙ rw g.list (filled-snoc no_link most_links r.links.count g.links l g.count grown_room);
          count = rw length-next (omega (arith, linked.links.count, g.count, grown_room));
          total = λ near.
              linked.total (counted near)
              ∙ ap (λ (sum : ℕ). sum + l.length) (g.total near)
              ∙ sym (network_length-snoc g.links l);
          keeps = rw (stepped, taxa-next) (place-keeps d n (taxa g.links) l.taxon waiting g.keeps);
          within = rw length-next some;
          rest =
              rw (length-next, taxa-next, append_snoc g.links l (grow d n (n - suc (suc (length g.links))) (taxa g.links ++ (l.taxon ∷ []))))
              (g.rest
              ∙ ap (λ (ls : List Link). g.links ++ ls)
              (ap (λ (k : ℕ). grow d n k (taxa g.links)) fewer ∙ grow-next d n (n - suc (suc (length g.links))) (taxa g.links) l is-next));
          left = rw (length-next, taxa-next) (let left = g.left in omega (arith, length_unplaced_next n (taxa g.links) l.taxon its.fresh));
          sum = λ near. rw (length-next, network_length-snoc g.links l) (omega (arith, g.sum near, short near));
        }
