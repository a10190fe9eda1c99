-- Laws of what is kept of the taxa while the Prim Network grows: of each unplaced taxon the link that would place it.
use mathlib.Core.Path.{◌≡◌, refl, sym, ap, ap₂, ◌∙◌}
use mathlib.Core.Bool.{Bool, true, false, cond, not, ◌&&◌, ◌||◌}
use mathlib.Core.List.{List, [], ◌∷◌, ◌++◌, map, map-append, append-nil}
use Prim.Native.Nat.{ℕ, zero, suc, ◌+◌, ◌-◌, ◌≤◌, ◌<◌}
use native.Mathlib.Omega.{arith}
use borrow.Author.Tests.{ltb-true, ltb-false, lt-ltb, le-ltb}
use lib.Dec.{eqb, ltb}
use Rattle.std.specs.Prelude.{Option, Some, None, filter_map, option_and_then, option_to_list}
use Rattle.std.specs.List.{cons_option}
use Rattle.lists.specs.Filters.{keep, without}
use Rattle.lists.specs.Least.{first_least, least_item}
use Rattle.lists.specs.Numbers.{numbers}
use Rattle.lists.specs.Tests.{among}
use Rattle.lists.proofs.Keep.{keep_twice}
use Rattle.lists.proofs.Least.{first_least-map, first_least_snoc_less, first_least_snoc_stays}
use Rattle.lists.proofs.Numbers.{numbers-append}
use Rattle.prim_form.specs.Network.{Link, unplaced, nearest_placed, distance, link, next}
use Rattle.prim.specs.Growing.{first_link, moved_link, link_length, Keeps}
use Rattle.prim_form.proofs.Unplaced.{without-nothing}

-- the links that are kept
abbrev pub kept_links : List (Option Link) → List Link
kept_links waiting = filter_map (λ kept. kept) waiting

-- those of two lists one after the other
kept_append : (xs ys : List (Option Link)) → kept_links (xs ++ ys) ≡ kept_links xs ++ kept_links ys
kept_append [] ys = refl
kept_append (None ∷ xs) ys = kept_append xs ys
kept_append (Some l ∷ xs) ys = ap (λ (ls : List Link). l ∷ ls) (kept_append xs ys)

-- ---- before any taxon is placed behind row 1

module _ (d : ℕ → ℕ → ℕ) (n : ℕ) where
  -- of taxa of the n the links to row 1 are kept
  first_links : (a k : ℕ) → a + k ≤ n + 1 → kept_links (map (first_link d n) (numbers a k)) ≡ map (link d []) (numbers a k)
  unfolding numbers link distance nearest_placed first_least
  first_links a zero h = refl
  first_links a (suc k) h =
      rw (le-ltb n a (omega arith)) (ap (λ (ls : List Link). link d [] a ∷ ls) (first_links (suc a) k (omega arith)))

  -- of numbers behind the n taxa none
  none_behind : (a k : ℕ) → n < a → kept_links (map (first_link d n) (numbers a k)) ≡ []
  unfolding numbers
  none_behind a zero h = refl
  none_behind a (suc k) h = rw (lt-ltb n a h) (none_behind (suc a) k (omega arith))

  -- so what is kept then is what is to be kept
  pub start-keeps : 1 ≤ n → n ≤ 64 → (waiting : List (Option Link)) → waiting ≡ map (first_link d n) (numbers 2 63) → Keeps d n [] waiting
  unfolding unplaced
  start-keeps some few waiting is =
      let count : 63 ≡ n - 1 + (64 - n) = omega arith in
      let split : numbers 2 63 ≡ numbers 2 (n - 1) ++ numbers (2 + (n - 1)) (64 - n) =
      ap (numbers 2) count ∙ numbers-append 2 (n - 1) (64 - n) in
      record {
        links =
            ap kept_links (is ∙ ap (map (first_link d n)) split ∙ map-append (first_link d n) (numbers 2 (n - 1)) (numbers (2 + (n - 1)) (64 - n)))
            ∙ kept_append (map (first_link d n) (numbers 2 (n - 1))) (map (first_link d n) (numbers (2 + (n - 1)) (64 - n)))
            ∙ ap₂ ◌++◌ (first_links 2 (n - 1) (omega arith)) (none_behind (2 + (n - 1)) (64 - n) (omega arith))
            ∙ append-nil (map (link d []) (numbers 2 (n - 1)))
            ∙ ap (map (link d [])) (sym (without-nothing (numbers 2 (n - 1))));
      }

-- ---- when a taxon has been placed

-- the links kept after a step on each
stepped : (step : Link → Option Link) (waiting : List (Option Link))
    → kept_links (map (option_and_then step) waiting) ≡ filter_map step (kept_links waiting)
stepped step [] = refl
stepped step (None ∷ waiting) = stepped step waiting
stepped step (Some l ∷ waiting) = ap (cons_option (step l)) (stepped step waiting)

-- a step that keeps the links of the taxa that pass a test, and changes them
changed : (step : Link → Option Link) (old new : ℕ → Link) (test : ℕ → Bool) (us : List ℕ)
    → ((u : ℕ) → step (old u) ≡ cond (test u) (Some (new u)) None) → filter_map step (map old us) ≡ map new (keep test us)
unfolding keep
changed step old new test [] h = refl
changed step old new test (u ∷ us) h = rw (h u) (go (test u) (changed step old new test us h))
  where
    go : (t : Bool) → filter_map step (map old us) ≡ map new (keep test us)
        → cons_option (cond t (Some (new u)) None) (filter_map step (map old us)) ≡ map new (cond t (u ∷ keep test us) (keep test us))
    go true e = ap (λ (ls : List Link). new u ∷ ls) e
    go false e = e

-- a number is one of a list with v at the end if it is one of the list or v
among-snoc : (u : ℕ) (xs : List ℕ) (v : ℕ) → not (among u (xs ++ (v ∷ []))) ≡ (not (among u xs) && not (eqb u v))
unfolding among
among-snoc u [] v = go (eqb u v)
  where
    go : (b : Bool) → not (b || false) ≡ (true && not b)
    go true = refl
    go false = refl
among-snoc u (x ∷ xs) v = go (eqb u x) (among-snoc u xs v)
  where
    go : (b : Bool) → not (among u (xs ++ (v ∷ []))) ≡ (not (among u xs) && not (eqb u v))
        → not (b || among u (xs ++ (v ∷ []))) ≡ (not (b || among u xs) && not (eqb u v))
    go true e = refl
    go false e = e

-- the unplaced taxa when v has been placed besides
unplaced-next : (n : ℕ) (later : List ℕ) (v : ℕ) → keep (λ u. not (eqb u v)) (unplaced n later) ≡ unplaced n (later ++ (v ∷ []))
unfolding unplaced without
unplaced-next n later v =
    keep_twice (λ u. not (eqb u v)) (λ u. not (among u later)) (λ u. not (among u (later ++ (v ∷ [])))) (numbers 2 (n - 1))
    (λ u m. among-snoc u later v)

module _ (d : ℕ → ℕ → ℕ) (later : List ℕ) (u v : ℕ) where
  -- the link to v
  abbrev to_last : Link
  to_last = record { taxon = u; joined = v; length = d u v }

  -- an unplaced taxon's link moves to v, placed last, if v is nearer, and otherwise stays
  nearer : cond (ltb (d u v) (distance d later u)) to_last (link d later u) ≡ link d (later ++ (v ∷ [])) u
  unfolding link distance nearest_placed
  nearer = go (ltb (d u v) (d u (first_least (d u) 1 later))) refl
    where
      go : (b : Bool) → ltb (d u v) (d u (first_least (d u) 1 later)) ≡ b → cond b to_last (link d later u) ≡ link d (later ++ (v ∷ [])) u
      go true e = rw (first_least_snoc_less (d u) 1 later v (ltb-true (d u v) (d u (first_least (d u) 1 later)) e))
      go false e = rw (first_least_snoc_stays (d u) 1 later v (ltb-false (d u v) (d u (first_least (d u) 1 later)) e))

  -- v itself waits no longer
  moved : moved_link d v (link d later u) ≡ cond (not (eqb u v)) (Some (link d (later ++ (v ∷ [])) u)) None
  unfolding link
  moved = go (eqb u v)
    where
      go : (b : Bool) → cond b None (Some (cond (ltb (d u v) (distance d later u)) to_last (link d later u)))
          ≡ cond (not b) (Some (link d (later ++ (v ∷ [])) u)) None
      go true = refl
      go false = ap Some nearer

-- so what is kept then is what is to be kept when v is placed besides
pub place-keeps : (d : ℕ → ℕ → ℕ) (n : ℕ) (later : List ℕ) (v : ℕ) (waiting : List (Option Link)) → Keeps d n later waiting
    → Keeps d n (later ++ (v ∷ [])) (map (option_and_then (moved_link d v)) waiting)
place-keeps d n later v waiting keeps = record {
  links =
      stepped (moved_link d v) waiting
      ∙ ap (filter_map (moved_link d v)) keeps.links
      ∙ changed (moved_link d v) (link d later) (link d (later ++ (v ∷ []))) (λ u. not (eqb u v)) (unplaced n later) (λ u. moved d later u v)
      ∙ ap (map (link d (later ++ (v ∷ [])))) (unplaced-next n later v);
}

-- ---- the next link

-- the first of the least of the links that would place some taxa is the next one
next-least : (d : ℕ → ℕ → ℕ) (later us : List ℕ) → option_to_list (least_item link_length (map (link d later) us)) ≡ next d later us
unfolding next link
next-least d later [] = refl
next-least d later (u ∷ us) =
    ap (λ (l : Link). l ∷ []) (first_least-map (link d later) link_length u us)

-- so is that of the links kept
pub next-kept : (d : ℕ → ℕ → ℕ) (n : ℕ) (later : List ℕ) (waiting : List (Option Link)) → Keeps d n later waiting
    → option_to_list (least_item link_length (kept_links waiting)) ≡ next d later (unplaced n later)
next-kept d n later waiting keeps =
    ap (λ (ls : List Link). option_to_list (least_item link_length ls)) keeps.links ∙ next-least d later (unplaced n later)
