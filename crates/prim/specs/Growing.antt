-- For the proofs of the private functions alone; no public contract cites this file.
-- What is kept of the taxa while the Prim Network grows, over any difference d of two taxa, and what the functions that grow it promise.
-- `later` is the list of the taxa placed after row 1.
use Rattle.std.specs.Prelude.{◌≡◌, List, Option, Some, None, cond, ℕ, ◌+◌, ◌^◌, ◌≤◌, ◌<◌, eqb, ltb, map, filter_map}
use Rattle.filled.specs.Filling.{Pushed}
use Rattle.difference_form.specs.Rows.{most_difference}
use Rattle.prim_form.specs.Network.{Link, unplaced, link}
use Rattle.prim.specs.declared.answer.Network.{Network}

-- the length of a link
abbrev pub link_length : Link → ℕ
link_length l = l.length

module _ (d : ℕ → ℕ → ℕ) where
  -- the link of taxon v before any is placed behind row 1, if v is one of the n taxa
  abbrev pub first_link : ℕ → ℕ → Option Link
  first_link n v = cond (ltb n v) None (Some (record { taxon = v; joined = 1; length = d v 1 }))

  -- the link of an unplaced taxon when v has been placed: none for v itself
  abbrev pub moved_link : ℕ → Link → Option Link
  moved_link v l =
      cond (eqb l.taxon v) None
      (Some (cond (ltb (d l.taxon v) l.length) (record { taxon = l.taxon; joined = v; length = d l.taxon v }) l))

  -- none of n taxa is farther from row 1 than two rows of a lent matrix can be
  abbrev pub Near : ℕ → Type 0
  Near n = (v : ℕ) → 1 ≤ v → v ≤ n → d v 1 ≤ most_difference

  -- of n taxa, what is kept when those of `later` are placed: of each unplaced one the link that would place it
  pub record Keeps (n : ℕ) (later : List ℕ) (waiting : List (Option Link)) : Type 0 where
    pub links : filter_map (λ kept. kept) waiting ≡ map (link d later) (unplaced n later)

-- r is a network handed back, with one more link
pub record WithLink (before : Network) (l : Link) (r : Network) : Type 0 where
  pub links : Pushed before.links l r.links
  pub total : before.total + l.length < 2 ^ 64 → r.total ≡ before.total + l.length
