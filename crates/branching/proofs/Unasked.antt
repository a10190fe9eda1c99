-- A placement without its questions: what it leaves is a placement within the limits of a matrix, and nothing is done beyond them.
use mathlib.Core.Path.{◌≡◌, sym, ap, ◌∙◌}
use mathlib.Core.Logic.{◌⊎◌, ⊎_elim}
use mathlib.Core.Bool.{Bool, cond, ◌&&◌}
use mathlib.Core.List.{List, []}
use Prim.Native.Nat.{ℕ, ◌≤◌, ◌<◌}
use borrow.Author.Tests.{le-leb, lt-leb}
use lib.Dec.{leb}
use lib.IntN.{ℤ}
use Rattle.matrix_form.specs.Shape.{row, MatrixLists}
use Rattle.difference_form.specs.Rows.{difference}
use Rattle.tree_form.specs.declared.placement.Placement.{Placement}
use Rattle.branching.specs.declared.placement.Placed.{Placed}
use Rattle.branching.specs.Views.{ancestors}
use Rattle.tree_form.specs.Hanging.{next_htu}
use Rattle.tree_form.specs.Placing.{AfterPlacing, no_placement, link_first, hang, place_on, place}
use Rattle.tree_form.proofs.Placing.{hung_on}
use Rattle.branching.specs.Unasked.{unasked, UnaskedDone}
use Rattle.branching.specs.Nearest.{nearest_lower, Leaves}
use Rattle.branching.specs.Calls.{place_in}
use Rattle.branching.proofs.InMatrix.{no_row}

-- a placement all of whose numbers are 0
pub zero_placement : (p : Placement) → (p.taxon ≡ 0) × ((p.lower ≡ 0) × ((p.upper ≡ 0) × ((p.htu ≡ 0) × (p.added ≡ 0)))) → p ≡ no_placement
zero_placement p zeros = made p.taxon p.lower p.upper p.htu p.added zeros.0 zeros.1.0 zeros.1.1.0 zeros.1.1.1.0 zeros.1.1.1.1
  where
    made : (b c e y k : ℕ) → b ≡ 0 → c ≡ 0 → e ≡ 0 → y ≡ 0 → k ≡ 0 → record { taxon = b; lower = c; upper = e; htu = y; added = k } ≡ no_placement
    made b c e y k eb ec ee ey ek = cc

module _ (lists : MatrixLists) (n m : ℕ) (tree : List ℕ) (b : ℕ) where
  -- nothing is done
  abbrev nothing : AfterPlacing
  nothing = record { tree = tree; made = []; placement = no_placement }

  -- for more than 64 taxa
  unasked-more : 64 < n → unasked lists n m tree b ≡ nothing
  unfolding unasked
  unasked-more more = ap (λ (t : Bool). cond (t && leb m 128) (place_in lists n m tree b) nothing) (lt-leb n 64 more)

  -- for more than 128 characters
  unasked_wide : n ≤ 64 → 128 < m → unasked lists n m tree b ≡ nothing
  unfolding unasked
  unasked_wide most wide = rw (le-leb n 64 most, lt-leb m 128 wide)

  -- what is handed back then
  pub done_beyond : (r : Placed) → (64 < n) ⊎ ((n ≤ 64) × (128 < m)) → ancestors r.tree ≡ tree → r.placement ≡ no_placement
      → UnaskedDone lists lists.codes n m tree b r
  done_beyond r beyond t p =
      let e = ⊎_elim unasked-more (λ h. unasked_wide h.0 h.1) beyond in
      record { tree = rw e t; placement = rw e p; matrix = rw e (sym (no_row lists.codes (next_htu n tree))) }

  module _ (most : n ≤ 64) (narrow : m ≤ 128) where
    -- otherwise the taxon is placed on its interval
    pub unasked-plain : unasked lists n m tree b ≡ place_in lists n m tree b
    unfolding unasked
    unasked-plain = rw (le-leb n 64 most, le-leb m 128 narrow)

    -- what is handed back is what the placement leaves
    done_leaves : (after : AfterPlacing) (new : List ℤ) (r : Placed) → place_in lists n m tree b ≡ after
        → Leaves after (next_htu n tree) lists.codes new r → UnaskedDone lists new n m tree b r
    done_leaves after new r e l =
        let is : unasked lists n m tree b ≡ after = unasked-plain ∙ e in
        record { tree = rw is l.tree; placement = rw is l.placement; matrix = rw is l.matrix }

    -- no interval: it is linked to row 1
    pub done-linked : (r : Placed) → nearest_lower lists n m tree b ≡ 0
        → Leaves (link_first (difference lists.weights) (row lists.codes m) tree b) (next_htu n tree) lists.codes lists.codes r
        → UnaskedDone lists lists.codes n m tree b r
    unfolding place_in place place_on
    done-linked r none l =
        done_leaves (link_first (difference lists.weights) (row lists.codes m) tree b) lists.codes r
        (ap (place_on (difference lists.weights) (row lists.codes m) n tree b) none) l

    -- an interval: it is hung on it
    pub done-hung : (c : ℕ) (new : List ℤ) (r : Placed) → c ≡ nearest_lower lists n m tree b → 1 ≤ c
        → Leaves (hang (difference lists.weights) (row lists.codes m) n tree b c) (next_htu n tree) lists.codes new r
        → UnaskedDone lists new n m tree b r
    unfolding place_in place
    done-hung c new r is some l =
        done_leaves (hang (difference lists.weights) (row lists.codes m) n tree b c) new r
        (ap (place_on (difference lists.weights) (row lists.codes m) n tree b) (sym is)
        ∙ hung_on (difference lists.weights) n tree (row lists.codes m) b c some) l
