-- What the functions that put blocks are handed, and the texts that they put. No public contract cites this.
use Rattle.std.specs.Prelude.{◌≡◌, true, ℕ, ◌-◌, ◌*◌, ◌≤◌, ◌<◌, Bool, ℤ, length, get_or}
use mathlib.Core.List.{List, []}
use Rattle.std.specs.Borrow.{MutBor}
use Rattle.lists.specs.Filled.{filled}
use Rattle.file_form.specs.Job.{name_form}
use Rattle.file_form.specs.Written.{padded}
use Rattle.tree_form.specs.declared.placement.Placement.{Placement}
use Rattle.branching.specs.declared.tree.Tree.{Tree}
use Rattle.tree_form.specs.Placing.{no_placement}
use Rattle.wagner.specs.Calls.{most_placements}
use Rattle.branching.specs.Views.{ancestors}
use Rattle.matrix_form.specs.Shape.{state_at}
use Rattle.matrix_form.specs.declared.spans.Span.{Span}
use Rattle.fit_form.specs.Fit.{chosen_state, range}
use Rattle.fit_form.specs.Calls.{branch_at}
use Rattle.fit_form.specs.declared.whole.Fit.{Fit}
use Rattle.fitting.specs.declared.ranges.Ranges.{Ranges}
use Rattle.listing_form.specs.Lines.{joined}
use Rattle.listing_form.specs.Blocks.{fitted_lines, node_lines, state_lines}
use Rattle.file_form.specs.Written.{name_bytes}
use Rattle.lines.specs.declared.put.Listing.{Listing}
use Rattle.lines.specs.Puts.{Puts}

-- each call puts the line of one thing
abbrev pub PutsLine : {T : Type 0} → (MutBor Listing → T → Unit {0} → MutBor Listing → Type 0) → (T → List ℕ) → Type 0
PutsLine {T} calls line =
    (listing : MutBor Listing) (thing : T) (done : Unit {0}) (after : MutBor Listing) → calls listing thing done after
    → Puts (line thing) listing.now after.now

-- lent bytes hold the names of n taxa: each well formed, and padded with zeros
pub record HoldsNames (n : ℕ) (names : List (List ℕ)) (lent : List ℕ) : Type 0 where
  pub held : (k : ℕ) → k < n → name_bytes lent k ≡ padded (get_or names k [])
  pub formed : (k : ℕ) → k < n → name_form (get_or names k []) ≡ true

-- an array of 63 and a number hold placements: these stand first, in their order, and placements of zeros behind them
pub record HoldsPlacements (placements array : List Placement) (number : ℕ) : Type 0 where
  pub list : array ≡ filled most_placements no_placement placements
  pub count : number ≡ length placements

-- lists of the matrix's shape hold the lowest, the highest and the chosen states of the HTUs
pub record HoldsStates (tree : List ℕ) (rows : List (List Span)) (n m : ℕ) (low high chosen : List ℤ) : Type 0 where
  pub low_at : (v j : ℕ) → n < v → v ≤ 2 * n - 2 → 1 ≤ j → j ≤ m → state_at low v j ≡ (range tree rows n v j).low
  pub high_at : (v j : ℕ) → n < v → v ≤ 2 * n - 2 → 1 ≤ j → j ≤ m → state_at high v j ≡ (range tree rows n v j).high
  pub chosen_at : (v j : ℕ) → n < v → v ≤ 2 * n - 2 → 1 ≤ j → j ≤ m → state_at chosen v j ≡ chosen_state tree rows n v j

-- the length that a fit has of the branch of node v
abbrev pub length_in : Fit → ℕ → ℕ
length_in fit v = (branch_at fit.branches v).length

-- its mark
abbrev pub mark_in : Fit → ℕ → Bool
mark_in fit v = (branch_at fit.branches v).mark

module _ (n : ℕ) (names : List (List ℕ)) where
  -- the text of the branches of a tree with their fit: the `T` lines, and `t`
  unfoldable pub fitted_texts : Tree → Fit → List ℕ
  fitted_texts tree fit = joined (fitted_lines n names (ancestors tree) (length_in fit) (mark_in fit) fit.total)

  module _ (ranges : Ranges) (m : ℕ) where
    -- the text of the states of node v: its `H` lines, with the states that three lists of the matrix's shape hold
    unfoldable pub node_texts : ℕ → List ℕ
    node_texts v = joined (node_lines n names (state_at ranges.low) (state_at ranges.high) (state_at ranges.chosen) m v)

    -- that of all HTUs
    unfoldable pub state_texts : List ℕ
    state_texts = joined (state_lines n names (state_at ranges.low) (state_at ranges.high) (state_at ranges.chosen) m)
