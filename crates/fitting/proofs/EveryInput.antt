-- What the layers of a fit leave and answer whatever tree, matrix and lists are handed in.
use Rattle.std.proofs.Common.{◌≡◌, ℕ, ◌<◌, ◌≤◌, List, length, ℤ, ap}
use Rattle.matrix_form.specs.Shape.{columns, state_at, MatrixLists}
use Rattle.matrix_form.proofs.Limits.{many-unshaped}
use Rattle.matrix_form.proofs.NodeRows.{taxon-unwritten}
use Rattle.fit_form.specs.declared.characters.States.{States}
use Rattle.fit_form.specs.declared.whole.Fit.{Fit}
use Rattle.fitting.specs.Costs.{TotalOf}
use Rattle.fitting.specs.Lists.{TreeFitted, StatesOf, all_shaped, node_shaped, no_states}

module _ (lists : MatrixLists) (n m : ℕ) (tree : List ℕ) (low low' high high' chosen chosen' : List ℤ) (fit : Fit)
    (of : TreeFitted lists n m tree low low' high high' chosen chosen' fit) where
  -- each list keeps its length
  pub sizes-same : (length low' ≡ length low) × (length high' ≡ length high) × (length chosen' ≡ length chosen)
  sizes-same = (of.only.0.size, of.only.1.size, of.only.2.size)

  -- and the states of the taxa
  pub taxa_same : (v j : ℕ) → 1 ≤ v → v ≤ n → 1 ≤ j → j ≤ columns
      → (state_at low' v j ≡ state_at low v j) × (state_at high' v j ≡ state_at high v j) × (state_at chosen' v j ≡ state_at chosen v j)
  taxa_same v j p q l h = (
    taxon-unwritten n m low low' of.only.0 v j p q l h,
    taxon-unwritten n m high high' of.only.1 v j p q l h,
    taxon-unwritten n m chosen chosen' of.only.2 v j p q l h,
  )

  -- for more than 64 taxa no list is written, and the total is 0
  pub many-unfitted : 64 < n → (low' ≡ low) × (high' ≡ high) × (chosen' ≡ chosen) × (fit.total ≡ 0)
  unfolding all_shaped
  many-unfitted more =
      let none = of.unshaped (rw (many-unshaped (length lists.codes) n m more)) in
      (none.0, none.1, none.2, ap (λ (f : Fit). f.total) none.3)

-- nor are there states of a node
pub many-unfound : (lists : MatrixLists) (n m : ℕ) (tree : List ℕ) (v j : ℕ) (r : States) → StatesOf lists n m tree v j r → 64 < n
    → r ≡ no_states
unfolding node_shaped
many-unfound lists n m tree v j r of more = of.unshaped (rw (many-unshaped (length lists.codes) n m more))

-- nor is a total counted
pub many-uncounted : (lists : MatrixLists) (n m : ℕ) (tree : List ℕ) (r : ℕ) → TotalOf lists n m tree r → 64 < n → r ≡ 0
many-uncounted lists n m tree r of more = of.unshaped (many-unshaped (length lists.codes) n m more)
