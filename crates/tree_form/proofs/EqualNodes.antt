-- An HTU equal to another node is kept, and its branch has length 0 (document 01, "The Wagner tree").
use mathlib.Core.Path.{◌≡◌, ap, ◌∙◌}
use mathlib.Core.List.{List}
use Prim.Native.Nat.{ℕ}
use lib.IntN.{ℤ}
use Rattle.difference_form.specs.Rows.{difference, node_difference}
use Rattle.difference_form.proofs.Laws.Rows.{difference_self}
use Rattle.tree_form.specs.Ancestors.{ancestor}
use Rattle.tree_form.specs.Branches.{branch_of}

-- where a node has the codes of its immediate ancestor, the record of its branch has length 0
pub equal-length : (weights : List ℕ) (row_at : ℕ → List ℤ) (tree : List ℕ) (v : ℕ) → row_at v ≡ row_at (ancestor tree v)
    → (branch_of (node_difference (difference weights) row_at) tree v).length ≡ 0
unfolding branch_of node_difference
equal-length weights row_at tree v same =
    ap (λ (r : List ℤ). difference weights r (row_at (ancestor tree v))) same ∙ difference_self weights (row_at (ancestor tree v))
