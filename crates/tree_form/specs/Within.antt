-- What the functions on tree structs answer for every number n of taxa: a tree struct has entries for at most 64 taxa, so of more there is
-- no growing tree. For n at most 64 these are the plain definitions (`proofs/Within.antt`).
use Rattle.std.specs.Prelude.{List, Bool, cond, ◌&&◌, ℕ, leb}
use Rattle.matrix_form.specs.Shape.{most_taxa}
use Rattle.tree_form.specs.Growing.{growing_tree, branching}
use Rattle.tree_form.specs.Hanging.{next_htu}

-- a growing tree of n taxa, n at most 64
unfoldable pub growing_tree_within : ℕ → List ℕ → Bool
growing_tree_within n tree = leb n most_taxa && growing_tree n tree

-- a branching of n taxa, n at most 64
unfoldable pub branching_within : ℕ → List ℕ → Bool
branching_within n tree = leb n most_taxa && branching n tree

-- the number of the next HTU, and 0 for more than 64 taxa
unfoldable pub next_htu_within : ℕ → List ℕ → ℕ
next_htu_within n tree = cond (leb n most_taxa) (next_htu n tree) 0
