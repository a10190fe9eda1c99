-- For the proofs of the private functions alone; no public contract cites this file.
-- The keys by which the taxon to place next is chosen.
use Rattle.std.specs.Prelude.{◌≡◌, List, ℕ, ◌<◌, cond, get_or}
use Rattle.matrix_form.specs.Shape.{row, MatrixLists}
use Rattle.matrix_form.specs.Questions.{one_to}
use Rattle.difference_form.specs.Rows.{difference, node_difference}
use Rattle.tree_form.specs.Nodes.{Unplaced}
use Rattle.branching.specs.Calls.{place_in}
use Rattle.tree_form.specs.declared.order.Order.{Order}
use Rattle.tree_form.specs.declared.order.Order.TheVariants.{Advance, Closest}

-- a key has an entry for each taxon, by row; place 0 is that of no taxon
abbrev pub key_count : ℕ
key_count = 65

-- the key of a taxon: it stands at the place of the taxon's row
unfoldable pub key_of : List ℕ → ℕ → ℕ
key_of keys v = get_or keys v 0

-- the key of taxon v of a tree: by advancement its difference from row 1, by closeness the length that its placement would add
unfoldable pub key_by : Order → MatrixLists → ℕ → ℕ → List ℕ → ℕ → ℕ
key_by Advance lists n m tree v = node_difference (difference lists.weights) (row lists.codes m) v 1
key_by Closest lists n m tree v = (place_in lists n m tree v).placement.added

-- the keys of the taxa that are not placed
pub record KeysRight (order : Order) (lists : MatrixLists) (n m : ℕ) (tree keys : List ℕ) : Type 0 where
  pub each : (v : ℕ) → Unplaced n tree v → key_of keys v ≡ key_by order lists n m tree v

-- the advancement of taxon v of n: its difference from row 1; of no taxon 0
abbrev pub advancement : MatrixLists → ℕ → ℕ → ℕ → ℕ
advancement lists n m v = cond (one_to n v) (node_difference (difference lists.weights) (row lists.codes m) v 1) 0

-- the keys are the advancements
pub record Advancements (lists : MatrixLists) (n m : ℕ) (keys : List ℕ) : Type 0 where
  pub each : (v : ℕ) → v < key_count → key_of keys v ≡ advancement lists n m v
