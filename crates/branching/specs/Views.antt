-- The view from a tree struct to the list that the definitions speak of. It stands in the crate of the struct.
use Rattle.std.specs.Prelude.{List, ℕ}
use Rattle.branching.specs.declared.tree.Tree.{Tree}

-- the view of a tree struct: its list of ancestors
abbrev pub ancestors : Tree → List ℕ
ancestors tree = tree.ancestors
