-- The two ways in which a taxon joins a growing tree (document 01, "The Wagner tree" and "The three rivals").
use Rattle.std.specs.Prelude.{List, ℕ, ◌+◌, ◌-◌, replicate, set}
use Rattle.tree_form.specs.Ancestors.{tree_size, ancestor}
use Rattle.tree_form.specs.Nodes.{taxa_placed}

-- the tree of row 1 alone: an entry for each of the nodes 0 to 126, and no branch
unfoldable pub only_row_one : List ℕ
only_row_one = replicate tree_size 0

-- the tree with taxon b linked to row 1
unfoldable pub linked : List ℕ → ℕ → List ℕ
linked tree b = set tree b 1

-- the tree with taxon b hung through y on the interval between c and its immediate ancestor: y has c's old ancestor, c and b have y
unfoldable pub hung : List ℕ → ℕ → ℕ → ℕ → List ℕ
hung tree b c y = set (set (set tree y (ancestor tree c)) c y) b y

-- the number of the next HTU of a growing tree of n taxa, k of them placed, k at least 2: n+k-1
unfoldable pub next_htu : ℕ → List ℕ → ℕ
next_htu n tree = n + taxa_placed n tree - 1
