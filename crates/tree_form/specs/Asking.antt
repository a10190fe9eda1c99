-- The questions of a placement, of a lent branching and of a finished tree, in document 01's order.
use Rattle.std.specs.Prelude.{List, not, Ok, ℕ, eqb, length}
use Rattle.matrix_form.specs.Outcomes.{Asked, ask, and_then}
use Rattle.matrix_form.specs.Questions.{one_to, ask_rows_of, ask_matrix}
use Rattle.matrix_form.specs.declared.refusal.Refusal.TheVariants.{ListSize, NotThere, NotBranching}
use Rattle.tree_form.specs.declared.branch.Branch.{Branch}
use Rattle.tree_form.specs.Nodes.{in_tree, htus_with, taxa_placed}
use Rattle.tree_form.specs.Growing.{growing_tree, branching}
use Rattle.tree_form.specs.Branches.{lent_branching}
use Rattle.matrix_form.specs.Shape.{MatrixLists}

-- the HTUs of a growing tree of n taxa, by the taxa that it has placed
unfoldable pub htus_of : ℕ → List ℕ → List ℕ
htus_of n tree = htus_with n (taxa_placed n tree)

-- the questions of a placement of taxon b on a tree handed in: those on the matrix; the taxon exists; the tree is a growing tree; the
-- taxon is not yet in it; the rows of its HTUs
unfoldable pub ask_placement : MatrixLists → ℕ → ℕ → List ℕ → ℕ → Asked
ask_placement lists n m tree b =
    and_then (ask_matrix lists n m)
    (ask (one_to n b) NotThere
    (ask (growing_tree n tree) NotBranching
    (ask (not (in_tree tree b)) NotThere (ask_rows_of lists m (htus_of n tree)))))

-- 125 branch records
abbrev pub branches_size : ℕ
branches_size = 125

-- the questions of a call on a lent branching that reads no HTU row, as a fitting: the size of the list of branches, those on the
-- matrix, whether the branches are a branching
unfoldable pub ask_branching : MatrixLists → ℕ → ℕ → List Branch → Asked
ask_branching lists n m records =
    ask (eqb (length records) branches_size) ListSize
    (and_then (ask_matrix lists n m) (ask (lent_branching n records) NotBranching (Ok tt)))

-- the questions of a finished tree: those on the matrix, whether it is a branching of all n taxa, the rows of its HTUs
unfoldable pub ask_finished : MatrixLists → ℕ → ℕ → List ℕ → Asked
ask_finished lists n m tree =
    and_then (ask_matrix lists n m)
    (ask (branching n tree) NotBranching (ask_rows_of lists m (htus_of n tree)))

-- those of a call that hands it back as branch records, into a lent list of so many records: the size of that list comes first
unfoldable pub ask_records : MatrixLists → ℕ → ℕ → List ℕ → ℕ → Asked
ask_records lists n m tree room = ask (eqb room branches_size) ListSize (ask_finished lists n m tree)
