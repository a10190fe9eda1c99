-- The questions put to what is lent with a call.
use Rattle.std.specs.Prelude.{List, ℕ}
use Rattle.matrix_form.specs.Shape.{MatrixLists, matrix_of}
use Rattle.matrix_form.specs.Outcomes.{Asked}
use Rattle.matrix_form.specs.Questions.{ask_matrix, ask_nodes}
use Rattle.matrix.specs.declared.lent.Lent.{Lent}

-- the lists of a matrix that is lent
abbrev pub lent_lists : Lent → MatrixLists
lent_lists lent = matrix_of lent.matrix.now lent.weights.now

-- those on the matrix and its weights alone
abbrev pub matrix_asked : Lent → Asked
matrix_asked lent = ask_matrix (lent_lists lent) lent.n lent.m

-- those of a call that names some nodes
abbrev pub nodes_asked : Lent → List ℕ → Asked
nodes_asked lent nodes = ask_nodes (lent_lists lent) lent.n lent.m nodes
