-- The Wagner tree of a lent matrix, and the matrix after a build.
use Rattle.std.specs.Prelude.{List, ℕ, suc, ℤ, drop}
use Rattle.matrix_form.specs.NodeRows.{rows_of, with_rows}
use Rattle.difference_form.specs.Rows.{difference}
use Rattle.tree_form.specs.declared.order.Order.{Order}
use Rattle.wagner_form.specs.Build.{Built, wagner}
use Rattle.matrix_form.specs.Shape.{MatrixLists}

-- the Wagner tree of the rows of a matrix by the weights of its characters, in an order of placing
unfoldable pub wagner_in : Order → MatrixLists → ℕ → ℕ → Built
wagner_in order lists n m = wagner (difference lists.weights) order n (rows_of lists.codes m n)

-- the matrix after a build: behind the rows of the n taxa those of the HTUs are written
unfoldable pub matrix_after : List ℤ → ℕ → Built → List ℤ
matrix_after codes n built = with_rows codes (suc n) (drop n built.rows)
