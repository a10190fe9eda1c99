-- The states that a node may have in a character: all whole numbers from one to another, and of a code that one alone.
use Rattle.std.specs.Prelude.{List, map, ℕ, ℤ}
use Rattle.matrix_form.specs.Shape.{MatrixLists}
use Rattle.matrix_form.specs.NodeRows.{rows_of}
use Rattle.matrix_form.specs.declared.spans.Span.{Span}

-- the states from low to high
abbrev pub span : ℤ → ℤ → Span
span low high = record { low = low; high = high }

-- a code is both ends
unfoldable pub only : ℤ → Span
only code = span code code

-- rows of codes, as rows of states
unfoldable pub singles : List (List ℤ) → List (List Span)
singles rows = map (map only) rows

-- the states of taxa 1 to n, row by row, in a lent matrix of m characters
unfoldable pub spans_of : MatrixLists → ℕ → ℕ → List (List Span)
spans_of lists m n = singles (rows_of lists.codes m n)
