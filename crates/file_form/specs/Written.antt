-- What the lent lists hold after an accepted read, and the names that lent bytes hold.
use Rattle.std.specs.Prelude.{List, map, ℕ, ◌*◌, ℤ, take, drop}
use Rattle.lists.specs.Numbers.{numbers}
use Rattle.lists.specs.Filled.{filled}
use Rattle.lists.specs.Over.{over, stripes}
use Rattle.matrix_form.specs.Shape.{columns}
use Rattle.tree_form.specs.LentNumbers.{records_written}
use Rattle.text_form.specs.Bytes.{first_piece}
use Rattle.file_form.specs.Job.{Job, name_size}

-- the lent list of names: 64 names of 16 bytes each
abbrev pub names_size : ℕ
names_size = 1024

-- a name as it stands in the lent list: its bytes, and zeros behind them
abbrev pub padded : List ℕ → List ℕ
padded name = filled name_size 0 name

-- the bytes lent for the name at index k, the first at index 0
unfoldable pub name_bytes : List ℕ → ℕ → List ℕ
name_bytes lent k = take name_size (drop (k * name_size) lent)

-- the names of n taxa that lent bytes hold: each up to its first zero
unfoldable pub names_in : ℕ → List ℕ → List (List ℕ)
names_in n lent = map (λ k. first_piece 0 (name_bytes lent k)) (numbers 0 n)

-- the matrix with rows of codes written over it, row 1 first: each over the front of its 128 codes, and all else as before
abbrev pub matrix_written : List (List ℤ) → List ℤ → List ℤ
matrix_written rows old = stripes columns 0 rows old

-- the lent list of weights with those of a file written over its front, and all else as before
abbrev pub weights_written : List ℕ → List ℕ → List ℕ
weights_written weights old = over 0 weights old

-- the lent list with names written over it, that of row 1 first: each padded, and behind them all as before
abbrev pub names_written : List (List ℕ) → List ℕ → List ℕ
names_written names old = stripes name_size 0 (map padded names) old

-- what the lent lists of a read hold: the codes of a matrix, weights, names, and the numbers of branch records
pub record LentLists : Type 0 where
  pub matrix : List ℤ
  pub weights : List ℕ
  pub names : List ℕ
  pub branches : List ℕ

-- four lists, lent together
abbrev pub lent : List ℤ → List ℕ → List ℕ → List ℕ → LentLists
lent matrix weights names branches = record { matrix = matrix; weights = weights; names = names; branches = branches }

-- the lent lists with a job written over them: its rows, its weights, its names, and the records of its branching, of which a `W` file has
-- none; all else is as before
abbrev pub job_written : Job → LentLists → LentLists
job_written job old =
    lent (matrix_written job.rows old.matrix) (weights_written job.weights old.weights) (names_written job.names old.names)
    (records_written job.ancestors old.branches)
