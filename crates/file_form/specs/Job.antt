-- A job, what a matrix file says: its header, the weights, the names, the codes and the branching; its limits; and the one file that says
-- it (document 01, "The matrix file"; document 02, M-100, M-101 and M-103).
use Rattle.std.specs.Prelude.{◌≡◌, ◌≤◌, ◌+◌, Bool, true, false, ◌&&◌, not, ℕ, leb, eqb, ℤ, length, replicate, Option, None, Some}
use mathlib.Core.List.{List, [], ◌∷◌, ◌++◌, map, zip_with}
use Rattle.matrix_form.specs.Shape.{is_weight}
use Rattle.matrix_form.specs.Questions.{within_limits, all_in_range}
use Rattle.lists.specs.Tests.{every, same_numbers as same_text}
use Rattle.text_form.specs.Bytes.{tab, is_letter, in_name, joined_by}
use Rattle.file_form.specs.Words.{word_advance, word_closest}
use Rattle.text_form.specs.Decimal.{digits_of, decimal}
use Rattle.text_form.specs.Lines.{ended}
use Rattle.file_form.specs.Optional.{optional_line, letter_free}
use Rattle.file_form.specs.Weights.{letter_v, weight_text}
use Rattle.file_form.specs.Branches.{branch_count, branch_texts, branched}
use Rattle.file_form.specs.declared.header.Header.{Header}
use Rattle.file_form.specs.Kinds.{kind_form}
use Rattle.tree_form.specs.declared.order.Order.{Order}
use Rattle.tree_form.specs.declared.order.Order.TheVariants.{Advance, Closest}

-- the header: the kind of the file, n taxa, m characters, the word that line 1 carries for the order of placing, if any, and whether there
-- is a `V` line (`job.n` is `job.header.n`, and so on); the weights, by character; names and rows of codes stand by row, row 1 first; in
-- an `F` file the immediate ancestors of the other nodes stand by node, node 2 first. What can be written in two ways, as weights that are
-- all 1 with or without a `V` line, a job says: so its file is one
pub record Job : Type 0 where
  pub header : Header
  pub open header use *
  pub weights : List ℕ
  pub names : List (List ℕ)
  pub rows : List (List ℤ)
  pub ancestors : List ℕ

-- a name has at most 16 bytes
abbrev pub name_size : ℕ
name_size = 16

-- a name has 1 to 16 bytes: a letter first, then letters, digits or `_`
unfoldable pub name_form : List ℕ → Bool
name_form [] = false
name_form (byte ∷ bytes) = is_letter byte && (every in_name bytes && leb (length (byte ∷ bytes)) name_size)

-- a name differs from every one of a list
unfoldable pub differs_from_all : List ℕ → List (List ℕ) → Bool
differs_from_all name [] = true
differs_from_all name (other ∷ others) = not (same_text name other) && differs_from_all name others

-- no two names of a list are the same
unfoldable pub all_differ : List (List ℕ) → Bool
all_differ [] = true
all_differ (name ∷ names) = differs_from_all name names && all_differ names

-- a row has exactly m codes
unfoldable pub has_codes : ℕ → List ℤ → Bool
has_codes m codes = eqb (length codes) m

-- the field for the order of placing: none, or its word
abbrev pub order_fields : Option Order → List (List ℕ)
order_fields None = []
order_fields (Some Advance) = word_advance ∷ []
order_fields (Some Closest) = word_closest ∷ []

-- line 1: the word of the kind, n, m, and the word for the order, if any
unfoldable pub first_text : Job → List ℕ
first_text job = joined_by tab ((kind_form job.kind).word ∷ digits_of job.n ∷ digits_of job.m ∷ order_fields job.order)

-- the `V` line, if there is one: the weights
abbrev pub weight_line : Job → List (List ℕ)
weight_line job = optional_line job.weighed letter_v (map weight_text job.weights)

-- the line of a row: its name and its codes
unfoldable pub row_text : List ℕ → List ℤ → List ℕ
row_text name codes = joined_by tab (name ∷ map decimal codes)

-- the lines of the rows
abbrev pub row_texts : Job → List (List ℕ)
row_texts job = zip_with row_text job.names job.rows

-- the one file that says a job: line 1, the `V` line, if any, the rows, and the `C` lines of an `F` file
unfoldable pub file_of : Job → List ℕ
file_of job = ended (first_text job ∷ weight_line job ++ (row_texts job ++ branch_texts job.ancestors))

-- a file has at most 45,000 bytes
abbrev pub most_bytes : ℕ
most_bytes = 45000

-- a job that is formed: n is 1 to 64 and m is 1 to 128; line 1 has no more fields than its kind allows, so that an `F` file has no word
-- for the order; m weights from 1 to 9, without a `V` line all of them 1; n names, well formed and all different, and without a `V` line
-- row 1 is not named `V`; n rows of m codes, each from -999 to 999; in an `F` file an ancestor for each node from 2 to 2n-2, and these are
-- a branching, in a `W` file none
pub record JobFormed (job : Job) : Type 0 where
  pub limits : within_limits job.n job.m ≡ true
  pub order_fits : 3 + length (order_fields job.order) ≤ (kind_form job.kind).most_fields
  pub weight_count : length job.weights ≡ job.m
  pub weights_known : every is_weight job.weights ≡ true
  pub weights_unsaid : job.weighed ≡ false → job.weights ≡ replicate job.m 1
  pub name_count : length job.names ≡ job.n
  pub names_formed : every name_form job.names ≡ true
  pub names_differ : all_differ job.names ≡ true
  pub name_free : letter_free job.weighed letter_v job.names ≡ true
  pub row_count : length job.rows ≡ job.n
  pub rows_full : every (has_codes job.m) job.rows ≡ true
  pub codes_in_range : every all_in_range job.rows ≡ true
  pub branches_counted : length job.ancestors ≡ branch_count job.kind job.n
  pub branching_said : branched job.kind job.n job.ancestors ≡ true

-- a job within the limits: it is formed, and its file is not too long
pub record JobWithinLimits (job : Job) : Type 0 where
  pub formed : JobFormed job
  pub open formed use *
  pub short : length (file_of job) ≤ most_bytes
