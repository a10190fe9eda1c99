-- What each exported call answers, for all inputs and refusals, and what the lent lists then hold.
use Rattle.std.specs.Prelude.{◌≡◌, ◌↔◌, List, ◌++◌, ℕ, ◌≤◌, eqb, ℤ, length, drop, Ok}
use Rattle.matrix_form.specs.Shape.{row, MatrixLists}
use Rattle.matrix_form.specs.Spans.{spans_of}
use Rattle.matrix_form.specs.Outcomes.{Asked, ask, and_then, on_line, answered, asked_says, afterwards}
use Rattle.matrix_form.specs.Questions.{ask_matrix}
use Rattle.matrix_form.specs.declared.refusal.Refusal.TheVariants.{ListSize}
use Rattle.difference_form.specs.Rows.{difference, node_difference, weighing}
use Rattle.file_form.specs.Written.{LentLists}
use Rattle.file_form.specs.Calls.{with_header, read_outcome, lists_after}
use Rattle.prim_form.specs.Network.{network, network_length}
use Rattle.tree_form.specs.LentNumbers.{lent_numbers, records_in}
use Rattle.tree_form.specs.declared.order.Order.{Order}
use Rattle.wagner_form.specs.Build.{wagner_length}
use Rattle.wagner_form.specs.Matrix.{matrix_after, wagner_in}
use Rattle.fit_form.specs.Fit.{fitted_total}
use Rattle.fit_form.specs.Calls.{Which, Low, High, Chosen, states_written}
use Rattle.fit_form.specs.Handing.{HandedBack}
use Rattle.fit_form.specs.declared.whole.Fit.{Fit}
use Rattle.consistency_form.specs.Calls.{floor_answer, index_answer}
use Rattle.listing_form.specs.Listing.{output}
use Rattle.listing_form.specs.Calls.{output_size, ask_output}
use Rattle.export_form.specs.Orders.{ask_order, ask_fit_order}
use Rattle.export_form.specs.Answers.{listed, file_read, measured, indexed}
use Rattle.export_form.specs.declared.answers.Listed.{Listed}
use Rattle.export_form.specs.declared.answers.FileRead.{FileRead}
use Rattle.export_form.specs.declared.answers.Measured.{Measured}
use Rattle.export_form.specs.declared.answers.Indexed.{Indexed}

-- the call for a listing answers how many bytes are printed for the file, or the refusal; they stand in front of the lent bytes, and
-- everything behind them is as before; on a refusal all is
pub record ListExported (file old new : List ℕ) (r : Listed) : Type 0 where
  pub answers : r ≡ listed (answered (ask_output old) (length (output file)))
  pub bytes : new ≡ afterwards (asked_says (ask_output old)) (output file ++ drop (length (output file)) old) old
  -- so it is refused, by 12, exactly if not 1,048,576 bytes are lent, and what it counts lies within the lent bytes
  pub refused : (r.refusal ≡ 12) ↔ (length old ≡ output_size → ⊥)
  pub within : r.length ≤ length new

-- a read answers what the file brings; what an accepted file says is then written into the lent lists, and on a refusal they are as before
pub record ReadExported (file : List ℕ) (old new : LentLists) (r : FileRead) : Type 0 where
  pub answers : r ≡ file_read (with_header (read_outcome file old))
  pub lists : new ≡ lists_after file old

-- the length of the Prim Network by the weighted difference, or the refusal
unfoldable pub network_exported : MatrixLists → ℕ → ℕ → Measured
network_exported lists n m =
    measured
    (answered (ask_matrix lists n m) (network_length (network (node_difference (difference lists.weights) (row lists.codes m)) n)))

-- the floor of a lent matrix, or the refusal
unfoldable pub floor_exported : MatrixLists → ℕ → ℕ → Measured
floor_exported lists n m = measured (floor_answer lists n m)

-- the consistency index of a branching that is lent as a list of numbers, or the refusal: the size of that list, then the questions on the
-- branching
unfoldable pub index_exported : MatrixLists → ℕ → ℕ → List ℕ → Indexed
index_exported lists n m lent =
    indexed (on_line 0 (ask (eqb (length lent) lent_numbers) ListSize (Ok tt)) (index_answer lists n m (records_in lent)))

-- the questions of a build in an order with a number: the sizes of the matrix and of the weights, the number, then n and m, the weights
-- and the codes
unfoldable pub ask_build : MatrixLists → ℕ → ℕ → ℕ → Asked
ask_build lists n m number = and_then (ask_order (length lists.codes) (length lists.weights) number) (ask_matrix lists n m)

-- after questions: the length of the Wagner tree under the median codes, or the refusal; the matrix then has the rows of the HTUs, or is as
-- before
pub record BuildExported
    (order : Order)
    (asked : Asked)
    (lists : MatrixLists) (new : List ℤ)
    (n m : ℕ)
    (r : Measured) : Type 0 where
  pub answers : r ≡ measured (answered asked (wagner_length (difference lists.weights) n (wagner_in order lists n m)))
  pub matrix : new ≡ afterwards (asked_says asked) (matrix_after lists.codes n (wagner_in order lists n m)) lists.codes

-- the questions of a fit of the Wagner tree: the sizes of the three lists, then those of the build
unfoldable pub ask_wagner_fit : MatrixLists → ℕ → ℕ → ℕ → List ℤ → List ℤ → List ℤ → Asked
ask_wagner_fit lists n m number low high chosen =
    and_then (ask_fit_order (length low) (length high) (length chosen) (length lists.codes) (length lists.weights) number)
    (ask_matrix lists n m)

-- a list of the matrix's shape with one of the states of each HTU of the matrix's own Wagner tree in each of m characters
abbrev pub states_of_tree : Order → Which → MatrixLists → ℕ → ℕ → List ℤ → List ℤ
states_of_tree order which lists n m old = states_written which (wagner_in order lists n m).tree (spans_of lists m n) n m old

-- the fitted total of the matrix's own Wagner tree
abbrev pub total_of_tree : Order → MatrixLists → ℕ → ℕ → ℕ
total_of_tree order lists n m = fitted_total (weighing lists.weights).step (wagner_in order lists n m).tree (spans_of lists m n) n m

-- after questions: the fitted total of the matrix's own Wagner tree, or the refusal; the matrix then has the rows of the HTUs, and the
-- lists hold, in the HTUs' rows and the m columns, lowest, highest and chosen states; all else, and all on a refusal, is as before. The
-- ranges written are those of all assignments of least length, the chosen states are one, and the total is theirs.
pub record FitExported
    (order : Order)
    (asked : Asked)
    (lists : MatrixLists) (new : List ℤ)
    (n m : ℕ)
    (low low' high high' chosen chosen' : List ℤ)
    (r : Measured) : Type 0 where
  pub answers : r ≡ measured (answered asked (total_of_tree order lists n m))
  pub matrix : new ≡ afterwards (asked_says asked) (matrix_after lists.codes n (wagner_in order lists n m)) lists.codes
  pub is_low : low' ≡ afterwards (asked_says asked) (states_of_tree order Low lists n m low) low
  pub is_high : high' ≡ afterwards (asked_says asked) (states_of_tree order High lists n m high) high
  pub is_chosen : chosen' ≡ afterwards (asked_says asked) (states_of_tree order Chosen lists n m chosen) chosen
  pub handed : asked ≡ Ok tt
      → (fit : Fit)
      × (fit.total ≡ r.length)
      × HandedBack (weighing lists.weights).step (wagner_in order lists n m).tree (spans_of lists m n) n m low' high' chosen' fit
