-- What the exported calls hand back and leave, in words, where no question refuses and where one does. Each theorem uses the contract of
-- its call, so that a weaker contract would not prove it.
use mathlib.Core.Path.{◌≡◌, ap, ap₂, ◌∙◌}
use mathlib.Core.Logic.{◌↔◌}
use mathlib.Core.Bool.{true}
use mathlib.Core.List.{List, ◌++◌}
use Prim.Native.Nat.{ℕ, ◌+◌, ◌-◌, ◌*◌, ◌≤◌, ◌<◌}
use native.Mathlib.Omega.{arith}
use borrow.Author.Tests.{eq-eqb, ne_eqb}
use lib.IntN.{ℤ}
use lib.ListN.{length, take, drop}
use lib.Seq.{take-append_seam, length-take-le}
use Rattle.std.specs.Prelude.{Option, Ok, Err, ◌≤ℤ◌}
use Rattle.matrix_form.specs.Shape.{row, state_at, MatrixLists}
use Rattle.matrix_form.specs.Spans.{spans_of}
use Rattle.matrix_form.specs.Outcomes.{value, refused, afterwards}
use Rattle.matrix_form.specs.Refusals.{refusal_number}
use Rattle.matrix_form.specs.Questions.{ask_matrix}
use Rattle.matrix_form.specs.declared.refusal.Refusal.{Refusal}
use Rattle.matrix_form.specs.declared.refusal.Refusal.TheVariants.{ListSize}
use Rattle.difference_form.specs.Rows.{difference, node_difference, weighing}
use Rattle.difference_form.proofs.Laws.Rows.{difference-sym}
use Rattle.prim_form.specs.Network.{network, network_length}
use Rattle.prim_form.specs.Rival.{Connected, links_length}
use Rattle.prim_form.proofs.Shortest.{shortest}
use Rattle.tree_form.specs.Asking.{ask_branching}
use Rattle.tree_form.specs.Branches.{ancestors_of}
use Rattle.tree_form.specs.Growing.{branching}
use Rattle.tree_form.specs.LentNumbers.{lent_numbers, records_in}
use Rattle.file_form.specs.Job.{Job}
use Rattle.file_form.specs.Reading.{read_answer, job_in}
use Rattle.file_form.specs.Written.{LentLists, job_written}
use Rattle.file_form.specs.Calls.{with_header, ask_size, read_outcome, lists_after}
use Rattle.file_form.proofs.File.Outcomes.{line_passed}
use Rattle.file_form.proofs.File.AcceptedRows.{accepted_job}
use Rattle.fit_form.specs.Assignments.{total, IsAssignment, Occurs}
use Rattle.fit_form.specs.Calls.{Low, High, Chosen}
use Rattle.fit_form.specs.Fit.{fitted_total}
use Rattle.fit_form.specs.Handing.{handed_states}
use Rattle.wagner_form.specs.Build.{wagner_length}
use Rattle.wagner_form.specs.Matrix.{matrix_after, wagner_in}
use Rattle.consistency_form.specs.Calls.{lent_floor, floor_answer, index_answer}
use Rattle.consistency_form.specs.Index.{thousand, IsIndex, divided, no_total, index}
use Rattle.consistency_form.specs.declared.index.Index.{Index}
use Rattle.consistency_form.proofs.Division.{index_is}
use Rattle.rivals.proofs.Floor.{floor_of_every_lent_matrix}
use Rattle.listing_form.specs.Listing.{output}
use Rattle.listing_form.specs.Calls.{output_size, ask_output}
use Rattle.listing_form.proofs.OfFiles.{output-some}
use Rattle.export_form.specs.Orders.{order_numbered}
use Rattle.export_form.specs.Answers.{kind_number, order_read, file_read, indexed}
use Rattle.export_form.specs.Calls.{ListExported, ReadExported, network_exported, floor_exported, index_exported}
use Rattle.export_form.specs.Calls.{ask_build, BuildExported, ask_wagner_fit, states_of_tree, total_of_tree, FitExported}
use Rattle.export_form.specs.declared.answers.FileRead.{FileRead}
use Rattle.export_form.specs.declared.answers.Listed.{Listed}
use Rattle.export_form.specs.declared.answers.Measured.{Measured}

-- a listing
module _ (file old new : List ℕ) (r : Listed) (done : ListExported file old new r) where
  -- into 1,048,576 lent bytes: it says how many bytes are printed, and these stand in front of what was lent
  pub list_said : length old ≡ output_size
      → (r ≡ record { refusal = 0; length = length (output file) }) × (new ≡ output file ++ drop (length (output file)) old)
  list_said full =
      let pass : ask_output old ≡ Ok tt = unfold ask_output in rw (eq-eqb (length old) output_size full) in
      (rw pass at done.answers, rw pass at done.bytes)

  -- so the first bytes, as many as it says, are what is printed
  pub list_front : length old ≡ output_size → take r.length new ≡ output file
  list_front full =
      let said = list_said full in
      ap₂ (λ (answer : Listed) (bytes : List ℕ). take answer.length bytes) said.0 said.1
      ∙ take-append_seam (output file) (drop (length (output file)) old)

  -- and that is at least one byte, whatever the file is
  pub list_some : length old ≡ output_size → 1 ≤ r.length
  list_some full = let count = ap (λ (answer : Listed). answer.length) (list_said full).0 in omega (arith, count, output-some file)

  -- into another number of lent bytes: 12 comes back with the length 0, and all are as before
  pub list_kept : (length old ≡ output_size → ⊥) → (r ≡ record { refusal = 12; length = 0 }) × (new ≡ old)
  list_kept other =
      let refuses : ask_output old ≡ Err ListSize = unfold ask_output in rw (ne_eqb (length old) output_size other) in
      (rw refuses at done.answers, rw refuses at done.bytes)

  -- so where 12 comes back nothing was written
  pub list_none : r.refusal ≡ 12 → new ≡ old
  list_none twelve = (list_kept (done.refused.0 twelve)).1

  -- what it says lies within what was lent
  pub list_within : length (take r.length new) ≡ r.length
  list_within = length-take-le r.length new done.within

-- a read
module _ (file : List ℕ) (old new : LentLists) (r : FileRead) (done : ReadExported file old new r) where
  -- of a file that says a job, into lists of full size: the header comes back with the number of the order that it means, or 0, and the job
  -- is written over the lists
  pub read_said : (job : Job) → read_outcome file old ≡ value job
      → (r
      ≡ record { refusal = 0; line = 0; kind = kind_number job.kind; n = job.n; m = job.m; order = order_read job.kind job.order })
      × (new ≡ job_written job old)
  unfolding read_outcome lists_after
  read_said job e = (
    done.answers ∙ ap (λ outcome. file_read (with_header outcome)) e,
    done.lists
        ∙ ap₂ (λ outcome said. afterwards outcome (job_written said old) old) e
        (accepted_job file job (line_passed 0 (ask_size old) (read_answer file) job e).1),
  )

  -- that is refused: number and line come back, with 0 for the rest, and all four lists are as before
  pub read_kept : (number line : ℕ) → read_outcome file old ≡ refused number line
      → (r ≡ record { refusal = number; line = line; kind = 0; n = 0; m = 0; order = 0 }) × (new ≡ old)
  unfolding lists_after
  read_kept number line e = (
    done.answers ∙ ap (λ outcome. file_read (with_header outcome)) e,
    done.lists ∙ ap (λ outcome. afterwards outcome (job_written (job_in file) old) old) e,
  )

-- a build in the order with a number
module _ (lists : MatrixLists) (new : List ℤ) (n m number : ℕ) (r : Measured)
    (done : BuildExported (order_numbered number) (ask_build lists n m number) lists new n m r) where
  -- that no question refuses: the length of the Wagner tree comes back, and the rows of its HTUs stand behind those of the taxa
  pub build_said : ask_build lists n m number ≡ Ok tt
      → (r ≡ record { refusal = 0; length = wagner_length (difference lists.weights) n (wagner_in (order_numbered number) lists n m) })
      × (new ≡ matrix_after lists.codes n (wagner_in (order_numbered number) lists n m))
  build_said e = (rw e at done.answers, rw e at done.matrix)

  -- that is refused: the number comes back, and the matrix is as before
  pub build_kept : (refusal : Refusal) → ask_build lists n m number ≡ Err refusal
      → (r ≡ record { refusal = refusal_number refusal; length = 0 }) × (new ≡ lists.codes)
  build_kept refusal e = (rw e at done.answers, rw e at done.matrix)

-- a fit of the Wagner tree in the order with a number
module _ (lists : MatrixLists) (new : List ℤ) (n m number : ℕ) (low low' high high' chosen chosen' : List ℤ) (r : Measured)
    (done : FitExported (order_numbered number) (ask_wagner_fit lists n m number low high chosen) lists new n m
    low low' high high' chosen chosen' r) where
  -- that no question refuses: the fitted total comes back, the matrix is as after a build, and the lists have the states of the HTUs
  pub fit_said : ask_wagner_fit lists n m number low high chosen ≡ Ok tt
      → (r ≡ record { refusal = 0; length = total_of_tree (order_numbered number) lists n m })
      × (new ≡ matrix_after lists.codes n (wagner_in (order_numbered number) lists n m))
      × (low' ≡ states_of_tree (order_numbered number) Low lists n m low)
      × (high' ≡ states_of_tree (order_numbered number) High lists n m high)
      × (chosen' ≡ states_of_tree (order_numbered number) Chosen lists n m chosen)
  fit_said e = (rw e at done.answers, rw e at done.matrix, rw e at done.is_low, rw e at done.is_high, rw e at done.is_chosen)

  -- that is refused: the number comes back, and all four lists are as before
  pub fit_kept : (refusal : Refusal) → ask_wagner_fit lists n m number low high chosen ≡ Err refusal
      → (r ≡ record { refusal = refusal_number refusal; length = 0 })
      × (new ≡ lists.codes) × (low' ≡ low) × (high' ≡ high) × (chosen' ≡ chosen)
  fit_kept refusal e = (rw e at done.answers, rw e at done.matrix, rw e at done.is_low, rw e at done.is_high, rw e at done.is_chosen)

  module _ (e : ask_wagner_fit lists n m number low high chosen ≡ Ok tt) where
    -- no choice of states on the Wagner tree has a lower total than the one that comes back
    pub fit_least : (states : ℕ → ℕ → ℤ) → IsAssignment (spans_of lists m n) n m states
        → r.length ≤ total (weighing lists.weights).step (wagner_in (order_numbered number) lists n m).tree n m states
    fit_least states is = let back = done.handed e in omega (arith, back.1, back.2.least states is)

    -- the states in the list of the chosen ones are such a choice, of that total
    pub fit_chosen : IsAssignment (spans_of lists m n) n m (handed_states (spans_of lists m n) n chosen')
        × (total (weighing lists.weights).step (wagner_in (order_numbered number) lists n m).tree n m
        (handed_states (spans_of lists m n) n chosen')
        ≡ r.length)
    fit_chosen = let back = done.handed e in (back.2.assigns, back.2.is_total ∙ back.1)

    -- a state lies from the list of the lowest to that of the highest exactly if the HTU has it in some choice of least length
    pub fit_ranges : (v j : ℕ) (s : ℤ) → n < v → v ≤ 2 * n - 2 → 1 ≤ j → j ≤ m
        → ((state_at low' v j ≤ℤ s) × (s ≤ℤ state_at high' v j))
        ↔ Occurs (weighing lists.weights).step (wagner_in (order_numbered number) lists n m).tree (spans_of lists m n) n m v j s
    fit_ranges = (done.handed e).2.ranges

-- an index as numbers: where it is divided, 1000 times the floor is the quotient times the total plus the remainder, which is below the
-- total; where it is not, the total is 0
numbers_say : (floor total : ℕ) (i : Option Index) → IsIndex floor total i
    → ((indexed (value i)).divided ≡ 1
    → (thousand * floor ≡ (indexed (value i)).quotient * total + (indexed (value i)).remainder) × ((indexed (value i)).remainder < total))
    × ((indexed (value i)).divided ≡ 0 → total ≡ 0)
numbers_say floor total i (divided quotient remainder e below) = (λ d. (e, below), λ z. absurd (omega arith))
numbers_say floor total i (no_total none) = (λ d. absurd (omega arith), λ z. none)

-- the difference of two taxa of a lent matrix
abbrev pub taxa_apart : MatrixLists → ℕ → ℕ → ℕ → ℕ
taxa_apart lists m = node_difference (difference lists.weights) (row lists.codes m)

-- the fitted total of a lent branching
abbrev pub lent_total : MatrixLists → ℕ → ℕ → List ℕ → ℕ
lent_total lists n m lent =
    fitted_total (weighing lists.weights).step (ancestors_of n (records_in lent)) (spans_of lists m n) n m

-- the calls that leave all lists as they are
module _ (lists : MatrixLists) (n m : ℕ) where
  -- where no question refuses, the length of the Prim Network comes back
  pub network_said : ask_matrix lists n m ≡ Ok tt
      → network_exported lists n m ≡ record { refusal = 0; length = network_length (network (taxa_apart lists m) n) }
  unfolding network_exported
  network_said e = rw e

  -- which no connected network of the taxa is shorter than
  pub none_shorter : ask_matrix lists n m ≡ Ok tt → (links : List (ℕ × ℕ)) → Connected n links
      → (network_exported lists n m).length ≤ links_length (taxa_apart lists m) links
  unfolding node_difference
  none_shorter e links is =
      rw (network_said e)
      ((shortest (taxa_apart lists m) (λ x y. difference-sym lists.weights (row lists.codes m x) (row lists.codes m y)) n).least links is)

  -- where one does, its number
  pub network_refused : (refusal : Refusal) → ask_matrix lists n m ≡ Err refusal
      → network_exported lists n m ≡ record { refusal = refusal_number refusal; length = 0 }
  unfolding network_exported
  network_refused refusal e = rw e

  -- where no question refuses, the floor comes back
  pub floor_said : ask_matrix lists n m ≡ Ok tt → floor_exported lists n m ≡ record { refusal = 0; length = lent_floor lists n m }
  unfolding floor_exported floor_answer
  floor_said e = rw e

  -- which no choice of states on any branching is below
  pub floor_least : ask_matrix lists n m ≡ Ok tt → (tree : List ℕ) → branching n tree ≡ true
      → (states : ℕ → ℕ → ℤ) → IsAssignment (spans_of lists m n) n m states
      → (floor_exported lists n m).length ≤ total (weighing lists.weights).step tree n m states
  floor_least e tree whole states is =
      rw (floor_said e) ((floor_of_every_lent_matrix lists n m e).least tree whole states is)

  -- where one does, its number
  pub floor_refused : (refusal : Refusal) → ask_matrix lists n m ≡ Err refusal
      → floor_exported lists n m ≡ record { refusal = refusal_number refusal; length = 0 }
  unfolding floor_exported floor_answer
  floor_refused refusal e = rw e

  module _ (lent : List ℕ) where
    -- the index of a branching that no question refuses
    pub index_said : length lent ≡ lent_numbers → ask_branching lists n m (records_in lent) ≡ Ok tt
        → index_exported lists n m lent ≡ indexed (value (index (lent_floor lists n m) (lent_total lists n m lent)))
    unfolding index_exported index_answer
    index_said full e = rw (eq-eqb (length lent) lent_numbers full, e)

    -- so its numbers are those of the floor and the fitted total
    pub index_divides : length lent ≡ lent_numbers → ask_branching lists n m (records_in lent) ≡ Ok tt
        → ((index_exported lists n m lent).divided ≡ 1
        → (thousand * lent_floor lists n m
        ≡ (index_exported lists n m lent).quotient * lent_total lists n m lent + (index_exported lists n m lent).remainder)
        × ((index_exported lists n m lent).remainder < lent_total lists n m lent))
        × ((index_exported lists n m lent).divided ≡ 0 → lent_total lists n m lent ≡ 0)
    index_divides full e =
        rw (index_said full e)
        (numbers_say (lent_floor lists n m) (lent_total lists n m lent) (index (lent_floor lists n m) (lent_total lists n m lent))
        (index_is (lent_floor lists n m) (lent_total lists n m lent)))

    -- of one that a question refuses, its number, and zeros
    pub index_refused : (refusal : Refusal) → length lent ≡ lent_numbers → ask_branching lists n m (records_in lent) ≡ Err refusal
        → index_exported lists n m lent ≡ record { refusal = refusal_number refusal; divided = 0; quotient = 0; remainder = 0 }
    unfolding index_exported index_answer
    index_refused refusal full e = rw (eq-eqb (length lent) lent_numbers full, e)

    -- of a list of another size 12, and zeros, whatever matrix is lent
    pub index_unsized : (length lent ≡ lent_numbers → ⊥)
        → index_exported lists n m lent ≡ record { refusal = 12; divided = 0; quotient = 0; remainder = 0 }
    unfolding index_exported
    index_unsized other = rw (ne_eqb (length lent) lent_numbers other)
