-- What the lent lists hold once a job has been written into them: its rows, its weights and its names, and every other code and byte as
-- before. Such a matrix with such weights passes the questions that are put to lent ones.
use mathlib.Core.Path.{◌≡◌, refl, sym, ap, ap₂, ◌∙◌}
use mathlib.Core.List.{List, [], ◌∷◌, map, zip_with}
use mathlib.Core.Bool.{Bool, true, false}
use Prim.Native.Nat.{ℕ, zero, suc, ◌+◌, ◌-◌, ◌*◌, ◌≤◌, ◌<◌}
use native.Mathlib.Omega.{arith}
use borrow.Author.Tests.{eqb-true, ltb-true, ltb-false}
use lib.Dec.{ltb}
use lib.IntN.{ℤ, pos}
use lib.ListN.{length, get_or, take, drop, length-map, get_or-eq_default}
use Rattle.lists.proofs.Both.{and_left, and_right}
use Rattle.lists.proofs.Every.{every_at}
use Rattle.lists.proofs.Filled.{length-filled}
use Rattle.lists.proofs.Over.{length_over, over_item, over-behind}
use Rattle.lists.proofs.Stripes.{Narrow, length-stripes, stripes_item, stripes-else}
use Rattle.matrix_form.specs.declared.refusal.Refusal.TheVariants.{ListSize}
use Rattle.std.specs.Prelude.{Result, Ok}
use Rattle.matrix_form.specs.Outcomes.{value, afterwards}
use Rattle.tree_form.specs.LentNumbers.{lent_numbers, records_for, records_written}
use Rattle.lists.specs.Over.{stripes}
use Rattle.lists.specs.Numbers.{numbers}
use Rattle.file_form.specs.Branches.{branch_count}
use Rattle.file_form.specs.declared.header.Kind.TheVariants.{Wagner}
use Rattle.file_form.specs.declared.header.Header.{Header}
use Rattle.matrix_form.specs.Shape.{most_taxa, most_characters, columns, matrix_size, row, is_weight}
use Rattle.lists.specs.Tests.{every}
use Rattle.matrix_form.specs.Questions.{all_in_range, are_weights, LentMatrix, LentWeights, one_to, within_limits}
use Rattle.file_form.specs.declared.answer.Refused.{Refused}
use Rattle.file_form.specs.Job.{Job, JobWithinLimits, has_codes, name_form, name_size}
use Rattle.file_form.specs.Reading.{read_answer}
use Rattle.file_form.specs.Calls.{read_says, ask_size, read_outcome, lists_after, ReadDone}
use Rattle.file_form.specs.Written.{names_size, padded, matrix_written, weights_written, names_written, LentLists, job_written}
use Rattle.matrix_form.proofs.Passing.{ask_passed, one_to-true}
use Rattle.file_form.proofs.Rows.Names.{name_length}
use Rattle.file_form.proofs.File.FileOfRead.{file_of_read}
use Rattle.file_form.proofs.File.AcceptedRows.{accepted_job}
use Rattle.file_form.proofs.Lists.Sizes.{lists-full, sized}
use Rattle.file_form.proofs.File.Outcomes.{line_passed, then_passed}

-- items of which none is too wide, by their indices
items_narrow : {A : Type 0} (width : ℕ) (items : List (List A)) → ((k : ℕ) → k < length items → length (get_or items k []) ≤ width)
    → Narrow width items
items_narrow width items narrow k = by (ltb k (length items)) refl
  where
    by : (t : Bool) → ltb k (length items) ≡ t → length (get_or items k []) ≤ width
    by true e = narrow k (ltb-true k (length items) e)
    by false e =
        let past : length items ≤ k = ltb-false k (length items) e in
        rw (get_or-eq_default items [] past) (omega arith)

-- an item of a list, as a function gives it
map_at : {A B : Type 0} (f : A → B) (xs : List A) (none : A) (other : B) (k : ℕ) → k < length xs
    → get_or (map f xs) k other ≡ f (get_or xs k none)
map_at f [] none other k h = absurd (omega arith)
map_at f (x ∷ xs) none other zero h = refl
map_at f (x ∷ xs) none other (suc k) h = map_at f xs none other k (omega arith)

-- a job within the limits
module _ (job : Job) (within : JobWithinLimits job) where
  -- its numbers are within their limits
  limits : (1 ≤ job.n) × (job.n ≤ most_taxa) × (1 ≤ job.m) × (job.m ≤ most_characters)
  unfolding within_limits
  limits =
      let taxa = one_to-true most_taxa job.n (and_left (one_to most_taxa job.n) (one_to most_characters job.m) within.limits) in
      let characters = one_to-true most_characters job.m (and_right (one_to most_taxa job.n) (one_to most_characters job.m) within.limits) in
      (taxa.0, taxa.1, characters.0, characters.1)

  -- each row has m codes
  codes-count : (k : ℕ) → k < length job.rows → length (get_or job.rows k []) ≡ job.m
  unfolding has_codes
  codes-count k h = eqb-true (length (get_or job.rows k [])) job.m (every_at (has_codes job.m) job.rows within.rows_full k [] h)

  -- no row is wider than its place
  rows_narrow : Narrow columns job.rows
  rows_narrow = items_narrow columns job.rows (λ k h. omega (arith, codes-count k h, limits.3))

  -- each name, padded, has 16 bytes
  name_padded : (k : ℕ) → k < length job.names → length (get_or (map padded job.names) k []) ≡ name_size
  name_padded k h =
      ap length (map_at padded job.names [] [] k h)
      ∙ length-filled 0 name_size (get_or job.names k [])
      (name_length (get_or job.names k []) (every_at name_form job.names within.names_formed k [] h))

  -- no padded name is wider than its place
  names_narrow : Narrow name_size (map padded job.names)
  names_narrow =
      items_narrow name_size (map padded job.names)
      (λ k h. omega (arith, name_padded k (omega (arith, length-map job.names padded))))

  -- written into a matrix of full size
  module _ (old : List ℤ) (full : length old ≡ matrix_size) where
    -- the row of taxon v is that of the job
    pub job_row : (v : ℕ) → 1 ≤ v → v ≤ job.n → row (matrix_written job.rows old) job.m v ≡ get_or job.rows (v - 1) []
    unfolding row
    job_row v low high =
        let k : ℕ = v - 1 in
        let size = codes-count k (omega (arith, within.row_count)) in
        let place : k * columns ≡ 0 + k * columns = omega arith in
        ap₂ (λ width start. take width (drop start (matrix_written job.rows old))) (sym size) place
        ∙ stripes_item columns (pos 0) 0 job.rows old rows_narrow k (omega (arith, limits.1, limits.3))

    -- every other code is as before: those behind the codes of a row, and all of a row behind the taxa
    pub job_else : (none : ℤ) (k j : ℕ) → j < columns → (k < job.n → job.m ≤ j)
        → get_or (matrix_written job.rows old) (k * columns + j) none ≡ get_or old (k * columns + j) none
    job_else none k j low behind =
        let place : 0 + k * columns + j ≡ k * columns + j = omega arith in
        ap (λ i. get_or (matrix_written job.rows old) i none) (sym place)
        ∙ stripes-else columns none 0 job.rows old rows_narrow k j (beyond (ltb k job.n) refl) low
        ∙ ap (λ i. get_or old i none) place
      where
        beyond : (t : Bool) → ltb k job.n ≡ t → length (get_or job.rows k []) ≤ j
        beyond true e =
            let small = ltb-true k job.n e in
            omega (arith, codes-count k (omega (arith, within.row_count)), behind small)
        beyond false e =
            let past : length job.rows ≤ k = omega (arith, within.row_count, ltb-false k job.n e) in
            rw (get_or-eq_default job.rows [] past) (omega arith)

    -- the matrix passes the questions that are put to a lent one
    pub job_lent : LentMatrix (matrix_written job.rows old) job.n job.m
    job_lent =
        record {
          full = length-stripes columns 0 job.rows old ∙ full;
          taxon = limits.0;
          taxa = limits.1;
          character = limits.2;
          characters = limits.3;
          known =
              λ v low high.
              let place : v - 1 < length job.rows = omega (arith, within.row_count) in
              ap all_in_range (job_row v low high) ∙ every_at all_in_range job.rows within.codes_in_range (v - 1) [] place;
        }

  -- written into a list of weights of full size
  module _ (old : List ℕ) (full : length old ≡ columns) where
    -- the first m weights are those of the job
    pub job_weights : take job.m (weights_written job.weights old) ≡ job.weights
    job_weights =
        ap (λ count. take count (weights_written job.weights old)) (sym within.weight_count)
        ∙ over_item 0 job.weights old (omega (arith, within.weight_count, limits.3))

    -- behind them all is as before
    pub weights-else : (j : ℕ) → job.m ≤ j → get_or (weights_written job.weights old) j 0 ≡ get_or old j 0
    weights-else j behind = over-behind 0 0 job.weights old j (omega (arith, within.weight_count))

    -- they pass the questions that are put to lent ones
    pub job_weighed : LentWeights (weights_written job.weights old) job.m
    unfolding are_weights
    job_weighed =
        record {
          full = length_over 0 job.weights old ∙ full;
          known = ap (every is_weight) job_weights ∙ within.weights_known;
        }

  -- written into a list of names of full size
  module _ (old : List ℕ) (full : length old ≡ names_size) where
    -- the name of taxon v is that of the job, padded
    pub job_name : (v : ℕ) → 1 ≤ v → v ≤ job.n
        → take name_size (drop ((v - 1) * name_size) (names_written job.names old)) ≡ padded (get_or job.names (v - 1) [])
    job_name v low high =
        let k : ℕ = v - 1 in
        let inside : k < length job.names = omega (arith, within.name_count) in
        let size = name_padded k inside in
        let place : k * name_size ≡ 0 + k * name_size = omega arith in
        ap₂ (λ width start. take width (drop start (names_written job.names old))) (sym size) place
        ∙ stripes_item name_size 0 0 (map padded job.names) old names_narrow k (omega (arith, limits.1))
        ∙ map_at padded job.names [] [] k inside

    -- behind the names all is as before
    pub names-else : (k j : ℕ) → j < name_size → job.n ≤ k
        → get_or (names_written job.names old) (k * name_size + j) 0 ≡ get_or old (k * name_size + j) 0
    names-else k j low behind =
        let place : 0 + k * name_size + j ≡ k * name_size + j = omega arith in
        let past : length (map padded job.names) ≤ k = omega (arith, length-map job.names padded, within.name_count) in
        let none : length (get_or (map padded job.names) k []) ≤ j =
        rw (get_or-eq_default (map padded job.names) [] past) (omega arith) in
        ap (λ i. get_or (names_written job.names old) i 0) (sym place)
        ∙ stripes-else name_size 0 0 (map padded job.names) old names_narrow k j none low
        ∙ ap (λ i. get_or old i 0) place

-- what an accepted read tells: the file says a job within the limits, with this header; the lists had their full size; and the job was
-- written into them
pub record Accepting (file : List ℕ) (old new : LentLists) (header : Header) : Type 0 where
  pub job : Job
  pub read : read_answer file ≡ value job
  pub within : JobWithinLimits job
  pub says : job.header ≡ header
  pub sizes :
      (length old.matrix ≡ matrix_size) × (length old.weights ≡ columns) × (length old.names ≡ names_size)
      × (length old.branches ≡ lent_numbers)
  pub written : new ≡ job_written job old

-- an accepted read tells so
pub read_accepting : (file : List ℕ) (old new : LentLists) (r : Result Header Refused) (header : Header) → ReadDone file old new r → r ≡ Ok header
    → Accepting file old new header
unfolding read_outcome ask_size lists_after
read_accepting file old new r header done e =
    let found = then_passed (read_outcome file old) (λ job. value job.header) header (sym done.says ∙ ap read_says e) in
    let size = line_passed 0 (ask_size old) (read_answer file) found.0 found.1 in
    let full = (ask_passed (sized old) ListSize (Ok tt) size.0).0 in
    record {
      job = found.0;
      read = size.1;
      within = (file_of_read file found.0 size.1).0;
      says = cc found.2;
      sizes = lists-full (length old.matrix) (length old.weights) (length old.names) (length old.branches) full;
      written =
          done.lists ∙ ap₂ (λ x job. afterwards x (job_written job old) old) found.1 (accepted_job file found.0 size.1);
    }

-- a `W` file leaves the lent records as they were
pub wagner-keeps : (file : List ℕ) (old new : LentLists) (r : Result Header Refused) (header : Header) → ReadDone file old new r → r ≡ Ok header
    → header.kind ≡ Wagner → new.branches ≡ old.branches
unfolding records_for stripes zip_with numbers
wagner-keeps file old new r header done e kind =
    let told = read_accepting file old new r header done e in
    let none : length told.job.ancestors ≡ 0 =
    told.within.branches_counted ∙ ap (λ said. branch_count said.kind said.n) told.says ∙ ap (λ k. branch_count k header.n) kind in
    ap (λ (lists : LentLists). lists.branches) told.written ∙ by told.job.ancestors none
  where
    -- of no ancestors nothing is written
    by : (above : List ℕ) → length above ≡ 0 → records_written above old.branches ≡ old.branches
    by [] e = refl
    by (a ∷ above) e = absurd (omega arith)
