-- The file of a job within the limits is accepted, and says that job.
use mathlib.Core.Path.{◌≡◌, refl, sym, ap, ap₂, ◌∙◌}
use mathlib.Core.List.{List, [], ◌∷◌, ◌++◌, map, zip_with, append_assoc}
use mathlib.Core.Bool.{Bool, true, false, false≢true}
use Prim.Native.Nat.{ℕ, ◌+◌, ◌≤◌}
use native.Mathlib.Omega.{arith}
use lib.IntN.{ℤ}
use lib.ListN.{length, length-append, take, drop, replicate}
use lib.Seq.{take_at, drop_at}
use borrow.Author.Tests.{le-leb, not-true}
use Rattle.lists.specs.Tests.{every, same_numbers as same_text}
use Rattle.lists.proofs.Every.{every-cons, every_append}
use Rattle.matrix_form.specs.Shape.{most_taxa, most_characters, is_weight}
use Rattle.lists.specs.Numbers.{numbers}
use Rattle.lists.proofs.Numbers.{length-numbers}
use Rattle.lists.proofs.Maps.{length_zip}
use Rattle.lists.proofs.Both.{and_left}
use Rattle.matrix_form.specs.Questions.{one_to, within_limits}
use Rattle.matrix_form.specs.Outcomes.{value, on_line, then_with}
use Rattle.matrix_form.proofs.Passing.{one_to-true}
use Rattle.text_form.specs.Bytes.{line_feed, pieces_at}
use Rattle.matrix_form.specs.declared.refusal.Refusal.TheVariants.{WeightForm}
use Rattle.std.specs.Prelude.{Ok}
use Rattle.file_form.specs.Optional.{optional_there, optional_fields, optional_line, letter_free}
use Rattle.file_form.specs.Weights.{letter_v, weight_in, weight_text, weights_form, weights_said}
use Rattle.text_form.specs.Lines.{ended, lines_of, fields_of}
use Rattle.file_form.specs.Job.{Job, most_bytes, JobWithinLimits, first_text, weight_line, row_text, row_texts, file_of}
use Rattle.file_form.specs.Lines.{ask_lines}
use Rattle.file_form.specs.Header.{row_line, behind_header}
use Rattle.file_form.specs.Formed.{ask_weights}
use Rattle.file_form.specs.Rows.{name_in, codes_in, row_sort}
use Rattle.file_form.specs.Branches.{branch_count, ancestor_in, branch_text, branch_texts, branch_sort, ask_tree}
use Rattle.file_form.specs.Reading.{row_lines, behind_rows, branch_lines, job_of, nothing_more, ask_end, ask_after, ask_behind}
use Rattle.file_form.specs.Reading.{ask_file, ask_length, read_answer}
use Rattle.file_form.proofs.BranchLines.Nodes.{count_most, job_nodes}
use Rattle.file_form.proofs.File.InTurn.{lines_pass}
use Rattle.file_form.proofs.File.OptionalLine.{optional_found, optional_fields_lem, optional_behind, optional_passes, optional_lacks}
use Rattle.file_form.proofs.File.WeightFields.{weights_back, weights-plain, written_form}
use Rattle.file_form.proofs.File.HeaderRead.{first_lacks, header_passes}
use Rattle.text_form.proofs.Parts.{lacks, pieces_ended}
use Rattle.file_form.proofs.Rows.Within.{RowsWithin, rows-first, job_rows, limits-high}
use Rattle.file_form.proofs.BranchLines.Written.{AreNodes, branches_pass, branches_back, branches_lack}
use Rattle.file_form.proofs.Rows.WrittenRows.{row_name, rows_lack, rows_pass, names_back, rows_back}

-- without a `V` line, row 1 is not named `V`, and so no `V` line is found
row_first : {m : ℕ} {earlier : List (List ℕ)} (names : List (List ℕ)) (rows : List (List ℤ)) (rest : List (List ℕ)) → 1 ≤ length names
    → RowsWithin m earlier names rows → letter_free false letter_v names ≡ true → optional_there letter_v (zip_with row_text names rows ++ rest) ≡ false
unfolding letter_free optional_there zip_with name_in fields_of pieces_at same_text
row_first [] rows rest some within free = absurd (omega arith)
row_first (name ∷ names) [] rest some within free = absurd (omega (arith, within.count))
row_first (name ∷ names) (codes ∷ rows) rest some within free =
    ap (λ first. same_text first (letter_v ∷ [])) (row_name name codes (rows-first within).formed) ∙ not-true _ free

-- weights that are written in front of lines, if they are
module _ (m : ℕ) (weights : List ℕ) (count : length weights ≡ m) (known : every is_weight weights ≡ true) (rest : List (List ℕ)) where
  -- their fields have the right form
  form_back : (weighed : Bool) → weighed ≡ true
      → weights_form m (optional_fields (optional_line weighed letter_v (map weight_text weights) ++ rest)) ≡ true
  form_back true there =
      ap (weights_form m) (optional_fields_lem letter_v (map weight_text weights) (weights-plain weights) rest)
      ∙ written_form m weights count known
  form_back false there = absurd (false≢true there)

  -- they are read back
  said_back : (weighed : Bool) → (weighed ≡ false → weights ≡ replicate m 1)
      → weights_said weighed m (optional_fields (optional_line weighed letter_v (map weight_text weights) ++ rest)) ≡ weights
  unfolding weights_said
  said_back true unsaid =
      ap (map weight_in) (optional_fields_lem letter_v (map weight_text weights) (weights-plain weights) rest) ∙ weights_back weights
  said_back false unsaid = sym (unsaid refl)

-- some lines and another one behind them begin with a line
begins : (texts : List (List ℕ)) (last : List ℕ) → (next : List ℕ) × (others : List (List ℕ)) × (texts ++ (last ∷ []) ≡ next ∷ others)
begins [] last = (last, [], refl)
begins (text ∷ texts) last = (text, texts ++ (last ∷ []), refl)

module _ (job : Job) (within : JobWithinLimits job) where
  -- its `C` lines, and nothing behind them
  abbrev rest : List (List ℕ)
  rest = branch_texts job.ancestors ++ ([] ∷ [])

  -- the lines of its rows, and these
  abbrev texts : List (List ℕ)
  texts = row_texts job ++ rest

  -- the lines behind line 1
  abbrev behind : List (List ℕ)
  behind = weight_line job ++ texts

  -- its lines are read back from its file
  lines_back : lines_of (file_of job) ≡ first_text job ∷ behind
  unfolding lines_of file_of branch_texts
  lines_back =
      let said = row_texts job ++ branch_texts job.ancestors in
      pieces_ended (first_text job ∷ weight_line job ++ said)
      (every-cons (lacks line_feed) (first_text job) (weight_line job ++ said) (first_lacks job)
      (every_append (lacks line_feed) (weight_line job) said
      (optional_lacks job.weighed letter_v (map weight_text job.weights) (weights-plain job.weights))
      (every_append (lacks line_feed) (row_texts job) (branch_texts job.ancestors)
      (rows_lack job.names job.rows within.names_formed) (branches_lack 2 job.ancestors))))
      ∙ ap (◌∷◌ (first_text job))
      (append_assoc (weight_line job) said ([] ∷ [])
      ∙ ap (λ others. weight_line job ++ others) (append_assoc (row_texts job) (branch_texts job.ancestors) ([] ∷ [])))

  -- its file is neither too long nor empty
  some_bytes : 1 ≤ length (file_of job)
  unfolding file_of ended
  some_bytes = rw length-append (omega arith)

  -- lines stand behind line 1, and behind a `V` line
  some_texts : 1 ≤ length texts
  some_texts = simp length-append (omega arith)

  -- there is a name
  some-names : 1 ≤ length job.names
  unfolding within_limits
  some-names =
      omega (
        arith,
        within.name_count,
        (one_to-true most_taxa job.n (and_left (one_to most_taxa job.n) (one_to most_characters job.m) within.limits)).0,
      )

  -- each ancestor is a node's number
  nodes : AreNodes job.ancestors
  nodes = job_nodes job within

  -- its `V` line is found if it has one, and only then
  line_found : optional_there letter_v behind ≡ job.weighed
  unfolding optional_line
  line_found = by job.weighed within.name_free
    where
      by : (weighed : Bool) → letter_free weighed letter_v job.names ≡ true
          → optional_there letter_v (optional_line weighed letter_v (map weight_text job.weights) ++ texts) ≡ weighed
      by true free = optional_found letter_v (map weight_text job.weights) (weights-plain job.weights) texts
      by false free = row_first job.names job.rows rest some-names (job_rows job within) free

  -- its weights pass their question
  weights_pass : ask_weights job.header behind ≡ Ok tt
  unfolding ask_weights
  weights_pass =
      optional_passes job.weighed _ WeightForm letter_v (map weight_text job.weights) texts some_texts
      (form_back job.m job.weights within.weight_count within.weights_known texts job.weighed)

  -- the lines behind the header are read back
  behind_back : behind_header job.header (first_text job ∷ behind) ≡ texts
  behind_back = optional_behind job.weighed letter_v (map weight_text job.weights) texts

  -- there are n rows
  rows-count : length (row_texts job) ≡ job.n
  rows-count = length_zip row_text job.names job.rows (job_rows job within).count ∙ within.name_count

  -- the first n of them are the rows
  texts_back : row_lines job.header (first_text job ∷ behind) ≡ row_texts job
  texts_back =
      ap (take job.n) behind_back ∙ take_at (row_texts job) rest job.n rows-count

  -- the lines behind them are its `C` lines
  rest_back : behind_rows job.header (first_text job ∷ behind) ≡ rest
  rest_back = ap (drop job.n) behind_back ∙ drop_at (row_texts job) rest job.n rows-count

  -- there are as many as ancestors
  branches-count : length (branch_texts job.ancestors) ≡ branch_count job.kind job.n
  unfolding branch_texts
  branches-count =
      length_zip branch_text (numbers 2 (length job.ancestors)) job.ancestors (sym (length-numbers 2 (length job.ancestors)))
      ∙ length-numbers 2 (length job.ancestors)
      ∙ within.branches_counted

  -- they are read back
  branches_texts : branch_lines job.header (first_text job ∷ behind) ≡ branch_texts job.ancestors
  unfolding branch_texts
  branches_texts =
      ap (take (branch_count job.kind job.n)) rest_back
      ∙ take_at (branch_texts job.ancestors) ([] ∷ []) (branch_count job.kind job.n) branches-count

  -- they say its ancestors
  ancestors_back : map ancestor_in (branch_lines job.header (first_text job ∷ behind)) ≡ job.ancestors
  unfolding branch_texts
  ancestors_back = ap (map ancestor_in) branches_texts ∙ branches_back 2 job.ancestors

  -- so the lines say the job
  job_back : job_of job.header (first_text job ∷ behind) ≡ job
  unfolding job_of
  job_back = λ i.
      record {
        header = job.header;
        weights =
            said_back job.m job.weights within.weight_count within.weights_known texts job.weighed
            within.weights_unsaid i;
        names = (ap (map name_in) texts_back ∙ names_back job.names job.rows (job_rows job within)) i;
        rows = (ap (map codes_in) texts_back ∙ rows_back job.names job.rows (job_rows job within)) i;
        ancestors = ancestors_back i;
      }

  -- its `C` lines and the end of the file pass their questions, and its branching is one
  rest_passes : (line : ℕ) → ask_after job line rest ≡ value job
  unfolding ask_after ask_end nothing_more branch_texts
  rest_passes line =
      let follow = ask_end (on_line 0 (ask_tree job.kind job.n job.ancestors) (value job)) in
      ap (λ count. ask_lines branch_sort [] line count rest follow) (sym branches-count)
      ∙ lines_pass branch_sort [] line (branch_texts job.ancestors) [] [] follow
      (branches_pass 2 [] job.ancestors refl
      (omega (arith, within.branches_counted, count_most job.kind job.n, (limits-high job.n job.m within.limits).0)) nodes)
      ∙ rw within.branching_said

  -- what stands behind the header passes its questions
  behind_passes : ask_behind job.header (first_text job ∷ behind) ≡ value job
  unfolding ask_behind
  behind_passes =
      let follow = ask_after (job_of job.header (first_text job ∷ behind)) in
      let next = begins (branch_texts job.ancestors) [] in
      ap₂ (λ n lines. ask_lines (row_sort job.header) [] (row_line job.header 1) n lines follow) (sym rows-count)
      (behind_back ∙ ap (λ others. row_texts job ++ others) next.2)
      ∙ lines_pass (row_sort job.header) [] (row_line job.header 1) (row_texts job) next.0 next.1 follow
      (rows_pass job.header [] job.names job.rows (job_rows job within))
      ∙ ap₂ (λ said lines. ask_after said (row_line job.header 1 + length (row_texts job)) lines) job_back (sym next.2)
      ∙ rest_passes (row_line job.header 1 + length (row_texts job))

  -- and so do all lines
  file_passes : ask_file (first_text job ∷ behind) ≡ value job
  unfolding ask_file
  file_passes =
      ap (λ outcome. then_with outcome (λ header. ask_behind header (first_text job ∷ behind)))
      (header_passes job behind (rw length-append (omega (arith, some_texts))) within.limits within.order_fits line_found weights_pass)
      ∙ behind_passes

  -- so its file is accepted with the job
  pub read_of_file : read_answer (file_of job) ≡ value job
  unfolding read_answer ask_length
  read_of_file =
      rw (
        le-leb (length (file_of job)) most_bytes within.short,
        le-leb 1 (length (file_of job)) some_bytes,
        lines_back,
      )
      file_passes
