-- The header of a file that passes its questions: its lines are written in the one way, and say what is read from them; and the header of
-- a job passes.
use mathlib.Core.Path.{◌≡◌, refl, ap, ap₂, ◌∙◌}
use mathlib.Core.List.{List, [], ◌∷◌, ◌++◌}
use mathlib.Core.Bool.{true, false≢true}
use Prim.Native.Nat.{ℕ, zero, suc, ◌+◌, ◌≤◌, ◌<◌}
use native.Mathlib.Omega.{arith}
use borrow.Author.Tests.{le-leb}
use lib.ListN.{length, get_or, drop, length-drop}
use Rattle.lists.specs.Tests.{every, same_numbers as same_text}
use Rattle.lists.proofs.Both.{and_both}
use Rattle.matrix_form.specs.Outcomes.{value}
use Rattle.matrix_form.specs.Questions.{within_limits}
use Rattle.matrix_form.specs.declared.refusal.Refusal.TheVariants.{FirstLine, UnknownOrder, BeyondLimits, WeightForm}
use Rattle.std.specs.Prelude.{Ok}
use Rattle.matrix_form.proofs.Passing.{ask_passed}
use Rattle.file_form.specs.declared.header.Header.{Header}
use Rattle.text_form.specs.Bytes.{tab, line_feed, joined_by}
use Rattle.text_form.specs.Decimal.{digits_of}
use Rattle.file_form.specs.Job.{Job, order_fields, first_text}
use Rattle.file_form.specs.Kinds.{kind_form, is_kind, kind_said}
use Rattle.file_form.specs.Formed.{ask_weights}
use Rattle.file_form.specs.declared.header.Kind.{Kind}
use Rattle.file_form.specs.declared.header.Kind.TheVariants.{Wagner, Own}
use Rattle.text_form.specs.Lines.{fields_of}
use Rattle.file_form.specs.Optional.{optional_there, optional_fields, lines_taken, optional_line}
use Rattle.file_form.specs.Weights.{letter_v, weights_form}
use Rattle.file_form.specs.Header.{order_in, header_from, first_fields, header_in, header_lines, behind_header}
use Rattle.file_form.specs.Header.{first_form, first_line_form, order_known, ask_first_line, ask_header}
use Rattle.file_form.proofs.File.Outcomes.{line_passed}
use Rattle.file_form.proofs.File.OptionalLine.{optional_passed, optional_left, optional_split}
use Rattle.file_form.proofs.File.FirstForm.{form_tells}
use Rattle.file_form.proofs.File.Order.{order_written, order_back, order_passes, order-plain}
use Rattle.text_form.proofs.Digits.{digits_of_number, number_of_digits, digits_form}
use Rattle.text_form.proofs.Parts.{lacks, joined_pieces}
use Rattle.text_form.proofs.Plain.{plain, digits_plain, line_fields, line_lacks}
use Rattle.file_form.proofs.Rows.Within.{limits-high}

-- the fields that say a header: the word of its kind, n, m, and the word for the order, if any
abbrev header_fields : Header → List (List ℕ)
header_fields header = (kind_form header.kind).word ∷ digits_of header.n ∷ digits_of header.m ∷ order_fields header.order

-- a list of three items or more is these three, and what stands behind them
three_first : (fields : List (List ℕ)) → 3 ≤ length fields
    → get_or fields 0 [] ∷ get_or fields 1 [] ∷ get_or fields 2 [] ∷ drop 3 fields ≡ fields
three_first [] h = absurd (omega arith)
three_first (word ∷ []) h = absurd (omega arith)
three_first (word ∷ n ∷ []) h = absurd (omega arith)
three_first (word ∷ n ∷ m ∷ fields) h = refl

-- fields of line 1 that pass are written in the one way
fields_read : (fields behind : List (List ℕ)) → first_form fields ≡ true → order_known fields ≡ true
    → header_fields (header_from fields behind) ≡ fields
unfolding order_known order_in
fields_read fields behind form known =
    let told = form_tells fields form in
    let said = header_from fields behind in
    let single : length (drop 3 fields) ≤ 1 = omega (arith, length-drop 3 fields, told.few) in
    ap (λ order. (kind_form said.kind).word ∷ digits_of said.n ∷ digits_of said.m ∷ order)
    (order_written (drop 3 fields) single known)
    ∙ ap₂ (λ n m. (kind_form said.kind).word ∷ n ∷ m ∷ drop 3 fields) (digits_of_number (get_or fields 1 []) told.taxa)
    (digits_of_number (get_or fields 2 []) told.characters)
    ∙ ap (λ word. word ∷ get_or fields 1 [] ∷ get_or fields 2 [] ∷ drop 3 fields) told.word
    ∙ three_first fields told.several

-- line 1 of the right form: its fields have it, other lines stand behind it, and it is written in the one way
module _ (lines : List (List ℕ)) (form : first_line_form lines ≡ true) where
  -- its fields have the right form
  pub first-formed : first_form (first_fields lines) ≡ true
  unfolding first_line_form
  first-formed = by lines form
    where
      by : (xs : List (List ℕ)) → first_line_form xs ≡ true → first_form (first_fields xs) ≡ true
      by [] e = absurd (false≢true e)
      by (behind ∷ []) e = absurd (false≢true e)
      by (line ∷ next ∷ others) e = e

  -- other lines stand behind it
  pub several-lines : 1 < length lines
  unfolding first_line_form
  several-lines = by lines form
    where
      by : (xs : List (List ℕ)) → first_line_form xs ≡ true → 1 < length xs
      by [] e = absurd (false≢true e)
      by (behind ∷ []) e = absurd (false≢true e)
      by (line ∷ next ∷ others) e = omega arith

  -- it is the first line, and the others stand behind it
  pub lines_split : lines ≡ get_or lines 0 [] ∷ drop 1 lines
  unfolding first_line_form
  lines_split = by lines form
    where
      by : (xs : List (List ℕ)) → first_line_form xs ≡ true → xs ≡ get_or xs 0 [] ∷ drop 1 xs
      by [] e = absurd (false≢true e)
      by (line ∷ others) e = refl

  -- with a word for the order that is known, it has no more fields than its kind allows
  pub order_fits : order_known (first_fields lines) ≡ true
      → 3 + length (order_fields (header_in lines).order) ≤ (kind_form (header_in lines).kind).most_fields
  unfolding header_in
  order_fits known =
      omega (
        arith,
        ap length (fields_read (first_fields lines) (drop 1 lines) first-formed known),
        (form_tells (first_fields lines) first-formed).fits,
      )

  -- with a word for the order that is known, it is the line 1 of a job with this header
  pub first_written : order_known (first_fields lines) ≡ true → (job : Job) → job.header ≡ header_in lines
      → first_text job ≡ get_or lines 0 []
  unfolding first_text header_in fields_of
  first_written known job e =
      ap (λ header. joined_by tab (header_fields header)) e
      ∙ ap (joined_by tab) (fields_read (first_fields lines) (drop 1 lines) first-formed known)
      ∙ joined_pieces tab (get_or lines 0 [])

-- what a header that passes tells
pub record HeaderPassed (lines : List (List ℕ)) (header : Header) : Type 0 where
  pub form : first_line_form lines ≡ true
  pub order : order_known (first_fields lines) ≡ true
  pub limits : within_limits (header_in lines).n (header_in lines).m ≡ true
  pub weights : ask_weights (header_in lines) (drop 1 lines) ≡ Ok tt
  pub is : header_in lines ≡ header

-- a header that passes tells so
pub header_passed : (lines : List (List ℕ)) (header : Header) → ask_header lines ≡ value header → HeaderPassed lines header
unfolding ask_header ask_first_line ask_weights
header_passed lines header e =
    let first = line_passed 1 (ask_first_line lines) _ header e in
    let second = line_passed 2 (ask_weights (header_in lines) (drop 1 lines)) (value (header_in lines)) header first.1 in
    let form = ask_passed (first_line_form lines) FirstLine _ first.0 in
    let order = ask_passed (order_known (first_fields lines)) UnknownOrder _ form.1 in
    let limits = ask_passed (within_limits (header_in lines).n (header_in lines).m) BeyondLimits (Ok tt) order.1 in
    record { form = form.0; order = order.0; limits = limits.0; weights = second.0; is = cc second.1 }

-- the lines behind line 1, and of these those behind some more
pub drop-behind : (k : ℕ) (lines : List (List ℕ)) → drop k (drop 1 lines) ≡ drop (suc k) lines
drop-behind zero [] = refl
drop-behind (suc k) [] = refl
drop-behind k (line ∷ lines) = refl

-- a file's lines whose `V` line passes, if it is there
module _ (lines : List (List ℕ)) (several : 1 < length lines) (asked : ask_weights (header_in lines) (drop 1 lines) ≡ Ok tt) where
  -- the fields of a `V` line are m weights
  pub weights-formed : (header_in lines).weighed ≡ true → weights_form (header_in lines).m (optional_fields (drop 1 lines)) ≡ true
  unfolding ask_weights
  weights-formed there =
      (optional_passed (header_in lines).weighed (weights_form (header_in lines).m (optional_fields (drop 1 lines))) WeightForm (drop 1 lines)
      asked there).1

  -- lines stand behind the header
  pub header_behind : header_lines (header_in lines) < length lines
  unfolding ask_weights
  header_behind =
      let left =
      optional_left (header_in lines).weighed (weights_form (header_in lines).m (optional_fields (drop 1 lines))) WeightForm (drop 1 lines)
      asked (omega (arith, length-drop 1 lines)) in
      omega (arith, length-drop 1 lines, left)

  -- behind line 1 stand the `V` line, if it is there, and the lines behind the header
  pub header_split : drop 1 lines
      ≡ optional_line (header_in lines).weighed letter_v (optional_fields (drop 1 lines)) ++ behind_header (header_in lines) lines
  unfolding ask_weights header_in
  header_split =
      optional_split letter_v (header_in lines).weighed (weights_form (header_in lines).m (optional_fields (drop 1 lines))) WeightForm
      (drop 1 lines) refl asked
      ∙ ap (λ behind. optional_line (header_in lines).weighed letter_v (optional_fields (drop 1 lines)) ++ behind)
      (drop-behind (lines_taken (header_in lines).weighed) lines)

-- the word of a kind is known, says the kind and is plain
kind-known : (kind : Kind) → is_kind (kind_form kind).word ≡ true
unfolding is_kind same_text
kind-known Wagner = refl
kind-known Own = refl

-- it says the kind
kind_back : (kind : Kind) → kind_said (kind_form kind).word ≡ kind
unfolding kind_said same_text
kind_back Wagner = refl
kind_back Own = refl

-- it is plain
kind-plain : (kind : Kind) → plain (kind_form kind).word ≡ true
unfolding every
kind-plain Wagner = refl
kind-plain Own = refl

-- line 1 of a job is the word of its kind, n, m, and the word for the order, if any
module _ (job : Job) where
  -- the fields behind the first
  abbrev behind : List (List ℕ)
  behind = digits_of job.n ∷ digits_of job.m ∷ order_fields job.order

  -- its fields hold neither a tab nor a line feed
  words_plain : every plain ((kind_form job.kind).word ∷ behind) ≡ true
  unfolding every
  words_plain = and_both (kind-plain job.kind) (and_both (digits_plain job.n) (and_both (digits_plain job.m) (order-plain job.order)))

  -- its fields are read back
  pub first_fields_lem : fields_of (first_text job) ≡ (kind_form job.kind).word ∷ behind
  unfolding first_text
  first_fields_lem = line_fields (kind_form job.kind).word behind words_plain

  -- it holds no line feed
  pub first_lacks : lacks line_feed (first_text job) ≡ true
  unfolding first_text
  first_lacks = line_lacks (kind_form job.kind).word behind words_plain

  -- behind it stand lines, and among them the `V` line if the job has one: it says the header of the job, and passes
  module _ (rest : List (List ℕ)) (some : 1 ≤ length rest) (within : within_limits job.n job.m ≡ true)
      (fits : 3 + length (order_fields job.order) ≤ (kind_form job.kind).most_fields) (found : optional_there letter_v rest ≡ job.weighed)
      (asked : ask_weights job.header rest ≡ Ok tt) where
    -- its header is read back
    header_back : header_in (first_text job ∷ rest) ≡ job.header
    unfolding header_in order_in
    header_back =
        ap (λ fields. header_from fields rest) first_fields_lem
        ∙ rw (kind_back job.kind, number_of_digits job.n, number_of_digits job.m, order_back job.order, found)

    -- its form is right
    form_back : first_line_form (first_text job ∷ rest) ≡ true
    unfolding first_line_form first_form
    form_back =
        let high = limits-high job.n job.m within in
        by rest some
        ∙ ap first_form first_fields_lem
        ∙ and_both
        (and_both (le-leb 3 (length ((kind_form job.kind).word ∷ behind)) (omega arith))
        (rw (kind_back job.kind)
        (le-leb (length ((kind_form job.kind).word ∷ behind)) (kind_form job.kind).most_fields (omega (arith, fits)))))
        (and_both (kind-known job.kind) (and_both (digits_form job.n (omega arith)) (digits_form job.m (omega arith))))
      where
        -- a line stands behind it: its fields decide
        by : (lines : List (List ℕ)) → 1 ≤ length lines → first_line_form (first_text job ∷ lines) ≡ first_form (fields_of (first_text job))
        by [] none = absurd (omega arith)
        by (next ∷ others) h = refl

    -- its word for the order is known
    known_back : order_known (fields_of (first_text job)) ≡ true
    unfolding order_known
    known_back = ap order_known first_fields_lem ∙ order_passes job.order

    -- so its questions pass
    pub header_passes : ask_header (first_text job ∷ rest) ≡ value job.header
    unfolding ask_header ask_first_line ask_weights
    header_passes = rw (form_back, known_back, header_back, within, asked)
