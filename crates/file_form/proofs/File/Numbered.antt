-- A file is refused by a number from 1 to 11 or from 14 to 17, and by no other: a `W` file never by 14 or 17, an `F` file never by 15.
-- (That each of them is met is shown by the examples.)
use mathlib.Core.Path.{◌≡◌, refl, sym, ap, ◌∙◌, subst, subst⁻¹}
use mathlib.Core.Bool.{Bool, true, false, ◌&&◌, ◌||◌, not, false≢true}
use mathlib.Core.Logic.{◌≢◌}
use mathlib.Core.List.{List, [], ◌∷◌, map}
use Prim.Native.Nat.{ℕ, zero, suc, ◌+◌, ◌≤◌}
use native.Mathlib.Omega.{arith}
use borrow.Author.Tests.{leb-true, eqb-true}
use lib.Dec.{leb, eqb}
use lib.ListN.{length, drop, drop_of_length-le}
use Rattle.lists.specs.Tests.{every, among}
use Rattle.lists.proofs.Both.{or_cases}
use Rattle.lists.proofs.Every.{every-head, every-tail}
use Rattle.matrix_form.specs.Refusals.{refusal_number}
use Rattle.matrix_form.specs.Shape.{in_range}
use Rattle.matrix_form.specs.Outcomes.{ask, and_then, ask_each, Outcome, value, refused, on_line, then_with}
use Rattle.matrix_form.specs.Questions.{within_limits, ask_code}
use Rattle.matrix_form.specs.declared.refusal.Refusal.TheVariants.{FileTooLong, FileEmpty, FirstLine, BeyondLimits, NameForm, NameTaken}
use Rattle.matrix_form.specs.declared.refusal.Refusal.TheVariants.{FieldCount, CodeForm, CodeRange, FileGoesOn}
use Rattle.matrix_form.specs.declared.refusal.Refusal.TheVariants.{UnknownOrder, WeightForm, BranchForm, NotBranching}
use Rattle.matrix_form.specs.declared.refusal.Refusal.{Refusal}
use Rattle.matrix_form.specs.Outcomes.{Asked}
use Rattle.std.specs.Prelude.{Ok, Err}
use Rattle.file_form.specs.declared.header.Header.{Header}
use Rattle.file_form.specs.declared.header.Kind.{Kind}
use Rattle.file_form.specs.declared.header.Kind.TheVariants.{Wagner, Own}
use Rattle.text_form.specs.Decimal.{code_form, code_of}
use Rattle.file_form.specs.Job.{Job, most_bytes, name_form, differs_from_all}
use Rattle.text_form.specs.Lines.{lines_of, fields_of}
use Rattle.file_form.specs.Lines.{LineSort, ask_lines}
use Rattle.file_form.specs.Optional.{ask_optional}
use Rattle.file_form.specs.Header.{first_fields, row_line, header_in, behind_header}
use Rattle.file_form.specs.Header.{first_line_form, is_order, order_known, ask_first_line, ask_header}
use Rattle.file_form.specs.Formed.{ask_weights}
use Rattle.file_form.specs.Rows.{name_in, ask_field, ask_codes, ask_row, row_sort}
use Rattle.file_form.specs.Branches.{branch_count, branch_form, branch_sort, branched, ask_tree}
use Rattle.file_form.specs.Reading.{job_of, nothing_more, ask_end, ask_after, ask_behind, ask_file, ask_length, read_answer}
use Rattle.file_form.proofs.File.FirstForm.{form_tells}
use Rattle.file_form.proofs.File.HeaderRead.{header_passed, first-formed}

-- the numbers of the refusals that a file can meet
abbrev pub file_numbers : List ℕ
file_numbers = 1 ∷ 2 ∷ 3 ∷ 4 ∷ 5 ∷ 6 ∷ 7 ∷ 8 ∷ 9 ∷ 10 ∷ 11 ∷ 14 ∷ 15 ∷ 16 ∷ 17 ∷ []

-- the highest of them
abbrev pub highest_number : ℕ
highest_number = 17

-- a number is one of these
abbrev pub OfFile : ℕ → Type 0
OfFile number = among number file_numbers ≡ true

-- those that only a file of one kind can meet: a `W` file has no `C` lines, an `F` file no word for the order
abbrev pub own_numbers : Kind → List ℕ
own_numbers Wagner = 15 ∷ []
own_numbers Own = 14 ∷ 17 ∷ []

-- those that a file of a kind can meet
abbrev pub kind_numbers : Kind → List ℕ
kind_numbers kind = 1 ∷ 2 ∷ 3 ∷ 4 ∷ 5 ∷ 6 ∷ 7 ∷ 8 ∷ 9 ∷ 10 ∷ 11 ∷ 16 ∷ own_numbers kind

-- a number is one of those
abbrev pub OfKind : Kind → ℕ → Type 0
OfKind kind number = among number (kind_numbers kind) ≡ true

-- questions that refuse, if they do, by such a number
data Numbered (kind : Kind) : Asked → Type 0 where
  passed : Numbered kind (Ok tt)
  numbered : {refusal : Refusal} → OfKind kind (refusal_number refusal) → Numbered kind (Err refusal)

-- and so for an outcome
data FileNumbered (kind : Kind) {A : Type 0} : Outcome A → Type 0 where
  with_value : {a : A} → FileNumbered kind (value a)
  with_number : {number line : ℕ} → OfKind kind number → FileNumbered kind (refused number line)

-- one question, and those that follow where it passes
numbered_if : (kind : Kind) (b : Bool) (refusal : Refusal) {rest : Asked} → OfKind kind (refusal_number refusal)
    → (b ≡ true → Numbered kind rest) → Numbered kind (ask b refusal rest)
numbered_if kind true refusal own others = others refl
numbered_if kind false refusal own others = numbered own

-- one question, and those that follow
numbered_ask : (kind : Kind) (b : Bool) (refusal : Refusal) {rest : Asked} → OfKind kind (refusal_number refusal) → Numbered kind rest
    → Numbered kind (ask b refusal rest)
numbered_ask kind b refusal own others = numbered_if kind b refusal own (λ e. others)

-- the questions put to one line, and those that follow
numbered_line : (kind : Kind) {A : Type 0} (line : ℕ) {asked : Asked} {rest : Outcome A} → Numbered kind asked → FileNumbered kind rest
    → FileNumbered kind (on_line line asked rest)
numbered_line kind line passed others = others
numbered_line kind line (numbered own) others = with_number own

-- an outcome, and what follows its value
numbered_then : (kind : Kind) {A B : Type 0} {outcome : Outcome A} (follow : A → Outcome B) → FileNumbered kind outcome
    → ((a : A) → outcome ≡ value a → FileNumbered kind (follow a)) → FileNumbered kind (then_with outcome follow)
numbered_then kind follow (with_value {a = a}) others = others a refl
numbered_then kind follow (with_number own) others = with_number own

-- a question put to each item of a list
numbered_each : (kind : Kind) {A : Type 0} (question : A → Asked) → ((x : A) → Numbered kind (question x)) → (xs : List A)
    → Numbered kind (ask_each question xs)
unfolding ask_each
numbered_each kind question own [] = passed
numbered_each kind question own (x ∷ xs) = by (own x) (numbered_each kind question own xs)
  where
    by : {first rest : Asked} → Numbered kind first → Numbered kind rest → Numbered kind (and_then first rest)
    by passed others = others
    by (numbered first) others = numbered first

-- the codes of a row
numbered_codes : (kind : Kind) (fields : List (List ℕ)) → Numbered kind (ask_codes fields)
unfolding ask_codes ask_field ask_code among
numbered_codes kind fields =
    numbered_each kind ask_field
    (λ field. numbered_ask kind (code_form field) CodeForm refl (numbered_ask kind (in_range (code_of field)) CodeRange refl passed)) fields

-- a row
numbered_row : (kind : Kind) (header : Header) (earlier : List (List ℕ)) (line : List ℕ) → Numbered kind (ask_row header earlier line)
unfolding ask_row among
numbered_row kind header earlier line =
    numbered_ask kind (eqb (length (fields_of line)) (suc header.m)) FieldCount refl
    (numbered_ask kind (name_form (name_in line)) NameForm refl
    (numbered_ask kind (differs_from_all (name_in line) earlier) NameTaken refl (numbered_codes kind (drop 1 (fields_of line)))))

-- lines of one sort, and what follows them
numbered_lines : (kind : Kind) {A : Type 0} (sort : LineSort) (earlier : List (List ℕ)) (number left : ℕ) (lines : List (List ℕ))
    (follow : ℕ → List (List ℕ) → Outcome A) → OfKind kind (refusal_number sort.missing)
    → ((before : List (List ℕ)) (line : List ℕ) → Numbered kind (sort.asks before line))
    → ((k : ℕ) (others : List (List ℕ)) → FileNumbered kind (follow k others))
    → FileNumbered kind (ask_lines sort earlier number left lines follow)
unfolding ask_lines
numbered_lines kind sort earlier number zero lines follow none each own = own number lines
numbered_lines kind sort earlier number (suc left) [] follow none each own = with_number none
numbered_lines kind sort earlier number (suc left) (behind ∷ []) follow none each own = with_number none
numbered_lines kind sort earlier number (suc left) (line ∷ next ∷ lines) follow none each own =
    numbered_line kind number (each earlier line)
    (numbered_lines kind sort (line ∷ earlier) (suc number) left (next ∷ lines) follow none each own)

-- the end of the file
numbered_end : (kind : Kind) {A : Type 0} (rest : Outcome A) → FileNumbered kind rest → (line : ℕ) (lines : List (List ℕ))
    → FileNumbered kind (ask_end rest line lines)
unfolding ask_end among
numbered_end kind rest others line lines = numbered_line kind line (numbered_ask kind (nothing_more lines) FileGoesOn refl passed) others

-- what stands behind the rows: in a `W` file no `C` line is looked for, and no branching asked
numbered_after : (kind : Kind) (job : Job) → job.kind ≡ kind → (line : ℕ) (lines : List (List ℕ))
    → FileNumbered kind (ask_after job line lines)
unfolding ask_after ask_lines among
numbered_after kind job e line lines =
    subst⁻¹
    (λ k.
    FileNumbered kind (ask_lines branch_sort [] line (branch_count k job.n) lines
    (ask_end (on_line 0 (ask_tree k job.n job.ancestors) (value job)))))
    e
    (by kind)
  where
    by : (k : Kind)
        → FileNumbered k (ask_lines branch_sort [] line (branch_count k job.n) lines
        (ask_end (on_line 0 (ask_tree k job.n job.ancestors) (value job))))
    by Wagner = numbered_end Wagner (value job) with_value line lines
    by Own =
        let tree = ask_tree Own job.n job.ancestors in
        numbered_lines Own branch_sort [] line (branch_count Own job.n) lines (ask_end (on_line 0 tree (value job))) refl
        (λ before text. numbered_ask Own (branch_form (length before + 2) (fields_of text)) BranchForm refl passed)
        (numbered_end Own (on_line 0 tree (value job))
        (numbered_line Own 0 (numbered_ask Own (branched Own job.n job.ancestors) NotBranching refl passed) with_value))

-- an optional line
numbered_optional : (kind : Kind) (there formed : Bool) (refusal : Refusal) (lines : List (List ℕ)) → OfKind kind (refusal_number refusal)
    → Numbered kind (ask_optional there formed refusal lines)
unfolding ask_optional
numbered_optional kind there formed refusal lines own =
    numbered_ask kind (not there || (leb 2 (length lines) && formed)) refusal own passed

-- the word for the order: the right form of line 1 leaves an `F` file no field for one
numbered_order : (kind : Kind) (lines : List (List ℕ)) → (header_in lines).kind ≡ kind → first_line_form lines ≡ true → {rest : Asked}
    → Numbered kind rest → Numbered kind (ask (order_known (first_fields lines)) UnknownOrder rest)
unfolding header_in order_known every among
numbered_order Wagner lines e form others = numbered_ask Wagner (order_known (first_fields lines)) UnknownOrder refl others
numbered_order Own lines e form {rest} others =
    let fits = (form_tells (first_fields lines) (first-formed lines form)).fits in
    let few : length (first_fields lines) ≤ 3 = rw e at fits in
    subst⁻¹ (λ fields. Numbered Own (ask (every is_order fields) UnknownOrder rest)) (drop_of_length-le (first_fields lines) few) others

-- the header
numbered_header : (kind : Kind) (lines : List (List ℕ)) → (header_in lines).kind ≡ kind → FileNumbered kind (ask_header lines)
unfolding ask_header ask_first_line ask_weights among
numbered_header kind lines e =
    numbered_line kind 1
    (numbered_if kind (first_line_form lines) FirstLine refl (λ form.
    numbered_order kind lines e form
    (numbered_ask kind (within_limits (header_in lines).n (header_in lines).m) BeyondLimits refl passed)))
    (numbered_line kind 2 (numbered_optional kind (header_in lines).weighed _ WeightForm (drop 1 lines) refl) with_value)

-- what stands behind it
numbered_behind : (kind : Kind) (header : Header) (lines : List (List ℕ)) → header.kind ≡ kind → FileNumbered kind (ask_behind header lines)
unfolding ask_behind job_of among
numbered_behind kind header lines e =
    numbered_lines kind (row_sort header) [] (row_line header 1) header.n (behind_header header lines) (ask_after (job_of header lines))
    refl
    (λ before line. numbered_row kind header (map name_in before) line) (numbered_after kind (job_of header lines) e)

-- a whole file
numbered_file : (file : List ℕ) → FileNumbered (header_in (lines_of file)).kind (read_answer file)
unfolding read_answer ask_length ask_file among
numbered_file file =
    let kind = (header_in (lines_of file)).kind in
    numbered_line kind 0
    (numbered_ask kind (leb (length file) most_bytes) FileTooLong refl
    (numbered_ask kind (leb 1 (length file)) FileEmpty refl passed))
    (numbered_then kind (λ header. ask_behind header (lines_of file)) (numbered_header kind (lines_of file) refl)
    (λ header e.
    numbered_behind kind header (lines_of file)
    (ap (λ (said : Header). said.kind) (sym (header_passed (lines_of file) header e).is))))

-- the number of a refusal
number_of_lem : (kind : Kind) {A : Type 0} {outcome : Outcome A} (number line : ℕ) → FileNumbered kind outcome
    → outcome ≡ refused number line → OfKind kind number
number_of_lem kind number line with_value e = let never : ◌≡◌ {A = ℕ} 0 1 = cc in absurd (omega arith)
number_of_lem kind number line (with_number {number = other} own) e = let same : other ≡ number = cc in subst (OfKind kind) same own

-- a refused file has one of the numbers of its kind
pub refused_by_kind : (file : List ℕ) (number line : ℕ) → read_answer file ≡ refused number line
    → OfKind (header_in (lines_of file)).kind number
refused_by_kind file number line e = number_of_lem (header_in (lines_of file)).kind number line (numbered_file file) e

-- what every number of a list passes, one of them passes
among_passes : (test : ℕ → Bool) (v : ℕ) (xs : List ℕ) → among v xs ≡ true → every test xs ≡ true → test v ≡ true
unfolding among
among_passes test v [] e all = absurd (false≢true e)
among_passes test v (x ∷ xs) e all =
    or_cases (eqb v x) (among v xs) e (λ same. ap test (eqb-true v x same) ∙ every-head test x xs all)
    (λ other. among_passes test v xs other (every-tail test x xs all))

-- so a `W` file is refused neither by 14 nor by 17
pub wagner-never : (file : List ℕ) (number line : ℕ) → (header_in (lines_of file)).kind ≡ Wagner → read_answer file ≡ refused number line
    → (number ≢ 14) × (number ≢ 17)
unfolding among
wagner-never file number line kind e =
    let one = rw kind at (refused_by_kind file number line e) in (
      λ is. false≢true (subst (OfKind Wagner) is one),
      λ is. false≢true (subst (OfKind Wagner) is one),
    )

-- and an `F` file not by 15
pub own-never : (file : List ℕ) (number line : ℕ) → (header_in (lines_of file)).kind ≡ Own → read_answer file ≡ refused number line
    → number ≢ 15
unfolding among
own-never file number line kind e is = false≢true (subst (OfKind Own) is (rw kind at (refused_by_kind file number line e)))

-- a number of a kind is one of a file
kind_of_file : (kind : Kind) → every (λ v. among v file_numbers) (kind_numbers kind) ≡ true
unfolding every among
kind_of_file Wagner = refl
kind_of_file Own = refl

-- a refused file has one of the numbers of a file
pub refused_number : (file : List ℕ) (number line : ℕ) → read_answer file ≡ refused number line → OfFile number
refused_number file number line e =
    let kind = (header_in (lines_of file)).kind in
    among_passes (λ v. among v file_numbers) number (kind_numbers kind) (refused_by_kind file number line e) (kind_of_file kind)

-- so its number is from 1 to the highest
pub refused_bounds : (file : List ℕ) (number line : ℕ) → read_answer file ≡ refused number line
    → (1 ≤ number) × (number ≤ highest_number)
unfolding every
refused_bounds file number line e =
    let one = refused_number file number line e in (
      leb-true 1 number (among_passes (leb 1) number file_numbers one refl),
      leb-true number highest_number (among_passes (λ v. leb v highest_number) number file_numbers one refl),
    )
