-- The form of line 1, test by test, and what it tells.
use mathlib.Core.Path.{◌≡◌, refl, sym, ap, ◌∙◌}
use mathlib.Core.Bool.{Bool, true, false, ◌&&◌, cond, false≢true}
use mathlib.Core.List.{List, [], ◌∷◌}
use Prim.Native.Nat.{ℕ, ◌+◌, ◌≤◌, ◌<◌}
use native.Mathlib.Omega.{arith}
use borrow.Author.Tests.{le-leb, lt-leb, leb-true}
use lib.Dec.{leb}
use lib.ListN.{length, get_or}
use Rattle.lists.specs.Tests.{same_numbers as same_text}
use Rattle.lists.proofs.Both.{and_left, and_right, and_both}
use Rattle.lists.proofs.Every.{same_numbers_iff}
use Rattle.text_form.specs.Bytes.{tab, pieces_at}
use Rattle.text_form.specs.Decimal.{number_form}
use Rattle.text_form.specs.Lines.{fields_of}
use Rattle.file_form.specs.Kinds.{kind_form, all_kinds, kind_among, is_kind, kind_said}
use Rattle.file_form.specs.Header.{first_form}
use Rattle.std.specs.Prelude.{Option, None, Some, is_some}
use Rattle.file_form.specs.declared.header.Kind.{Kind}
use Rattle.file_form.specs.declared.header.Kind.TheVariants.{Wagner, Own}

-- a line with so many tabs
module _ (line : List ℕ) (count : ℕ) (e : count + 1 ≡ length (pieces_at tab line)) where
  -- it has one field more
  pub fields_count : count + 1 ≡ length (fields_of line)
  unfolding fields_of
  fields_count = e

-- what is asked together with "no" is "no"
pub and-false : (b : Bool) → (b && false) ≡ false
and-false true = refl
and-false false = refl

-- the fields of line 1, test by test
module _ (fields : List (List ℕ)) where
  -- whether their number is right
  abbrev counted : Bool
  counted = leb 3 (length fields) && leb (length fields) (kind_form (kind_said (get_or fields 0 []))).most_fields

  -- whether the three in front are
  abbrev fronted : Bool
  fronted = is_kind (get_or fields 0 []) && (number_form (get_or fields 1 []) && number_form (get_or fields 2 []))

  -- fewer than three
  pub too_few : length fields < 3 → first_form fields ≡ false
  unfolding first_form
  too_few h = rw (lt-leb 3 (length fields) h)

  -- more than the kind has
  pub too_many : (kind_form (kind_said (get_or fields 0 []))).most_fields < length fields → first_form fields ≡ false
  unfolding first_form
  too_many h =
      ap (λ b. (leb 3 (length fields) && b) && fronted) (lt-leb (length fields) _ h) ∙ ap (λ b. b && fronted) (and-false (leb 3 (length fields)))

  -- the first is the word of no kind
  pub no_kind : is_kind (get_or fields 0 []) ≡ false → first_form fields ≡ false
  unfolding first_form
  no_kind e =
      ap (λ b. counted && (b && (number_form (get_or fields 1 []) && number_form (get_or fields 2 [])))) e ∙ and-false counted

  -- the second is no number
  pub no_taxa : number_form (get_or fields 1 []) ≡ false → first_form fields ≡ false
  unfolding first_form
  no_taxa e =
      ap (λ b. counted && (is_kind (get_or fields 0 []) && (b && number_form (get_or fields 2 [])))) e
      ∙ ap (λ b. counted && b) (and-false (is_kind (get_or fields 0 [])))
      ∙ and-false counted

  -- the third is no number
  pub no_characters : number_form (get_or fields 2 []) ≡ false → first_form fields ≡ false
  unfolding first_form
  no_characters e =
      ap (λ b. counted && (is_kind (get_or fields 0 []) && (number_form (get_or fields 1 []) && b))) e
      ∙ ap (λ b. counted && (is_kind (get_or fields 0 []) && b)) (and-false (number_form (get_or fields 1 [])))
      ∙ ap (λ b. counted && b) (and-false (is_kind (get_or fields 0 [])))
      ∙ and-false counted

  -- all are right
  pub all_right : 3 ≤ length fields → length fields ≤ (kind_form (kind_said (get_or fields 0 []))).most_fields
      → is_kind (get_or fields 0 []) ≡ true → number_form (get_or fields 1 []) ≡ true → number_form (get_or fields 2 []) ≡ true → first_form fields ≡ true
  unfolding first_form
  all_right low high word taxa characters =
      and_both (and_both (le-leb 3 (length fields) low) (le-leb (length fields) _ high)) (and_both word (and_both taxa characters))

-- what fields of the right form tell: there are three or, in a `W` file, four, the word of a kind and two numbers in front
pub record FirstFormed (fields : List (List ℕ)) : Type 0 where
  pub several : 3 ≤ length fields
  pub few : length fields ≤ 4
  pub fits : length fields ≤ (kind_form (kind_said (get_or fields 0 []))).most_fields
  pub word : (kind_form (kind_said (get_or fields 0 []))).word ≡ get_or fields 0 []
  pub taxa : number_form (get_or fields 1 []) ≡ true
  pub characters : number_form (get_or fields 2 []) ≡ true

-- line 1 has at most four fields
most_four : (kind : Kind) → (kind_form kind).most_fields ≤ 4
most_four Wagner = omega arith
most_four Own = omega arith

-- a word that is that of one of some kinds is that of the kind that it says
among_written : (word : List ℕ) (kinds : List Kind) (kind : Kind) → kind_among word kinds ≡ Some kind → (kind_form kind).word ≡ word
among_written word [] kind e = cc
among_written word (next ∷ kinds) kind e = by (among_written word kinds kind) (same_text word (kind_form next).word) refl e
  where
    by : (kind_among word kinds ≡ Some kind → (kind_form kind).word ≡ word) → (b : Bool) → same_text word (kind_form next).word ≡ b
        → cond b (Some next) (kind_among word kinds) ≡ Some kind → (kind_form kind).word ≡ word
    by behind true same found =
        let here : next ≡ kind = cc found in
        ap (λ k. (kind_form k).word) (sym here) ∙ sym ((same_numbers_iff word (kind_form next).word).0 same)
    by behind false other found = behind found

-- the word of a kind is that of the kind that it says
kind_written : (word : List ℕ) → is_kind word ≡ true → (kind_form (kind_said word)).word ≡ word
unfolding is_kind kind_said
kind_written word e = by (kind_among word all_kinds) refl e
  where
    by : (found : Option Kind) → kind_among word all_kinds ≡ found → is_some found ≡ true
        → (kind_form (elim found [ Some kind ↦ kind | None ↦ Wagner ])).word ≡ word
    by (Some kind) f t = among_written word all_kinds kind f
    by None f t = absurd (false≢true t)

-- fields of the right form tell so
pub form_tells : (fields : List (List ℕ)) → first_form fields ≡ true → FirstFormed fields
unfolding first_form
form_tells fields e =
    let most = (kind_form (kind_said (get_or fields 0 []))).most_fields in
    let count = and_left (leb 3 (length fields) && leb (length fields) most) _ e in
    let front = and_right (leb 3 (length fields) && leb (length fields) most) _ e in
    let numbers = and_right (is_kind (get_or fields 0 [])) _ front in
    let fits = leb-true (length fields) most (and_right (leb 3 (length fields)) _ count) in
    record {
      several = leb-true 3 (length fields) (and_left (leb 3 (length fields)) _ count);
      few = omega (arith, fits, most_four (kind_said (get_or fields 0 [])));
      fits = fits;
      word = kind_written (get_or fields 0 []) (and_left (is_kind (get_or fields 0 [])) _ front);
      taxa = and_left (number_form (get_or fields 1 [])) _ numbers;
      characters = and_right (number_form (get_or fields 1 [])) _ numbers;
    }
