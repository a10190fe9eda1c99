-- Numbers in decimal: what is written is read back, and what is read is written back.
use mathlib.Core.Path.{◌≡◌, refl, sym, ap, ap₂, ◌∙◌}
use mathlib.Core.List.{List, [], ◌∷◌, ◌++◌, append-nil, append_assoc}
use mathlib.Core.Bool.{Bool, true, false, ◌&&◌, not, false≢true}
use Prim.Native.Nat.{ℕ, zero, suc, ◌+◌, ◌-◌, ◌*◌, ◌/◌, ◌%◌, ◌^◌, ◌≤◌, ◌<◌}
use native.Mathlib.Nat.{div-lt_iff_lt-mul, pow-suc, pow-le-pow_right, lt_of_lt_of_le}
use native.Mathlib.Numerals.{add-one}
use native.Mathlib.Omega.{arith}
use lib.Dec.{leb, ltb, eqb}
use lib.ListN.{length, get_or, drop, length-append}
use lib.Seq.{drop-cons}
use borrow.Author.Tests.{ltb-true, ltb-false, lt-ltb, le-ltb, le-leb, leb-true, ne_eqb, eqb-false, not-true}
use Rattle.lists.specs.Tests.{every}
use Rattle.text_form.specs.Bytes.{is_digit}
use Rattle.text_form.specs.Decimal.{zero_digit, digit_for, digits_in, digits_of, no_leading_zero, number_form, number_from, number_of}
use Rattle.lists.proofs.Both.{and_left, and_right, and_both}
use Rattle.lists.proofs.Every.{every-head, every-tail, every_append}

-- a number below ten has one digit
digits_short : (steps n : ℕ) → n < 10 → digits_in steps n ≡ digit_for n ∷ []
unfolding digits_in
digits_short zero n h = refl
digits_short (suc steps) n h = rw (lt-ltb n 10 h, digits_in)

-- any other number has the digits of its tenth piece and a last digit
digits_long : (steps n : ℕ) → 10 ≤ n → digits_in (suc steps) n ≡ digits_in steps (n / 10) ++ (digit_for (n % 10) ∷ [])
unfolding digits_in
digits_long steps n h = rw (le-ltb n 10 h, digits_in)

-- a number is below ten or not
data Size (n : ℕ) : Type 0 where
  short : n < 10 → Size n
  long : 10 ≤ n → Size n

-- a number is of one of these sizes
size : (n : ℕ) → Size n
size n = by (ltb n 10) refl
  where
    by : (t : Bool) → ltb n 10 ≡ t → Size n
    by true e = short (ltb-true n 10 e)
    by false e = long (ltb-false n 10 e)

-- as many divisions as the number says are enough: more of them give the same digits
digits_enough : (a b n : ℕ) → n ≤ a → n ≤ b → digits_in a n ≡ digits_in b n
digits_enough zero b n h k = digits_short zero n (omega arith) ∙ sym (digits_short b n (omega arith))
digits_enough (suc a) zero n h k = digits_short (suc a) n (omega arith) ∙ sym (digits_short zero n (omega arith))
digits_enough (suc a) (suc b) n h k = by (size n) (λ l. digits_enough a b (n / 10) (omega arith) (omega arith))
  where
    by : Size n → (10 ≤ n → digits_in a (n / 10) ≡ digits_in b (n / 10)) → digits_in (suc a) n ≡ digits_in (suc b) n
    by (short s) same = digits_short (suc a) n s ∙ sym (digits_short (suc b) n s)
    by (long l) same =
        digits_long a n l ∙ ap (λ digits. digits ++ (digit_for (n % 10) ∷ [])) (same l) ∙ sym (digits_long b n l)

-- a number below ten is written by one digit
pub digits_one : (n : ℕ) → n < 10 → digits_of n ≡ digit_for n ∷ []
unfolding digits_of
digits_one n h = digits_short n n h

-- any other number is written by the digits of its tenth piece and its last digit
pub digits_last : (n : ℕ) → 10 ≤ n → digits_of n ≡ digits_of (n / 10) ++ (digit_for (n % 10) ∷ [])
unfolding digits_of
digits_last n h =
    digits_enough n (suc n) n (omega arith) (omega arith)
    ∙ digits_long n n h
    ∙ ap (λ digits. digits ++ (digit_for (n % 10) ∷ [])) (digits_enough n (n / 10) (n / 10) (omega arith) (omega arith))

-- ten times a number and a last digit
pub digits_more : (n x : ℕ) → 0 < n → x < 10 → digits_of (n * 10 + x) ≡ digits_of n ++ (digit_for x ∷ [])
digits_more n x h k =
    digits_last (n * 10 + x) (omega arith)
    ∙ ap₂ (λ tenth last. digits_of tenth ++ (digit_for last ∷ [])) (omega arith) (omega arith)

-- what holds of one digit, and goes on to hold behind one more digit, holds of the digits of every number
module _ (P : ℕ → List ℕ → Type 0) (one : (n : ℕ) → n < 10 → P n (digit_for n ∷ []))
    (more : (n : ℕ) (digits : List ℕ) → 10 ≤ n → P (n / 10) digits → P n (digits ++ (digit_for (n % 10) ∷ []))) where
  -- of the digits that enough divisions give
  digits_within : (steps n : ℕ) → n ≤ steps → P n (digits_in steps n)
  digits_within zero n h = rw (digits_short zero n (omega arith)) (one n (omega arith))
  digits_within (suc steps) n h = by (size n) (λ l. digits_within steps (n / 10) (omega arith))
    where
      by : Size n → (10 ≤ n → P (n / 10) (digits_in steps (n / 10))) → P n (digits_in (suc steps) n)
      by (short s) tenth = rw (digits_short (suc steps) n s) (one n s)
      by (long l) tenth = rw (digits_long steps n l) (more n (digits_in steps (n / 10)) l (tenth l))

  -- and of the digits of every number
  pub digits_all : (n : ℕ) → P n (digits_of n)
  unfolding digits_of
  digits_all n = digits_within n n (omega arith)

-- one more digit behind others
number_more : (before : ℕ) (digits : List ℕ) (digit : ℕ)
    → number_from before (digits ++ (digit ∷ [])) ≡ number_from before digits * 10 + (digit - zero_digit)
unfolding number_from
number_more before [] digit = refl
number_more before (first ∷ digits) digit = number_more (before * 10 + (first - zero_digit)) digits digit

-- a number's digits say it
pub number_of_digits : (n : ℕ) → number_of (digits_of n) ≡ n
unfolding number_of number_from
number_of_digits =
    digits_all (λ n digits. number_from 0 digits ≡ n) (λ n h. omega arith)
    (λ n digits h said. number_more 0 digits (digit_for (n % 10)) ∙ omega arith)

-- the digit that says a number below ten is one
digit_for_lem : (x : ℕ) → x < 10 → is_digit (digit_for x) ≡ true
unfolding is_digit
digit_for_lem x h = and_both (le-leb 48 (digit_for x) (omega arith)) (le-leb (digit_for x) 57 (omega arith))

-- a number below ten is written by one digit
one_digit : (x : ℕ) → x < 10 → every is_digit (digit_for x ∷ []) ≡ true
unfolding every
one_digit x h = and_both (digit_for_lem x h) refl

-- every byte of a number's digits is a digit
pub digits_are_digits : (n : ℕ) → every is_digit (digits_of n) ≡ true
digits_are_digits =
    digits_all (λ n digits. every is_digit digits ≡ true) one_digit
    (λ n digits h others. every_append is_digit digits (digit_for (n % 10) ∷ []) others (one_digit (n % 10) (omega arith)))

-- a number below 10 ^ (k + 1) has at most k + 1 digits
pub digits_length : (n k : ℕ) → n < 10 ^ suc k → length (digits_of n) ≤ suc k
digits_length =
    digits_all (λ n digits. (k : ℕ) → n < 10 ^ suc k → length digits ≤ suc k) (λ n h k b. omega arith) by
  where
    by : (n : ℕ) (digits : List ℕ) → 10 ≤ n → ((k : ℕ) → n / 10 < 10 ^ suc k → length digits ≤ suc k)
        → (k : ℕ) → n < 10 ^ suc k → length (digits ++ (digit_for (n % 10) ∷ [])) ≤ suc k
    by n digits h shorter zero b = absurd (omega arith)
    by n digits h shorter (suc k) b =
        let fewer = shorter k ((div-lt_iff_lt-mul {k = 10} (omega arith)).1 (rw pow-suc at b)) in
        rw length-append (omega arith)

-- the first digit: `0` only for the number zero
pub first_digit : (n : ℕ) → (digit : ℕ) × (digits : List ℕ) × (digits_of n ≡ digit ∷ digits) × (0 < n → zero_digit < digit)
first_digit = digits_all (λ n all. (digit : ℕ) × (digits : List ℕ) × (all ≡ digit ∷ digits) × (0 < n → zero_digit < digit))
    (λ n h. (digit_for n, [], refl, λ p. omega arith))
    (λ n all h tenth. (
      tenth.0,
      tenth.1 ++ (digit_for (n % 10) ∷ []),
      ap (λ digits. digits ++ (digit_for (n % 10) ∷ [])) tenth.2,
      λ p. tenth.3 (omega arith),
    ))

-- digits that begin with another one than `0` have no leading zero
one_or_not_zero : (digit : ℕ) (digits : List ℕ) → zero_digit < digit → no_leading_zero (digit ∷ digits) ≡ true
unfolding no_leading_zero
one_or_not_zero digit [] h = refl
one_or_not_zero digit (next ∷ digits) h = rw (ne_eqb digit zero_digit (λ same. omega arith))

-- a number's digits have no leading zero
pub digits_no_leading_zero : (n : ℕ) → no_leading_zero (digits_of n) ≡ true
unfolding no_leading_zero
digits_no_leading_zero n = by (size n)
  where
    by : Size n → no_leading_zero (digits_of n) ≡ true
    by (short s) = rw (digits_one n s)
    by (long l) =
        let first = first_digit n in
        rw first.2 (one_or_not_zero first.0 first.1 (first.3 (omega arith)))

-- a number has at least one digit
digits_some : (n : ℕ) → 1 ≤ length (digits_of n)
digits_some n = rw (first_digit n).2 (omega arith)

-- the digits of a number below a million have the right form
pub digits_form : (n : ℕ) → n < 10 ^ 6 → number_form (digits_of n) ≡ true
unfolding number_form
digits_form n h =
    and_both (and_both (le-leb 1 _ (digits_some n)) (le-leb _ 6 (digits_length n 5 h)))
    (and_both (digits_are_digits n) (digits_no_leading_zero n))

-- a digit is from `0` to `9`
pub digit_low : (digit : ℕ) → is_digit digit ≡ true → zero_digit ≤ digit
unfolding is_digit
digit_low digit e = leb-true zero_digit digit (and_left (leb zero_digit digit) (leb digit 57) e)

-- a digit is at most `9`
pub digit_high : (digit : ℕ) → is_digit digit ≡ true → digit ≤ 57
unfolding is_digit
digit_high digit e = leb-true digit 57 (and_right (leb zero_digit digit) (leb digit 57) e)

-- the digits of the number that further digits say are those before and the further ones
digits_behind : (before : ℕ) (digits : List ℕ) → 0 < before → every is_digit digits ≡ true
    → digits_of (number_from before digits) ≡ digits_of before ++ digits
unfolding number_from
digits_behind before [] h e = sym (append-nil (digits_of before))
digits_behind before (digit ∷ digits) h e =
    let low = digit_low digit (every-head is_digit digit digits e) in
    let high = digit_high digit (every-head is_digit digit digits e) in
    digits_behind (before * 10 + (digit - zero_digit)) digits (omega arith) (every-tail is_digit digit digits e)
    ∙ ap (λ front. front ++ digits) (digits_more before (digit - zero_digit) h (omega arith))
    ∙ append_assoc (digits_of before) (digit_for (digit - zero_digit) ∷ []) digits
    ∙ ap (λ first. digits_of before ++ first ∷ digits) (omega arith)

-- the pieces of the right form: digits, and no leading zero
pub form_digits : (text : List ℕ) → number_form text ≡ true → every is_digit text ≡ true
unfolding number_form
form_digits text e =
    and_left (every is_digit text) (no_leading_zero text) (and_right (leb 1 (length text) && leb (length text) 6) _ e)

-- a text of this form has no leading zero
form_no_leading_zero : (text : List ℕ) → number_form text ≡ true → no_leading_zero text ≡ true
unfolding number_form
form_no_leading_zero text e =
    and_right (every is_digit text) (no_leading_zero text) (and_right (leb 1 (length text) && leb (length text) 6) _ e)

-- a text of the right form is the digits of the number that it says
pub digits_of_number : (text : List ℕ) → number_form text ≡ true → digits_of (number_of text) ≡ text
unfolding number_form number_of number_from no_leading_zero
digits_of_number [] e = absurd (false≢true e)
digits_of_number (digit ∷ []) e =
    let shape = every-head is_digit digit [] (form_digits (digit ∷ []) e) in
    let low = digit_low digit shape in
    let high = digit_high digit shape in
    digits_one (0 * 10 + (digit - zero_digit)) (omega arith) ∙ ap (λ first. first ∷ []) (omega arith)
digits_of_number (digit ∷ next ∷ digits) e =
    let shape = form_digits (digit ∷ next ∷ digits) e in
    let low = digit_low digit (every-head is_digit digit (next ∷ digits) shape) in
    let high = digit_high digit (every-head is_digit digit (next ∷ digits) shape) in
    let zero-not = eqb-false digit zero_digit (not-true (eqb digit zero_digit) (form_no_leading_zero (digit ∷ next ∷ digits) e)) in
    digits_behind (0 * 10 + (digit - zero_digit)) (next ∷ digits) (omega arith) (every-tail is_digit digit (next ∷ digits) shape)
    ∙ ap (λ front. front ++ next ∷ digits) (digits_one (0 * 10 + (digit - zero_digit)) (omega arith))
    ∙ ap (λ first. first ∷ next ∷ digits) (omega arith)

-- a text of the right form has at most 6 digits
pub form_short : (text : List ℕ) → number_form text ≡ true → length text ≤ 6
unfolding number_form
form_short text e =
    leb-true (length text) 6 (and_right (leb 1 (length text)) _ (and_left (leb 1 (length text) && leb (length text) 6) _ e))

-- one digit alone is no leading zero; of several the first must not be `0`
pub leading_one : (text : List ℕ) → length text ≡ 1 → no_leading_zero text ≡ true
unfolding no_leading_zero
leading_one [] h = refl
leading_one (digit ∷ []) h = refl
leading_one (digit ∷ next ∷ digits) h = absurd (omega arith)

-- longer digits have none if the first is not `0`
pub leading_more : (text : List ℕ) → 1 ≤ length text → (length text ≡ 1 → ⊥) → no_leading_zero text ≡ not (eqb (get_or text 0 0) zero_digit)
unfolding no_leading_zero
leading_more [] h more = absurd (omega arith)
leading_more (digit ∷ []) h more = absurd (more refl)
leading_more (digit ∷ next ∷ digits) h more = refl

-- a digit more behind i digits
pub number_more_small : (number digit i : ℕ) → number < 10 ^ i → digit ≤ 57 → number * 10 + (digit - zero_digit) < 10 ^ (i + 1)
number_more_small number digit i h d = rw (add-one, pow-suc) (omega arith)

-- at most 6 digits say a number below a million
pub number_small : (number i : ℕ) → number < 10 ^ i → i ≤ 6 → number < 1000000
number_small number i h k = lt_of_lt_of_le h (pow-le-pow_right {n = 10} (omega arith) k)

-- the digits from place i on, behind others
pub number_at : (before : ℕ) (text : List ℕ) (i : ℕ) → i < length text
    → number_from before (drop i text) ≡ number_from (before * 10 + (get_or text i 0 - zero_digit)) (drop (i + 1) text)
unfolding number_from
number_at before text i h = rw (add-one, drop-cons text i 0 h)
