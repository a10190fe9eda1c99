-- The weights of a `V` line: fields of the right form say weights from 1 to 9 and are written in the one way; weights that are written are
-- read back.
use mathlib.Core.Path.{◌≡◌, refl, sym, ap, ap₂, ◌∙◌}
use mathlib.Core.List.{List, [], ◌∷◌, map}
use mathlib.Core.Bool.{Bool, true, false, false≢true}
use Prim.Native.Nat.{ℕ, zero, suc, ◌+◌, ◌-◌, ◌≤◌}
use native.Mathlib.Omega.{arith}
use borrow.Author.Tests.{leb-true, le-leb, lt-ltb, eqb-true, eq-eqb}
use lib.Dec.{leb, eqb}
use lib.ListN.{length, length-map, replicate, length-replicate}
use Rattle.lists.specs.Tests.{every}
use Rattle.lists.proofs.Both.{and_left, and_right, and_both}
use Rattle.lists.proofs.Every.{every-head, every-tail}
use Rattle.matrix_form.specs.Shape.{heaviest, is_weight}
use Rattle.text_form.specs.Bytes.{line_feed}
use Rattle.text_form.specs.Decimal.{zero_digit}
use Rattle.file_form.specs.Weights.{letter_v, weight_form, weight_in, weight_text, weights_form, weights_said}
use Rattle.text_form.proofs.Plain.{plain}

-- a field of the right form is one digit, from `1` to `9`
pub weight_digit : (field : List ℕ) → weight_form field ≡ true → (digit : ℕ) × (field ≡ digit ∷ []) × (49 ≤ digit) × (digit ≤ 57)
unfolding weight_form
weight_digit [] e = absurd (false≢true e)
weight_digit (digit ∷ []) e = (
  digit,
  refl,
  leb-true 49 digit (and_left (leb 49 digit) (leb digit 57) e),
  leb-true digit 57 (and_right (leb 49 digit) (leb digit 57) e),
)
weight_digit (digit ∷ next ∷ digits) e = absurd (false≢true e)

-- its weight is from 1 to 9
weight_known : (field : List ℕ) → weight_form field ≡ true → is_weight (weight_in field) ≡ true
unfolding is_weight weight_in
weight_known field e =
    let found = weight_digit field e in
    let digit = found.0 in
    rw found.1
    (and_both (le-leb 1 (digit - zero_digit) (omega (arith, found.2))) (le-leb (digit - zero_digit) heaviest (omega (arith, found.3))))

-- it is written in the one way
weight_written : (field : List ℕ) → weight_form field ≡ true → weight_text (weight_in field) ≡ field
unfolding weight_in
weight_written field e =
    let found = weight_digit field e in
    let digit = found.0 in
    let same : zero_digit + (digit - zero_digit) ≡ digit = omega (arith, found.2) in
    rw found.1 (ap (λ byte. byte ∷ []) same)

-- a weight from 1 to 9 is written in the right form
weight_formed : (weight : ℕ) → is_weight weight ≡ true → weight_form (weight_text weight) ≡ true
unfolding is_weight weight_form
weight_formed weight e =
    let low = leb-true 1 weight (and_left (leb 1 weight) (leb weight heaviest) e) in
    let high = leb-true weight heaviest (and_right (leb 1 weight) (leb weight heaviest) e) in
    and_both (le-leb 49 (zero_digit + weight) (omega arith)) (le-leb (zero_digit + weight) 57 (omega arith))

-- and read back
weight_back : (weight : ℕ) → weight_in (weight_text weight) ≡ weight
unfolding weight_in
weight_back weight = omega arith

-- fields of the right form say weights from 1 to 9
weights_known : (fields : List (List ℕ)) → every weight_form fields ≡ true → every is_weight (map weight_in fields) ≡ true
unfolding every
weights_known [] e = refl
weights_known (field ∷ fields) e =
    and_both (weight_known field (every-head weight_form field fields e)) (weights_known fields (every-tail weight_form field fields e))

-- they are written in the one way
pub weights_written_lem : (fields : List (List ℕ)) → every weight_form fields ≡ true → map weight_text (map weight_in fields) ≡ fields
weights_written_lem [] e = refl
weights_written_lem (field ∷ fields) e =
    ap₂ ◌∷◌ (weight_written field (every-head weight_form field fields e)) (weights_written_lem fields (every-tail weight_form field fields e))

-- weights from 1 to 9 are written in the right form
weights-formed : (weights : List ℕ) → every is_weight weights ≡ true → every weight_form (map weight_text weights) ≡ true
unfolding every
weights-formed [] e = refl
weights-formed (weight ∷ weights) e =
    and_both (weight_formed weight (every-head is_weight weight weights e)) (weights-formed weights (every-tail is_weight weight weights e))

-- weights are read back
pub weights_back : (weights : List ℕ) → map weight_in (map weight_text weights) ≡ weights
weights_back [] = refl
weights_back (weight ∷ weights) = ap₂ ◌∷◌ (weight_back weight) (weights_back weights)

-- a weight holds neither a tab nor a line feed
weight_plain : (weight : ℕ) → plain (weight_text weight) ≡ true
unfolding every
weight_plain weight = and_both (lt-ltb line_feed (zero_digit + weight) (omega arith)) refl

-- and so do `V` and weights
pub weights-plain : (weights : List ℕ) → every plain ((letter_v ∷ []) ∷ map weight_text weights) ≡ true
unfolding every
weights-plain weights = digits weights
  where
    -- the digits
    digits : (ws : List ℕ) → every plain (map weight_text ws) ≡ true
    digits [] = refl
    digits (weight ∷ ws) = and_both (weight_plain weight) (digits ws)

-- so many ones are weights
ones_known : (count : ℕ) → every is_weight (replicate count 1) ≡ true
unfolding every is_weight
ones_known zero = refl
ones_known (suc count) = ones_known count

-- what the fields of a `V` line, if there is one, say of m characters
module _ (m : ℕ) (fields : List (List ℕ)) where
  -- there are m weights
  pub said_count : (weighed : Bool) → (weighed ≡ true → weights_form m fields ≡ true) → length (weights_said weighed m fields) ≡ m
  unfolding weights_said weights_form
  said_count true formed =
      length-map fields weight_in ∙ eqb-true (length fields) m (and_left (eqb (length fields) m) (every weight_form fields) (formed refl))
  said_count false formed = length-replicate m 1

  -- each of them is from 1 to 9
  pub said_known : (weighed : Bool) → (weighed ≡ true → weights_form m fields ≡ true) → every is_weight (weights_said weighed m fields) ≡ true
  unfolding weights_said weights_form
  said_known true formed = weights_known fields (and_right (eqb (length fields) m) (every weight_form fields) (formed refl))
  said_known false formed = ones_known m

  -- without the line they are 1
  pub said_ones : (weighed : Bool) → weighed ≡ false → weights_said weighed m fields ≡ replicate m 1
  unfolding weights_said
  said_ones true none = absurd (false≢true (sym none))
  said_ones false none = refl

-- m weights from 1 to 9, written, have the right form
pub written_form : (m : ℕ) (weights : List ℕ) → length weights ≡ m → every is_weight weights ≡ true
    → weights_form m (map weight_text weights) ≡ true
unfolding weights_form
written_form m weights count known =
    and_both (eq-eqb (length (map weight_text weights)) m (length-map weights weight_text ∙ count)) (weights-formed weights known)
