-- The weights of the characters in a file (document 02, M-101): how a weight is written, which form is right, and the weights that hold
-- without a `V` line.
use Rattle.std.specs.Prelude.{List, [], ◌∷◌, map, Bool, true, false, ◌&&◌, ℕ, ◌-◌, leb, eqb, length, get_or, replicate}
use Rattle.lists.specs.Tests.{every}
use Rattle.matrix_form.specs.declared.refusal.Refusal.TheVariants.{WeightForm}
use Rattle.text_form.specs.Decimal.{zero_digit, digit_for}
use Rattle.file_form.specs.Optional.{Optional}

-- `V`
abbrev pub letter_v : ℕ
letter_v = 86

-- a weight is one digit from `1` to `9`
unfoldable pub weight_form : List ℕ → Bool
weight_form [] = false
weight_form (digit ∷ []) = leb 49 digit && leb digit 57
weight_form (digit ∷ next ∷ digits) = false

-- the weight that its digit says
unfoldable pub weight_in : List ℕ → ℕ
weight_in field = get_or field 0 0 - zero_digit

-- a weight as it is written
abbrev pub weight_text : ℕ → List ℕ
weight_text weight = digit_for weight ∷ []

-- the fields behind `V` are m weights
unfoldable pub weights_form : ℕ → List (List ℕ) → Bool
weights_form m fields = eqb (length fields) m && every weight_form fields

-- the `V` line, which a file of every kind may have
abbrev pub weight_optional : Optional
weight_optional = record { letter = letter_v; allowed = λ kind. true; form = weights_form; refusal = WeightForm }

-- the weights of m characters: those of the fields behind `V`, and without the line every weight is 1
unfoldable pub weights_said : Bool → ℕ → List (List ℕ) → List ℕ
weights_said true m fields = map weight_in fields
weights_said false m fields = replicate m 1
