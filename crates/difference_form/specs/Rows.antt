-- The difference of two rows, the median of three, and the interval difference (Farris 1970), by the weights of the characters
-- (document 02, M-101). A row is a list of whole-number codes, one for each character.
use Rattle.std.specs.Prelude.{List, [], ◌∷◌, cond, ℕ, ◌+◌, ◌-◌, ◌*◌, ◌/◌, ℤ, ◌-ℤ◌, nat_abs, drop}
use Rattle.std.specs.Int.Signed.{le_z}
use Rattle.matrix_form.specs.Shape.{most_characters, highest_code, heaviest, weight_at, weight_of}

-- the absolute difference of two codes
unfoldable pub apart : ℤ → ℤ → ℕ
apart a b = nat_abs (a -ℤ b)

-- the lower of two codes
unfoldable pub lower : ℤ → ℤ → ℤ
lower a b = cond (le_z a b) a b

-- the higher of two codes
unfoldable pub higher : ℤ → ℤ → ℤ
higher a b = cond (le_z a b) b a

-- the middle one of three codes
unfoldable pub median : ℤ → ℤ → ℤ → ℤ
median a b c = higher (lower a b) (lower (higher a b) c)

-- the part of one character: its weight times the absolute difference of two codes
unfoldable pub part : ℕ → ℤ → ℤ → ℕ
part weight a b = weight * apart a b

-- the sum over characters of their parts, by weights of which the first is the first character's
unfoldable pub difference : List ℕ → List ℤ → List ℤ → ℕ
difference weights [] ys = 0
difference weights (x ∷ xs) [] = 0
difference weights (x ∷ xs) (y ∷ ys) = part (weight_at weights 0) x y + difference (drop 1 weights) xs ys

-- two codes in range are at most 1998 apart
abbrev pub most_apart : ℕ
most_apart = 2 * highest_code

-- so the part of one character is at most 9 times 1998
abbrev pub most_part : ℕ
most_part = heaviest * most_apart

-- and two rows that pass the questions differ by at most 128 times as much
abbrev pub most_difference : ℕ
most_difference = most_characters * most_part

-- document 01's difference, without weights: the sum over characters of the absolute difference of two rows' codes
unfoldable pub unweighted : List ℤ → List ℤ → ℕ
unweighted [] ys = 0
unweighted (x ∷ xs) [] = 0
unweighted (x ∷ xs) (y ∷ ys) = apart x y + unweighted xs ys

-- without weights two rows that pass the questions differ by at most 128 times 1998
abbrev pub most_unweighted : ℕ
most_unweighted = most_characters * most_apart

-- how change is measured: the difference of two rows, and what one step between two states costs in character j
pub record Measure : Type 0 where
  pub rows : List ℤ → List ℤ → ℕ
  pub step : ℕ → ℤ → ℤ → ℕ

-- the measure by the weights of the characters: each character's absolute difference counts as often as its weight says
abbrev pub weighing : List ℕ → Measure
weighing weights = record { rows = difference weights; step = λ j a b. part (weight_of weights j) a b }

-- document 01's measure: absolute differences, every character alike
abbrev pub plain : Measure
plain = record { rows = unweighted; step = λ j a b. apart a b }

-- the median of three rows, character by character
unfoldable pub medians : List ℤ → List ℤ → List ℤ → List ℤ
medians [] ys zs = []
medians (x ∷ xs) [] zs = []
medians (x ∷ xs) (y ∷ ys) [] = []
medians (x ∷ xs) (y ∷ ys) (z ∷ zs) = median x y z ∷ medians xs ys zs

-- the interval difference of b from the interval between c and d, by any difference: half of by(b,c) + by(b,d) - by(c,d)
unfoldable pub interval_by : (List ℤ → List ℤ → ℕ) → List ℤ → List ℤ → List ℤ → ℕ
interval_by by b c d = (by b c + by b d - by c d) / 2

-- the interval difference by the weighted difference of rows
abbrev pub interval_difference : List ℕ → List ℤ → List ℤ → List ℤ → ℕ
interval_difference weights b c d = interval_by (difference weights) b c d

-- the difference of nodes u and v, by any difference of rows and by the rows of the nodes
unfoldable pub node_difference : (List ℤ → List ℤ → ℕ) → (ℕ → List ℤ) → ℕ → ℕ → ℕ
node_difference by row_at u v = by (row_at u) (row_at v)
