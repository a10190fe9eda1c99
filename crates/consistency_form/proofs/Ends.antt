-- The lowest and the highest of some codes: they are among the codes, and all codes lie between them; the floor in document 02's words.
use mathlib.Core.Path.{◌≡◌, refl, sym, ap, ap₂, ◌∙◌, subst}
use mathlib.Core.Logic.{⊎_elim}
use mathlib.Core.List.Memᴰ
use mathlib.Core.List.{List, [], ◌∷◌, map, Memᴰ}
use Prim.Native.Nat.{ℕ, ◌*◌, ◌≤◌, min}
use native.Mathlib.Nat.{mul-le-mul_left}
use native.Mathlib.Omega.{arith}
use lib.IntN.{ℤ, pos, ◌-ℤ◌}
use lib.ListN.{length}
use lib.Signed.{◌≤ℤ◌, ≤ℤ_refl}
use Rattle.lists.specs.Numbers.{numbers}
use Rattle.lists.specs.Sums.{sum_over}
use Rattle.matrix_form.specs.Shape.{weight_of}
use Rattle.difference_form.specs.Rows.{apart, part, lower, higher, weighing}
use Rattle.difference_form.proofs.Laws.Order.{lower-keeps, higher-keeps}
use Rattle.difference_form.proofs.Laws.Codes.{≤ℤ-trans, lower_second, lower-least, higher-most, between_ends, sub-first}
use Rattle.difference_form.proofs.Laws.Points.{everywhere, point_le, apart-point, lower-point}
use Rattle.lists.proofs.Keep.{mem-length}
use Rattle.lists.proofs.Numbers.{length_map_numbers}
use Rattle.lists.proofs.Sums.{sum_same}
use Rattle.matrix_form.specs.Spans.{only, singles}
use Rattle.fit_form.specs.Assignments.{character}
use Rattle.fit_form.proofs.Matrix.Proper.{code_of, character-single}
use Rattle.matrix_form.specs.declared.spans.Span.{Span}
use Rattle.consistency_form.specs.Floor.{left_by, lowest, highest, states_of, greatest_low, least_high, character_floor, floor}

module _ (choose : ℤ → ℤ → ℤ) where
  -- what holds of every code of a list holds of the one left, if of two codes of which it holds it holds of the one chosen
  left-keeps : (P : ℤ → Type 0) → ((a b : ℤ) → P a → P b → P (choose a b)) → (codes : List ℤ) → 1 ≤ length codes
      → ((code : ℤ) → Memᴰ code codes → P code) → P (left_by choose codes)
  unfolding left_by
  left-keeps P keeps [] some h = absurd (omega arith)
  left-keeps P keeps (code ∷ []) some h = h code (Memᴰ.head refl)
  left-keeps P keeps (code ∷ next ∷ codes) some h =
      keeps code (left_by choose (next ∷ codes)) (h code (Memᴰ.head refl))
      (left-keeps P keeps (next ∷ codes) (omega arith) (λ c i. h c (Memᴰ.tail i)))

  -- the one left is at one side of each code of the list, if the one chosen of two is at that side of both
  left-outside : (Side : ℤ → ℤ → Type 0) → ((a : ℤ) → Side a a) → ((a b c : ℤ) → Side a b → Side b c → Side a c)
      → ((a b : ℤ) → Side (choose a b) a × Side (choose a b) b)
      → (codes : List ℤ) (code : ℤ) → Memᴰ code codes → Side (left_by choose codes) code
  unfolding left_by
  left-outside Side self over both [] code i = absurd (Memᴰ.not-nil i)
  left-outside Side self over both (c ∷ []) code i =
      ⊎_elim (λ e. subst (λ x. Side c x) (sym e) (self c)) (λ j. absurd (Memᴰ.not-nil j)) (Memᴰ.cases_cons i)
  left-outside Side self over both (c ∷ next ∷ codes) code i =
      let left = left_by choose (next ∷ codes) in
      ⊎_elim
      (λ e. subst (λ x. Side (choose c left) x) (sym e) (both c left).0)
      (λ j. over (choose c left) left code (both c left).1 (left-outside Side self over both (next ∷ codes) code j))
      (Memᴰ.cases_cons i)

-- what holds of every code of a list holds of its lowest
pub lowest-keeps : (P : ℤ → Type 0) (codes : List ℤ) → 1 ≤ length codes → ((code : ℤ) → Memᴰ code codes → P code) → P (lowest codes)
unfolding lowest
lowest-keeps P = left-keeps lower P (lower-keeps P)

-- and of its highest
pub highest-keeps : (P : ℤ → Type 0) (codes : List ℤ) → 1 ≤ length codes → ((code : ℤ) → Memᴰ code codes → P code) → P (highest codes)
unfolding highest
highest-keeps P = left-keeps higher P (higher-keeps P)

-- the lowest of some codes is one of them
pub lowest-mem : (codes : List ℤ) → 1 ≤ length codes → Memᴰ (lowest codes) codes
lowest-mem codes some = lowest-keeps (λ c. Memᴰ c codes) codes some (λ c i. i)

-- so is the highest
pub highest-mem : (codes : List ℤ) → 1 ≤ length codes → Memᴰ (highest codes) codes
highest-mem codes some = highest-keeps (λ c. Memᴰ c codes) codes some (λ c i. i)

-- no code of a list is below its lowest
pub lowest-least : (codes : List ℤ) (code : ℤ) → Memᴰ code codes → lowest codes ≤ℤ code
unfolding lowest
lowest-least = left-outside lower (λ a b. a ≤ℤ b) ≤ℤ_refl (λ a b c h k. ≤ℤ-trans h k) lower-least

-- and none is above its highest
pub highest-most : (codes : List ℤ) (code : ℤ) → Memᴰ code codes → code ≤ℤ highest codes
unfolding highest
highest-most = left-outside higher (λ a b. b ≤ℤ a) ≤ℤ_refl (λ a b c h k. ≤ℤ-trans k h) higher-most

-- from a low end on and up to a high end two states lie no nearer than the ends, where the low end is above
pub apart_spread : (s t low high : ℤ) → low ≤ℤ s → t ≤ℤ high → apart low (lower low high) ≤ apart s t
apart_spread s t low high p q = everywhere
    (λ z. z 2 ≤ℤ z 0 → z 1 ≤ℤ z 3 → apart (z 2) (lower (z 2) (z 3)) ≤ apart (z 0) (z 1))
    (λ K n p q.
    let a = point_le K (n 2) (n 0) p in
    let b = point_le K (n 1) (n 3) q in
    rw (lower-point K (n 2) (n 3), apart-point K (n 0) (n 1), apart-point K (n 2) (min (n 2) (n 3))) (omega arith))
    (s ∷ t ∷ low ∷ high ∷ []) p q

-- of codes the greatest low end is the highest code
lows-single : (codes : List ℤ) → map (λ (a : Span). a.low) (map only codes) ≡ codes
unfolding only
lows-single [] = refl
lows-single (code ∷ codes) = ap (◌∷◌ code) (lows-single codes)

-- and the least high end is the lowest
highs-single : (codes : List ℤ) → map (λ (a : Span). a.high) (map only codes) ≡ codes
unfolding only
highs-single [] = refl
highs-single (code ∷ codes) = ap (◌∷◌ code) (highs-single codes)

-- where each taxon has its code alone, the floor of a character is what the step from the highest to the lowest code costs
pub floor-single : (step : ℤ → ℤ → ℕ) (codes : List ℤ) → 1 ≤ length codes
    → character_floor step (map only codes) ≡ step (highest codes) (lowest codes)
unfolding character_floor
floor-single step codes some =
    ap₂ (λ lows highs. step (highest lows) (lower (highest lows) (lowest highs))) (lows-single codes) (highs-single codes)
    ∙ ap (step (highest codes)) (lower_second (highest codes) (lowest codes) (lowest-least codes (highest codes) (highest-mem codes some)))

-- the step from the highest to the lowest code is the greatest between two taxa
pub widest_step : (w : ℕ) (codes : List ℤ) (a b : ℤ) → Memᴰ a codes → Memᴰ b codes → part w a b ≤ part w (highest codes) (lowest codes)
unfolding part
widest_step w codes a b i j =
    mul-le-mul_left w
    (between_ends (lowest codes) (highest codes) a b (lowest-least codes a i) (highest-most codes a i) (lowest-least codes b j)
    (highest-most codes b j))

-- where each taxon has its code alone, the floor of a character is the greatest part between two of its taxa
pub widest : (w : ℕ) (codes : List ℤ) (a b : ℤ) → Memᴰ a codes → Memᴰ b codes → part w a b ≤ character_floor (part w) (map only codes)
widest w codes a b i j = rw (floor-single (part w) codes (mem-length i)) (widest_step w codes a b i j)

-- how far highest and lowest lie apart is the highest less the lowest
pub highest_less_lowest : (codes : List ℤ) → 1 ≤ length codes → highest codes -ℤ lowest codes ≡ pos (apart (highest codes) (lowest codes))
highest_less_lowest codes some = sub-first (highest codes) (lowest codes) (lowest-least codes (highest codes) (highest-mem codes some))

-- by weights the floor is the sum over characters of the weight times the greatest low end less the least high end, or 0
pub floor-weighed : (weights : List ℕ) (rows : List (List Span)) (n m : ℕ)
    → floor (weighing weights).step rows n m
    ≡ sum_over
    (λ j.
    let low = greatest_low (states_of rows n j) in
    weight_of weights j * apart low (lower low (least_high (states_of rows n j))))
    (numbers 1 m)
unfolding floor character_floor part
floor-weighed weights rows n m = refl

-- the codes of the n taxa in character j, row 1's first
abbrev pub codes_of : List (List ℤ) → ℕ → ℕ → List ℤ
codes_of rows n j = map (code_of rows j) (numbers 1 n)

-- where each taxon has its code alone, its states in a character are its codes
states-single : (rows : List (List ℤ)) (j : ℕ) (taxa : List ℕ) → map (character (singles rows) j) taxa ≡ map only (map (code_of rows j) taxa)
states-single rows j [] = refl
states-single rows j (v ∷ taxa) = ap₂ ◌∷◌ (character-single rows j v) (states-single rows j taxa)

-- then the floor is the sum over characters of the weight times highest less lowest code among the taxa
pub floor-codes : (weights : List ℕ) (rows : List (List ℤ)) (n m : ℕ) → 1 ≤ n
    → floor (weighing weights).step (singles rows) n m
    ≡ sum_over (λ j. weight_of weights j * apart (highest (codes_of rows n j)) (lowest (codes_of rows n j))) (numbers 1 m)
unfolding floor states_of part
floor-codes weights rows n m taxon =
    sum_same (λ j. character_floor (part (weight_of weights j)) (states_of (singles rows) n j))
    (λ j. part (weight_of weights j) (highest (codes_of rows n j)) (lowest (codes_of rows n j))) (numbers 1 m)
    (λ j i.
    ap (character_floor (part (weight_of weights j))) (states-single rows j (numbers 1 n))
    ∙ floor-single (part (weight_of weights j)) (codes_of rows n j) (omega (arith, length_map_numbers (code_of rows j) 1 n)))
