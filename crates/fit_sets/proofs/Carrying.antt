-- A state carried through a list in rising order is written in at its place; six ends carried in one by one are put in order.
use Rattle.std.proofs.Common.{◌≡◌, ℕ, suc, ◌+◌, ◌<◌, ◌≤◌, Bool, true, false, cond, List, [], ◌∷◌, ◌++◌, length, get_or, take, drop, set, ℤ, pos, sym, refl, ap, ◌∙◌, ap₂, append_assoc, add-one, arith, drop_of_length-le, length-append, take_all, drop-cons, get_or-take, take-suc-set, drop-set-lt}
use lib.Seq.{take-append_seam}
use lib.Signed.{le_z}
use Rattle.filled.specs.declared.Filled.{Filled}
use Rattle.difference_form.specs.Rows.{lower, higher}
use Rattle.difference_form.proofs.Laws.Order.{le_z-true, le_z-false}
use Rattle.difference_form.proofs.Laws.Codes.{lower-first, lower_second, higher-first, higher_second}
use Rattle.fit_form.specs.Sets.{insert, in_order, six_ends, middle}
use Rattle.matrix_form.specs.declared.spans.Span.{Span}
use Rattle.fit_sets.specs.Steps.{carried, Carried}
use Rattle.matrix_form.specs.Spans.{span}
use Rattle.fit_form.proofs.Sets.Order.{Rising, rising_in_order}

-- one place of a list through which a state is carried
carried_step : (x y : ℤ) (ys : List ℤ) → carried x (y ∷ ys) ≡ lower x y ∷ carried (higher x y) ys
unfolding carried
carried_step x y ys = refl

-- behind the last place stands the state
carried_none : (x : ℤ) → carried x [] ≡ x ∷ []
unfolding carried
carried_none x = refl

-- a state at most the first of a list in rising order is carried past it unchanged
carried_first : (s : ℤ) (ys : List ℤ) → Rising (s ∷ ys) → carried s ys ≡ s ∷ ys
unfolding carried
carried_first s [] r = refl
carried_first s (y ∷ ys) r =
    ap₂ (λ (x : ℤ) (rest : List ℤ). x ∷ rest) (lower-first s y r.0)
    (ap (λ (x : ℤ). carried x ys) (higher_second s y r.0) ∙ carried_first y ys r.1)

-- a state carried through a list in rising order is written in at its place
pub carried-insert : (x : ℤ) (ys : List ℤ) → Rising ys → carried x ys ≡ insert x ys
unfolding carried insert
carried-insert x [] r = refl
carried-insert x (y ∷ ys) r = go (le_z x y) refl (carried-insert x ys r.1)
  where
    go : (t : Bool) → le_z x y ≡ t → carried x ys ≡ insert x ys
        → lower x y ∷ carried (higher x y) ys ≡ cond t (x ∷ y ∷ ys) (y ∷ insert x ys)
    go true e h =
        ap₂ (λ (z : ℤ) (rest : List ℤ). z ∷ rest) (lower-first x y (le_z-true x y e))
        (ap (λ (z : ℤ). carried z ys) (higher_second x y (le_z-true x y e)) ∙ carried_first y ys r)
    go false e h =
        ap₂ (λ (z : ℤ) (rest : List ℤ). z ∷ rest) (lower_second x y (le_z-false x y e))
        (ap (λ (z : ℤ). carried z ys) (higher-first x y (le_z-false x y e)) ∙ h)

-- one state more carried into a list that is in order
carried-next : (before after : Filled ℤ 6) (x : ℤ) (xs : List ℤ) → Carried before x after → take before.count before.items ≡ in_order xs
    → take after.count after.items ≡ in_order (x ∷ xs)
unfolding in_order
carried-next before after x xs c e = c.states ∙ ap (carried x) e ∙ carried-insert x (in_order xs) (rising_in_order xs)

-- of six ends in order the third and the fourth are the middle
ends_middle : (a b c : Span) (sorted : List ℤ) → sorted ≡ in_order (six_ends a b c)
    → span (get_or sorted 2 (pos 0)) (get_or sorted 3 (pos 0)) ≡ middle a b c
unfolding middle
ends_middle a b c sorted e = ap (λ (xs : List ℤ). span (get_or xs 2 (pos 0)) (get_or xs 3 (pos 0))) e

-- six ends carried in one by one, the last first: the third and the fourth place hold the middle
pub middle-carried : (a b c : Span) (s₀ s₁ s₂ s₃ s₄ s₅ s₆ : Filled ℤ 6) → s₀.count ≡ 0
    → Carried s₀ c.high s₁ → Carried s₁ c.low s₂ → Carried s₂ b.high s₃ → Carried s₃ b.low s₄ → Carried s₄ a.high s₅ → Carried s₅ a.low s₆
    → span (get_or s₆.items 2 (pos 0)) (get_or s₆.items 3 (pos 0)) ≡ middle a b c
middle-carried a b c s₀ s₁ s₂ s₃ s₄ s₅ s₆ start c₁ c₂ c₃ c₄ c₅ c₆ =
    let none : take s₀.count s₀.items ≡ in_order [] = unfold in_order in ap (λ (k : ℕ). take k s₀.items) start in
    let all : take s₆.count s₆.items ≡ in_order (six_ends a b c) =
    carried-next s₅ s₆ a.low (a.high ∷ b.low ∷ b.high ∷ c.low ∷ c.high ∷ []) c₆
    (carried-next s₄ s₅ a.high (b.low ∷ b.high ∷ c.low ∷ c.high ∷ []) c₅
    (carried-next s₃ s₄ b.low (b.high ∷ c.low ∷ c.high ∷ []) c₄
    (carried-next s₂ s₃ b.high (c.low ∷ c.high ∷ []) c₃
    (carried-next s₁ s₂ c.low (c.high ∷ []) c₂ (carried-next s₀ s₁ c.high [] c₁ none))))) in
    let count : s₆.count ≡ 6 = omega (arith, start, c₁.count, c₂.count, c₃.count, c₄.count, c₅.count, c₆.count) in
    ap₂ span
    (sym (get_or-take s₆.count s₆.items 2 (pos 0) (omega arith)))
    (sym (get_or-take s₆.count s₆.items 3 (pos 0) (omega arith)))
    ∙ ends_middle a b c (take s₆.count s₆.items) all

-- a list through which a state is carried
module _ (xs : List ℤ) (on : ℤ) (goal : List ℤ) where
  -- one place further: it keeps the lower, and the higher goes on
  pub carry_next : (i : ℕ) → i < length xs → take i xs ++ carried on (drop i xs) ≡ goal
      → take (i + 1) (set xs i (lower on (get_or xs i (pos 0))))
      ++ carried (higher on (get_or xs i (pos 0))) (drop (i + 1) (set xs i (lower on (get_or xs i (pos 0))))) ≡ goal
  carry_next i some inv =
      let low = lower on (get_or xs i (pos 0)) in
      let high = higher on (get_or xs i (pos 0)) in
      let first : take (suc i) (set xs i low) ≡ take i xs ++ (low ∷ []) = take-suc-set xs i low some in
      let last : drop (suc i) (set xs i low) ≡ drop (suc i) xs = drop-set-lt (suc i) xs i low (omega arith) in
      let on-here : carried on (drop i xs) ≡ low ∷ carried high (drop (suc i) xs) =
      ap (carried on) (drop-cons xs i (pos 0) some) ∙ carried_step on (get_or xs i (pos 0)) (drop (suc i) xs) in
      rw add-one
      (ap₂ (λ (p : List ℤ) (q : List ℤ). p ++ carried high q) first last
      ∙ append_assoc (take i xs) (low ∷ []) (carried high (drop (suc i) xs))
      ∙ ap (λ (p : List ℤ). take i xs ++ p) (sym on-here)
      ∙ inv)

  -- at the end it is written in behind the list
  pub carry_end : (i count : ℕ) (rest : List ℤ) → length xs ≡ count → count ≤ i → 1 ≤ length rest → take i xs ++ carried on (drop i xs) ≡ goal
      → take (count + 1) (set (xs ++ rest) count on) ≡ goal
  carry_end i count rest size end some inv =
      let whole = length-append xs rest in
      let room : count < length (xs ++ rest) = omega arith in
      let all : take i xs ≡ xs = take_all i xs (omega arith) in
      let front : take count (xs ++ rest) ≡ xs = rw size at (take-append_seam xs rest) in
      let last : carried on (drop i xs) ≡ on ∷ [] = ap (carried on) (drop_of_length-le xs (omega arith)) ∙ carried_none on in
      rw add-one
      (take-suc-set (xs ++ rest) count on room
      ∙ ap₂ (λ (p q : List ℤ). p ++ q) (front ∙ sym all) (sym last)
      ∙ inv)
