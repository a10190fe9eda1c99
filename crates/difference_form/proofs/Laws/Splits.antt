-- The difference of two rows in parts: of their fronts and of what stands behind them, by weights of 1 where weights are missing.
use mathlib.Core.Path.{◌≡◌, refl, sym, ap, ◌∙◌}
use mathlib.Core.List.{List, [], ◌∷◌}
use Prim.Native.Nat.{ℕ, zero, suc, ◌+◌, ◌*◌, ◌≤◌, ◌<◌, min}
use native.Mathlib.Nat.{add_assoc, zero-add}
use native.Mathlib.Numerals.{one-add}
use native.Mathlib.Omega.{arith}
use lib.IntN.{ℤ}
use lib.ListN.{length, take, drop, replicate, length-take}
use lib.Seq.{drop-drop, get_or-drop}
use Rattle.std.proofs.lemmas.List.{get_or_past, get_or-take, take-take, take-replicate, drop-take}
use Rattle.lists.proofs.Filled.{get_d_replicate}
use Rattle.matrix_form.specs.Shape.{weight_at}
use Rattle.difference_form.specs.Rows.{part, difference}
use Rattle.difference_form.proofs.Laws.Weights.{difference-weights}

-- a row differs by nothing from one without characters
pub difference-nil : (weights : List ℕ) (xs : List ℤ) → difference weights xs [] ≡ 0
unfolding difference
difference-nil weights [] = refl
difference-nil weights (x ∷ xs) = refl

-- the difference of two rows is that of their fronts and that of what stands behind, by the weights behind
pub difference-split : (k : ℕ) (weights : List ℕ) (xs ys : List ℤ)
    → difference weights xs ys
    ≡ difference weights (take k xs) (take k ys) + difference (drop k weights) (drop k xs) (drop k ys)
unfolding difference
difference-split zero weights [] ys = refl
difference-split zero weights (x ∷ xs) [] = refl
difference-split zero weights (x ∷ xs) (y ∷ ys) = sym (zero-add (difference weights (x ∷ xs) (y ∷ ys)))
difference-split (suc k) weights [] ys = refl
difference-split (suc k) weights (x ∷ xs) [] = sym (zero-add _ ∙ difference-nil (drop (suc k) weights) (drop k xs))
difference-split (suc k) weights (x ∷ xs) (y ∷ ys) =
    ap (λ (rest : ℕ). part (weight_at weights 0) x y + rest)
    (difference-split k (drop 1 weights) xs ys
    ∙ ap (λ (ws : List ℕ). difference (drop 1 weights) (take k xs) (take k ys) + difference ws (drop k xs) (drop k ys)) (drop-drop k 1 weights ∙ ap (λ (i : ℕ). drop i weights) (one-add k)))
    ∙ sym (add_assoc (part (weight_at weights 0) x y) _ _)

-- behind the shorter of two rows there is no difference
pub difference-ended : (k : ℕ) (weights : List ℕ) (xs ys : List ℤ) → min (length xs) (length ys) ≤ k
    → difference weights xs ys ≡ difference weights (take k xs) (take k ys)
unfolding difference
difference-ended zero weights [] ys h = refl
difference-ended (suc k) weights [] ys h = refl
difference-ended zero weights (x ∷ xs) [] h = refl
difference-ended (suc k) weights (x ∷ xs) [] h = refl
difference-ended zero weights (x ∷ xs) (y ∷ ys) h = absurd (omega arith)
difference-ended (suc k) weights (x ∷ xs) (y ∷ ys) h =
    ap (λ (rest : ℕ). part (weight_at weights 0) x y + rest) (difference-ended k (drop 1 weights) xs ys (omega arith))

-- the front of the weights decides the difference of the fronts of the rows
pub difference-front : (k : ℕ) (weights : List ℕ) (xs ys : List ℤ)
    → difference (take k weights) (take k xs) (take k ys) ≡ difference weights (take k xs) (take k ys)
unfolding weight_at
difference-front k weights xs ys = difference-weights (take k weights) weights (take k xs) (take k ys) same
  where
    same : (i : ℕ) → i < length (take k xs) → weight_at (take k weights) i ≡ weight_at weights i
    same i below = get_or-take k weights i 1 (omega (arith, below, length-take k xs))

-- behind all weights each character weighs 1
difference-behind : (k n : ℕ) (weights : List ℕ) (xs ys : List ℤ) → (0 < length xs → length weights ≤ k)
    → difference (replicate n 1) xs ys ≡ difference (drop k weights) xs ys
unfolding weight_at
difference-behind k n weights xs ys h = difference-weights (replicate n 1) (drop k weights) xs ys same
  where
    same : (i : ℕ) → i < length xs → weight_at (replicate n 1) i ≡ weight_at (drop k weights) i
    same i below =
        let past : length weights ≤ k + i = omega (arith, h (omega arith)) in
        get_d_replicate 1 n i ∙ sym (get_or-drop k weights i 1 ∙ get_or_past weights (k + i) 1 past)

-- two rows cut to one length, parted where the weights end: the difference of the fronts, and that of the rest by weights of 1
pub difference-parted : (k known more : ℕ) (weights : List ℕ) (xs ys : List ℤ)
    → known + more ≡ min (min (length xs) (length ys)) k → known ≡ min (length weights) (known + more)
    → difference (take known weights) (take known xs) (take known ys)
    + difference (take more (replicate k 1)) (take more (drop known xs)) (take more (drop known ys))
    ≡ difference weights (take k xs) (take k ys)
difference-parted k known more weights xs ys cut parted =
    let behind : 0 < length (take more (drop known xs)) → length weights ≤ known =
    λ some. omega (arith, some, length-take more (drop known xs)) in
    rw (
      take-replicate {X = ℕ} more k 1 (omega arith),
      difference-front known weights xs ys,
      difference-behind known more weights (take more (drop known xs)) (take more (drop known ys)) behind,
      difference-ended (known + more) weights (take k xs) (take k ys) (omega (arith, length-take k xs, length-take k ys)),
      take-take (known + more) k xs (omega arith),
      take-take (known + more) k ys (omega arith),
      difference-split known weights (take (known + more) xs) (take (known + more) ys),
      take-take known (known + more) xs (omega arith),
      take-take known (known + more) ys (omega arith),
      drop-take known more xs,
      drop-take known more ys,
    )
    refl

-- a number that a row decides, 0 for a row without characters, is at most so much a character if it is where there is one
pub bounded_by_length : (f : List ℤ → ℕ) (xs : List ℤ) (r bound : ℕ) → f [] ≡ 0 → r ≡ f xs
    → (0 < length xs → r ≤ length xs * bound) → r ≤ length xs * bound
bounded_by_length f [] r bound none e h = omega (arith, none, e)
bounded_by_length f (x ∷ xs) r bound none e h = h (omega arith)
