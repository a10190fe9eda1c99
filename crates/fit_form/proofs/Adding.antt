-- Sums that a fold adds up, each step without regard to what passes 64 bits.
use Rattle.std.proofs.Common.{◌≡◌, ℕ, zero, suc, ◌+◌, ◌%◌, ◌^◌, ◌<◌, ◌≤◌, List, [], ◌∷◌, map, fold, length, get_or, take, drop, ap, refl, ◌∙◌, arith, drop-cons}
use native.Mathlib.Nat.{mod-eq_of_lt}
use Rattle.lists.specs.Numbers.{numbers}
use Rattle.lists.specs.Sums.{sum_over}

-- a sum that fits 64 bits, added up with what stands before it
pub added_up : {A : Type 0} (f : A → ℕ) (xs : List A) (first : ℕ) → first + sum_over f xs < 2 ^ 64
    → fold (λ (a : ℕ) (x : A). (a + f x) % (2 ^ 64)) first xs ≡ first + sum_over f xs
unfolding sum_over
added_up f [] first small = omega arith
added_up {A} f (x ∷ xs) first small =
    let here : (first + f x) % (2 ^ 64) ≡ first + f x = mod-eq_of_lt (omega arith) in
    ap (λ (a : ℕ). fold (λ (a : ℕ) (x : A). (a + f x) % (2 ^ 64)) a xs) here
    ∙ added_up f xs (first + f x) (omega arith)
    ∙ omega arith

-- so many items from an index on are those of its numbers
pub items_from : {A : Type 0} (none : A) (xs : List A) (k a : ℕ) → a + k ≤ length xs
    → take k (drop a xs) ≡ map (λ (i : ℕ). get_or xs i none) (numbers a k)
unfolding numbers
items_from none xs zero a room = refl
items_from none xs (suc k) a room =
    ap (take (suc k)) (drop-cons xs a none (omega arith))
    ∙ ap (λ (rest : List _). get_or xs a none ∷ rest) (items_from none xs k (suc a) (omega arith))
