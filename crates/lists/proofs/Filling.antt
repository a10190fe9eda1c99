-- Lists filled entry by entry.
use mathlib.Core.Path.{◌≡◌, ap, ◌∙◌}
use mathlib.Core.Logic.{by_cases}
use mathlib.Core.List.{List, [], ◌∷◌, ◌++◌}
use Prim.Native.Nat.{ℕ, suc, ◌+◌, ◌-◌, ◌≤◌, ◌<◌}
use native.Mathlib.Omega.{arith}
use native.Mathlib.Decide.{ℕ_discrete}
use lib.ListN.{length, get_or, set}
use lib.Seq.{get_or-set_same, get_or-set_other}
use Rattle.lists.specs.Numbers.{numbers}
use Rattle.lists.specs.Sums.{sum_over}
use Rattle.lists.proofs.Numbers.{numbers-snoc}
use Rattle.lists.proofs.Sums.{sum_snoc}

-- what holds of the entries at the entries from `first` to i, and of the one that is written at i, holds at the places to i + 1
pub filled_next : {A : Type 0} (P : ℕ → A → Type 0) (none : A) (xs : List A) (first i : ℕ) (x : A) → i < length xs
    → ((u : ℕ) → first ≤ u → u < i → P u (get_or xs u none)) → P i x
    → (u : ℕ) → first ≤ u → u < i + 1 → P u (get_or (set xs i x) u none)
filled_next P none xs first i x room before here u l h =
    by_cases (ℕ_discrete u i)
    (λ e. rw (e, get_or-set_same xs i x none room) here)
    (λ ne. rw (get_or-set_other xs i u x none ne) (before u l (omega arith)))

-- a list filled from place `first` to place i: P holds of what was written there, Q of the other entries
pub record FilledTo {A : Type 0} (P Q : ℕ → A → Type 0) (none : A) (first i : ℕ) (xs : List A) : Type 0 where
  pub inside : (u : ℕ) → first ≤ u → u < i → P u (get_or xs u none)
  pub outside : (u : ℕ) → (first ≤ u → u < i → ⊥) → Q u (get_or xs u none)

-- it is filled one place further
pub filled_more : {A : Type 0} (P Q : ℕ → A → Type 0) (none : A) (xs : List A) (first i : ℕ) (x : A) → i < length xs → first ≤ i
    → FilledTo P Q none first i xs → P i x → FilledTo P Q none first (i + 1) (set xs i x)
filled_more P Q none xs first i x room from before here = record {
  inside = filled_next P none xs first i x room before.inside here;
  outside = λ u out. rw (get_or-set_other xs i u x none (λ e. out (omega arith) (omega arith))) (before.outside u (λ l h. out l
      (omega arith)));
}

-- a sum over consecutive numbers with one more
pub sum_next : (f : ℕ → ℕ) (first i : ℕ) → first ≤ i
    → sum_over f (numbers first (i + 1 - first)) ≡ sum_over f (numbers first (i - first)) + f i
sum_next f first i l =
    let one : i + 1 - first ≡ suc (i - first) = omega arith in
    let last : first + (i - first) ≡ i = omega arith in
    rw one
    (ap (sum_over f) (numbers-snoc first (i - first) ∙ ap (λ (k : ℕ). numbers first (i - first) ++ (k ∷ [])) last)
    ∙ sum_snoc f (numbers first (i - first)) i)
