-- States in rising order, and the states whose absolute differences from six states add up to the least:
-- those from the third to the fourth of the six.
use Rattle.std.proofs.Common.{◌≡◌, ℕ, suc, ◌+◌, ◌≤◌, Bool, true, false, cond, List, [], ◌∷◌, length, get_or, ℤ, pos, ◌≤ℤ◌, refl, ap, ◌∙◌, arith}
use lib.Signed.{le_z, ≤ℤ_refl}
use Rattle.difference_form.specs.Rows.{apart}
use Rattle.difference_form.proofs.Laws.Order.{le_z-true, le_z-false}
use Rattle.difference_form.proofs.Laws.Codes.{apart_from, apart-between, between-apart, ≤ℤ-trans}
use Rattle.fit_form.specs.Sets.{insert, in_order}

-- x is at most the first of a list
abbrev From : ℤ → List ℤ → Type 0
From x [] = Unit {0}
From x (y ∷ ys) = x ≤ℤ y

-- a list is in rising order
abbrev pub Rising : List ℤ → Type 0
Rising [] = Unit {0}
Rising (x ∷ xs) = From x xs × Rising xs

-- a lower bound stays one when a state is written in
from-insert : (z x : ℤ) (ys : List ℤ) → z ≤ℤ x → From z ys → From z (insert x ys)
unfolding insert
from-insert z x [] p q = p
from-insert z x (y ∷ ys) p q = go (le_z x y)
  where
    go : (t : Bool) → From z (cond t (x ∷ y ∷ ys) (y ∷ insert x ys))
    go true = p
    go false = q

-- a list in rising order stays so when a state is written in
rising_insert : (x : ℤ) (ys : List ℤ) → Rising ys → Rising (insert x ys)
unfolding insert
rising_insert x [] r = (tt, tt)
rising_insert x (y ∷ ys) r = go (le_z x y) refl (rising_insert x ys r.1)
  where
    go : (t : Bool) → le_z x y ≡ t → Rising (insert x ys) → Rising (cond t (x ∷ y ∷ ys) (y ∷ insert x ys))
    go true e h = (le_z-true x y e, r)
    go false e h = (from-insert y x ys (le_z-false x y e) r.0, h)

-- states put in order are in rising order
pub rising_in_order : (xs : List ℤ) → Rising (in_order xs)
unfolding in_order
rising_in_order [] = tt
rising_in_order (x ∷ xs) = rising_insert x (in_order xs) (rising_in_order xs)

-- the absolute differences of s from the states of a list, added up
unfoldable pub spread : ℤ → List ℤ → ℕ
spread s [] = 0
spread s (x ∷ xs) = apart s x + spread s xs

-- writing a state into a list adds its difference to the sum
spread_insert : (s x : ℤ) (ys : List ℤ) → spread s (insert x ys) ≡ apart s x + spread s ys
unfolding insert spread
spread_insert s x [] = refl
spread_insert s x (y ∷ ys) = go (le_z x y) (spread_insert s x ys)
  where
    go : (t : Bool) → spread s (insert x ys) ≡ apart s x + spread s ys →
        spread s (cond t (x ∷ y ∷ ys) (y ∷ insert x ys)) ≡ apart s x + (apart s y + spread s ys)
    go true h = refl
    go false h = omega arith

-- putting states in order does not change the sum
pub spread_in_order : (s : ℤ) (xs : List ℤ) → spread s (in_order xs) ≡ spread s xs
unfolding in_order spread
spread_in_order s [] = refl
spread_in_order s (x ∷ xs) = spread_insert s x (in_order xs) ∙ ap (λ k. apart s x + k) (spread_in_order s xs)

-- writing a state into a list makes it one longer
length-insert : (x : ℤ) (ys : List ℤ) → length (insert x ys) ≡ suc (length ys)
unfolding insert
length-insert x [] = refl
length-insert x (y ∷ ys) = go (le_z x y) (length-insert x ys)
  where
    go : (t : Bool) → length (insert x ys) ≡ suc (length ys) → length (cond t (x ∷ y ∷ ys) (y ∷ insert x ys)) ≡ suc (suc (length ys))
    go true h = refl
    go false h = ap suc h

-- putting in order loses no state
pub length-in_order : (xs : List ℤ) → length (in_order xs) ≡ length xs
unfolding in_order
length-in_order [] = refl
length-in_order (x ∷ xs) = length-insert x (in_order xs) ∙ ap suc (length-in_order xs)

-- what holds of any six states holds of a list of six
six : (P : List ℤ → Type 0) → ((a b c d e f : ℤ) → P (a ∷ b ∷ c ∷ d ∷ e ∷ f ∷ [])) → (xs : List ℤ) → length xs ≡ 6 → P xs
six P h [] e = absurd (omega arith)
six P h (a ∷ []) e = absurd (omega arith)
six P h (a ∷ b ∷ []) e = absurd (omega arith)
six P h (a ∷ b ∷ c ∷ []) e = absurd (omega arith)
six P h (a ∷ b ∷ c ∷ d ∷ []) e = absurd (omega arith)
six P h (a ∷ b ∷ c ∷ d ∷ x ∷ []) e = absurd (omega arith)
six P h (a ∷ b ∷ c ∷ d ∷ x ∷ y ∷ []) e = h a b c d x y
six P h (a ∷ b ∷ c ∷ d ∷ x ∷ y ∷ z ∷ zs) e = absurd (omega arith)

-- the third of a list
abbrev pub third : List ℤ → ℤ
third xs = get_or xs 2 (pos 0)

-- the fourth of a list
abbrev pub fourth : List ℤ → ℤ
fourth xs = get_or xs 3 (pos 0)

-- from the third to the fourth of six states in rising order the differences add up to no more than from anywhere else
pub third_to_fourth : (xs : List ℤ) → length xs ≡ 6 → Rising xs → (s other : ℤ) →
    third xs ≤ℤ s → s ≤ℤ fourth xs → spread s xs ≤ spread other xs
third_to_fourth = six (λ xs. Rising xs → (s other : ℤ) → third xs ≤ℤ s → s ≤ℤ fourth xs → spread s xs ≤ spread other xs)
    (λ a b c d e f r s other p q. unfold spread in
    let b≤s = ≤ℤ-trans r.1.0 p in
    let a≤s = ≤ℤ-trans r.0 b≤s in
    let s≤e = ≤ℤ-trans q r.1.1.1.0 in
    let s≤f = ≤ℤ-trans s≤e r.1.1.1.1.0 in
    omega (
      arith,
      apart-between s a f a≤s s≤f,
      apart-between s b e b≤s s≤e,
      apart-between s c d p q,
      apart_from other a f,
      apart_from other b e,
      apart_from other c d,
    ))

-- a state whose differences add up to no more stands from the third to the fourth of the six
pub third_to_fourth_of : (xs : List ℤ) → length xs ≡ 6 → Rising xs → (s : ℤ) →
    spread s xs ≤ spread (third xs) xs → (third xs ≤ℤ s) × (s ≤ℤ fourth xs)
third_to_fourth_of = six (λ xs. Rising xs → (s : ℤ) → spread s xs ≤ spread (third xs) xs → (third xs ≤ℤ s) × (s ≤ℤ fourth xs))
    (λ a b c d e f r s h. unfold spread in
    let c≤e = ≤ℤ-trans r.1.1.0 r.1.1.1.0 in
    let c≤f = ≤ℤ-trans c≤e r.1.1.1.1.0 in
    between-apart s c d r.1.1.0
    (omega (
      arith,
      h,
      apart-between c a f (≤ℤ-trans r.0 r.1.0) c≤f,
      apart-between c b e r.1.0 c≤e,
      apart-between c c d (≤ℤ_refl c) r.1.1.0,
      apart_from s a f,
      apart_from s b e,
    )))
