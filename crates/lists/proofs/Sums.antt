-- Laws of sums over lists.
use mathlib.Core.Path.{◌≡◌, refl, sym, ap, ◌∙◌}
use mathlib.Core.Logic.{◌≢◌, by_cases, ⊎_elim}
use mathlib.Core.List.Memᴰ
use mathlib.Core.List.{List, [], ◌∷◌, ◌++◌, map, Memᴰ}
use mathlib.Core.Bool.{Bool, true, false, cond}
use Prim.Native.Nat.{ℕ, zero, suc, ◌+◌, ◌*◌, ◌≤◌, ◌<◌}
use native.Mathlib.Nat.{mul-zero, mul-add}
use native.Mathlib.Omega.{arith}
use native.Mathlib.Decide.{ℕ_discrete}
use lib.Dec.{eqb}
use lib.ListN.{length}
use borrow.Author.Tests.{eq-eqb, ne_eqb}
use Rattle.lists.specs.Numbers.{numbers}
use Rattle.lists.proofs.Numbers.{numbers-within}
use Rattle.lists.specs.Filters.{keep}
use Rattle.lists.specs.Sums.{sum_over}

-- a number if a test holds, else 0
abbrev pub pick : Bool → ℕ → ℕ
pick test x = cond test x 0

-- 1 if a test holds, else 0
abbrev pub counted : Bool → ℕ
counted test = pick test 1

module _ {A : Type 0} where
  -- two quantities that agree on a list have one sum over it
  pub sum_same : (f g : A → ℕ) (vs : List A) → ((v : A) → Memᴰ v vs → f v ≡ g v) → sum_over f vs ≡ sum_over g vs
  unfolding sum_over
  sum_same f g [] h = refl
  sum_same f g (u ∷ us) h =
      let head : f u ≡ g u = h u (Memᴰ.head refl) in
      let tail = sum_same f g us (λ v m. h v (Memᴰ.tail m)) in
      omega arith

  -- a quantity that is 0 on a list has the sum 0 over it
  pub sum_none : (f : A → ℕ) (vs : List A) → ((v : A) → Memᴰ v vs → f v ≡ 0) → sum_over f vs ≡ 0
  unfolding sum_over
  sum_none f [] h = refl
  sum_none f (u ∷ us) h = omega (arith, h u (Memᴰ.head refl), sum_none f us (λ v m. h v (Memᴰ.tail m)))

  -- the sum of two quantities together
  pub sum_plus : (f g : A → ℕ) (vs : List A) → sum_over (λ v. f v + g v) vs ≡ sum_over f vs + sum_over g vs
  unfolding sum_over
  sum_plus f g [] = refl
  sum_plus f g (u ∷ us) = omega (arith, sum_plus f g us)

  module _ (f g : A → ℕ) where
    -- a quantity that is nowhere higher on a list has no higher sum over it
    pub sum_le : (vs : List A) → ((v : A) → Memᴰ v vs → f v ≤ g v) → sum_over f vs ≤ sum_over g vs
    unfolding sum_over
    sum_le [] h = omega arith
    sum_le (u ∷ us) h = omega (arith, h u (Memᴰ.head refl), sum_le us (λ v m. h v (Memᴰ.tail m)))

    -- and if its sum is as high, it is as high everywhere on the list
    pub sum_tight : (vs : List A) → ((v : A) → Memᴰ v vs → f v ≤ g v) → sum_over g vs ≤ sum_over f vs
        → (v : A) → Memᴰ v vs → g v ≤ f v
    unfolding sum_over
    sum_tight [] h e v m = absurd (Memᴰ.not-nil m)
    sum_tight (u ∷ us) h e v m =
        let own = h u (Memᴰ.head refl) in
        let rest = sum_le us (λ w n. h w (Memᴰ.tail n)) in
        ⊎_elim
        (λ p. rw p (omega arith))
        (sum_tight us (λ w n. h w (Memᴰ.tail n)) (omega arith) v)
        (Memᴰ.cases_cons m)

  -- the sum over what is kept of a list is the sum over all of it, with 0 for what is not kept
  pub sum_keep : (f : A → ℕ) (test : A → Bool) (vs : List A) → sum_over f (keep test vs) ≡ sum_over (λ v. pick (test v) (f v)) vs
  unfolding keep sum_over
  sum_keep f test [] = refl
  sum_keep f test (u ∷ us) = go (test u) (sum_keep f test us)
    where
      go : (t : Bool) {s : ℕ} → sum_over f (keep test us) ≡ s → sum_over f (cond t (u ∷ keep test us) (keep test us)) ≡ pick t (f u) + s
      go true e = ap (λ (k : ℕ). f u + k) e
      go false e = omega arith

  -- a list has as many nodes as the sum of 1 over it
  pub length_sum : (vs : List A) → length vs ≡ sum_over (λ v. 1) vs
  unfolding sum_over
  length_sum [] = refl
  length_sum (u ∷ us) = let h = length_sum us in omega arith

  -- how many are kept: the sum of 1 over those of which the test holds
  pub length-keep : (test : A → Bool) (vs : List A) → length (keep test vs) ≡ sum_over (λ v. counted (test v)) vs
  length-keep test vs = length_sum (keep test vs) ∙ sum_keep (λ v. 1) test vs

  -- the sum over two lists, one behind the other
  pub sum_append : (f : A → ℕ) (us vs : List A) → sum_over f (us ++ vs) ≡ sum_over f us + sum_over f vs
  unfolding sum_over
  sum_append f [] vs = omega arith
  sum_append f (u ∷ us) vs = omega (arith, sum_append f us vs)

  -- the sum over a list with one more at its end
  pub sum_snoc : (f : A → ℕ) (us : List A) (v : A) → sum_over f (us ++ (v ∷ [])) ≡ sum_over f us + f v
  sum_snoc f us v = sum_append f us (v ∷ []) ∙ unfold sum_over in omega arith

  -- a sum is at most as many times a bound of each as there are
  pub sum_most : (f : A → ℕ) (bound : ℕ) (vs : List A) → ((v : A) → Memᴰ v vs → f v ≤ bound) → sum_over f vs ≤ length vs * bound
  unfolding sum_over
  sum_most f bound [] h = omega arith
  sum_most f bound (u ∷ us) h =
      let first : f u ≤ bound = h u (Memᴰ.head refl) in
      let rest : sum_over f us ≤ length us * bound = sum_most f bound us (λ v m. h v (Memᴰ.tail m)) in
      omega arith

  -- a sum of which every part counts w times
  pub sum_times : (w : ℕ) (f : A → ℕ) (vs : List A) → sum_over (λ v. w * f v) vs ≡ w * sum_over f vs
  unfolding sum_over
  sum_times w f [] = sym (mul-zero w)
  sum_times w f (v ∷ vs) = ap (λ k. w * f v + k) (sum_times w f vs) ∙ sym (mul-add w (f v) (sum_over f vs))

  -- the sum over a list made from another
  pub sum_map : {B : Type 0} (f : B → ℕ) (g : A → B) (vs : List A) → sum_over f (map g vs) ≡ sum_over (λ v. f (g v)) vs
  unfolding sum_over
  sum_map f g [] = refl
  sum_map f g (u ∷ us) = ap (λ (k : ℕ). f (g u) + k) (sum_map f g us)

-- two sums may change places
pub sum_swap : {A B : Type 0} (f : A → B → ℕ) (us : List A) (vs : List B)
    → sum_over (λ u. sum_over (λ v. f u v) vs) us ≡ sum_over (λ v. sum_over (λ u. f u v) us) vs
unfolding sum_over
sum_swap f [] vs = sym (sum_none (λ v. 0) vs (λ v m. refl))
sum_swap f (u ∷ us) vs =
    ap (λ (k : ℕ). sum_over (λ v. f u v) vs + k) (sum_swap f us vs)
    ∙ sym (sum_plus (λ v. f u v) (λ v. sum_over (λ w. f w v) us) vs)

-- two quantities that agree on numbers in a row except at u: their sums differ as they do at u
pub sum_changed : (f g : ℕ → ℕ) (u first count : ℕ) → first ≤ u → u < first + count
    → ((v : ℕ) → Memᴰ v (numbers first count) → v ≢ u → f v ≡ g v)
    → sum_over f (numbers first count) + g u ≡ sum_over g (numbers first count) + f u
unfolding sum_over numbers
sum_changed f g u first zero l h same = absurd (omega arith)
sum_changed f g u first (suc count) l h same =
    by_cases
    (ℕ_discrete u first)
    (λ e. rw e (let rest = sum_same f g (numbers (suc first) count) (later e) in omega arith))
    (λ ne.
    let head : f first ≡ g first = same first (Memᴰ.head refl) (λ p. ne (sym p)) in
    let rest = sum_changed f g u (suc first) count (omega arith) (omega arith) (λ v m. same v (Memᴰ.tail m)) in
    omega arith)
  where
    later : u ≡ first → (v : ℕ) → Memᴰ v (numbers (suc first) count) → f v ≡ g v
    later e v m = same v (Memᴰ.tail m) (λ p. let b = numbers-within (suc first) count v m in omega arith)

-- of numbers in a row, those equal to one outside the row are none
pub sum_outside : (first count v : ℕ) (f : ℕ → ℕ) → (first ≤ v → v < first + count → ⊥)
    → sum_over (λ u. pick (eqb u v) (f u)) (numbers first count) ≡ 0
sum_outside first count v f outside =
    sum_none (λ u. pick (eqb u v) (f u)) (numbers first count) λ u m.
    let w = numbers-within first count u m in
    ap (λ (t : Bool). pick t (f u)) (ne_eqb u v (λ e. outside (omega arith) (omega arith)))

-- and those equal to one in the row are that one
pub sum_one : (first count v : ℕ) (f : ℕ → ℕ) → first ≤ v → v < first + count
    → sum_over (λ u. pick (eqb u v) (f u)) (numbers first count) ≡ f v
sum_one first count v f l h =
    let same : (u : ℕ) → Memᴰ u (numbers first count) → u ≢ v → pick (eqb u v) (f u) ≡ 0 =
    λ u m ne. ap (λ (t : Bool). pick t (f u)) (ne_eqb u v ne) in
    let change = sum_changed (λ u. pick (eqb u v) (f u)) (λ u. 0) v first count l h same in
    let own : pick (eqb v v) (f v) ≡ f v = ap (λ (t : Bool). pick t (f v)) (eq-eqb v v refl) in
    let none = sum_none (λ u. 0) (numbers first count) (λ u m. refl) in
    omega arith
