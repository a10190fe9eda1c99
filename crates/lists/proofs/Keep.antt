-- Laws of `keep`, what a test leaves of a list.
use mathlib.Core.Path.{◌≡◌, refl, sym, ap, ◌∙◌}
use mathlib.Core.Logic.{◌⊎◌, inl, inr, ⊎_elim}
use mathlib.Core.List.Memᴰ
use mathlib.Core.List.{List, [], ◌∷◌, ◌++◌, append-nil, Memᴰ}
use mathlib.Core.Bool.{Bool, true, false, cond, not, ◌&&◌, false≢true}
use Prim.Native.Nat.{suc, ◌+◌, ◌≤◌, ◌<◌}
use native.Mathlib.Omega.{arith}
use lib.ListN.{length}
use Rattle.lists.specs.Filters.{keep}

module _ {A : Type 0} where
  -- one element more, if a test says so
  one_more : Bool → A → List A → List A
  one_more t u us = cond t (u ∷ us) us

  -- what is kept stood in the list, and the test holds of it
  pub keep-mem : (test : A → Bool) (vs : List A) (v : A) → Memᴰ v (keep test vs) → Memᴰ v vs × (test v ≡ true)
  unfolding keep one_more
  keep-mem test [] v m = absurd (Memᴰ.not-nil m)
  keep-mem test (u ∷ us) v m = go (λ r. let h = keep-mem test us v r in (Memᴰ.tail h.0, h.1)) (test u) refl m
    where
      go : (Memᴰ v (keep test us) → Memᴰ v (u ∷ us) × (test v ≡ true))
          → (t : Bool) → test u ≡ t → Memᴰ v (one_more t u (keep test us)) → Memᴰ v (u ∷ us) × (test v ≡ true)
      go rest true e r = ⊎_elim (λ p. (Memᴰ.head p, rw p e)) rest (Memᴰ.cases_cons r)
      go rest false e r = rest r

  -- what stands in the list is kept if the test holds of it
  pub mem-keep : (test : A → Bool) (vs : List A) (v : A) → Memᴰ v vs → test v ≡ true → Memᴰ v (keep test vs)
  unfolding keep one_more
  mem-keep test [] v m t = absurd (Memᴰ.not-nil m)
  mem-keep test (u ∷ us) v m t =
      ⊎_elim
      (λ p. first (test u) (rw (← p) t) p)
      (λ r. later (test u) (mem-keep test us v r t))
      (Memᴰ.cases_cons m)
    where
      first : (b : Bool) → b ≡ true → v ≡ u → Memᴰ v (one_more b u (keep test us))
      first true e p = Memᴰ.head p
      first false e p = absurd (false≢true e)

      later : (b : Bool) → Memᴰ v (keep test us) → Memᴰ v (one_more b u (keep test us))
      later true r = Memᴰ.tail r
      later false r = r

  -- a list in which something stands is not empty
  pub mem-length : {v : A} {vs : List A} → Memᴰ v vs → 1 ≤ length vs
  mem-length (Memᴰ.head e) = omega arith
  mem-length (Memᴰ.tail m) = omega arith

  -- and in one that is not empty something stands
  pub length-mem : (vs : List A) → 1 ≤ length vs → (v : A) × Memᴰ v vs
  length-mem [] h = absurd (omega arith)
  length-mem (v ∷ vs) h = (v, Memᴰ.head refl)

  -- tests that agree on a list keep the same of it
  pub keep_congr : (p q : A → Bool) (vs : List A) → ((v : A) → Memᴰ v vs → p v ≡ q v) → keep p vs ≡ keep q vs
  unfolding keep
  keep_congr p q [] h = refl
  keep_congr p q (u ∷ us) h = rw (h u (Memᴰ.head refl), keep_congr p q us (λ v m. h v (Memᴰ.tail m)))

  -- what is kept by a test and by its opposite is all
  pub keep-split : (test : A → Bool) (vs : List A) → length (keep test vs) + length (keep (λ v. not (test v)) vs) ≡ length vs
  unfolding keep one_more
  keep-split test [] = refl
  keep-split test (u ∷ us) = go (test u) (keep-split test us)
    where
      go : (t : Bool) → length (keep test us) + length (keep (λ v. not (test v)) us) ≡ length us
          → length (one_more t u (keep test us)) + length (one_more (not t) u (keep (λ v. not (test v)) us)) ≡ suc (length us)
      go true e = omega arith
      go false e = omega arith

  -- so no more are kept than there are
  pub length_keep_le : (test : A → Bool) (vs : List A) → length (keep test vs) ≤ length vs
  length_keep_le test vs = omega (arith, keep-split test vs)

  -- a test that holds of less keeps no more
  pub keep_le : (p q : A → Bool) (vs : List A) → ((v : A) → Memᴰ v vs → p v ≡ true → q v ≡ true)
      → length (keep p vs) ≤ length (keep q vs)
  unfolding keep one_more
  keep_le p q [] h = omega arith
  keep_le p q (u ∷ us) h = go (p u) (q u) (h u (Memᴰ.head refl)) (keep_le p q us (λ v m. h v (Memᴰ.tail m)))
    where
      go : (a b : Bool) → (a ≡ true → b ≡ true) → length (keep p us) ≤ length (keep q us)
          → length (one_more a u (keep p us)) ≤ length (one_more b u (keep q us))
      go true true i r = omega arith
      go true false i r = absurd (false≢true (i refl))
      go false true i r = omega arith
      go false false i r = r

  -- of two tests, one holding of less: they agree on a list, or the other keeps more
  pub keep_grows : (p q : A → Bool) (vs : List A) → ((v : A) → Memᴰ v vs → p v ≡ true → q v ≡ true)
      → ((v : A) → Memᴰ v vs → q v ≡ true → p v ≡ true) ⊎ (length (keep p vs) < length (keep q vs))
  unfolding keep one_more
  keep_grows p q [] h = inl (λ v m. absurd (Memᴰ.not-nil m))
  keep_grows p q (u ∷ us) h =
      go (p u) (q u) refl refl (keep_le p q us (λ v m. h v (Memᴰ.tail m))) (keep_grows p q us (λ v m. h v (Memᴰ.tail m)))
    where
      go : (a b : Bool) → p u ≡ a → q u ≡ b → length (keep p us) ≤ length (keep q us)
          → ((v : A) → Memᴰ v us → q v ≡ true → p v ≡ true) ⊎ (length (keep p us) < length (keep q us))
          → ((v : A) → Memᴰ v (u ∷ us) → q v ≡ true → p v ≡ true)
          ⊎ (length (one_more a u (keep p us)) < length (one_more b u (keep q us)))
      go true true e f l (inl back) = inl (λ v m t. ⊎_elim (λ x. ap p x ∙ e) (λ r. back v r t) (Memᴰ.cases_cons m))
      go true true e f l (inr less) = inr (omega arith)
      go true false e f l r = absurd (false≢true (sym f ∙ h u (Memᴰ.head refl) e))
      go false true e f l r = inr (omega arith)
      go false false e f l (inl back) =
          inl (λ v m t. ⊎_elim (λ x. absurd (false≢true (sym f ∙ ap q (sym x) ∙ t))) (λ r. back v r t) (Memᴰ.cases_cons m))
      go false false e f l (inr less) = inr less

  -- a test that holds of no element of a list keeps none
  pub keep-none : (test : A → Bool) (vs : List A) → ((v : A) → Memᴰ v vs → test v ≡ true → ⊥) → length (keep test vs) ≡ 0
  keep-none test vs none = go (keep test vs) refl
    where
      go : (kept : List A) → keep test vs ≡ kept → length kept ≡ 0
      go [] e = refl
      go (u ∷ us) e = let k = keep-mem test vs u (rw e (Memᴰ.head refl)) in absurd (none u k.0 k.1)

  -- a test that holds of every element of a list keeps all
  pub keep_all : (test : A → Bool) (vs : List A) → ((v : A) → Memᴰ v vs → test v ≡ true) → keep test vs ≡ vs
  unfolding keep one_more
  keep_all test [] h = refl
  keep_all test (u ∷ us) h =
      ap (λ (t : Bool). one_more t u (keep test us)) (h u (Memᴰ.head refl))
      ∙ ap (λ (rest : List A). u ∷ rest) (keep_all test us (λ v m. h v (Memᴰ.tail m)))

  -- what is kept of two lists one after the other
  pub keep_append : (test : A → Bool) (us vs : List A) → keep test (us ++ vs) ≡ keep test us ++ keep test vs
  unfolding keep one_more
  keep_append test [] vs = refl
  keep_append test (u ∷ us) vs = go (test u) (keep_append test us vs)
    where
      go : (t : Bool) → keep test (us ++ vs) ≡ keep test us ++ keep test vs
          → one_more t u (keep test (us ++ vs)) ≡ one_more t u (keep test us) ++ keep test vs
      go true e = ap (λ (rest : List A). u ∷ rest) e
      go false e = e

  -- one element more at the end is kept if the test holds of it
  pub keep_snoc_passes : (test : A → Bool) (us : List A) (v : A) → test v ≡ true → keep test (us ++ (v ∷ [])) ≡ keep test us ++ (v ∷ [])
  unfolding keep one_more
  keep_snoc_passes test us v e = keep_append test us (v ∷ []) ∙ ap (λ (t : Bool). keep test us ++ one_more t v []) e

  -- and left out if it does not
  pub keep_snoc_fails : (test : A → Bool) (us : List A) (v : A) → test v ≡ false → keep test (us ++ (v ∷ [])) ≡ keep test us
  unfolding keep one_more
  keep_snoc_fails test us v e =
      keep_append test us (v ∷ []) ∙ ap (λ (t : Bool). keep test us ++ one_more t v []) e ∙ append-nil (keep test us)

  -- kept by one test and then by another: what both hold of
  pub keep_twice : (p q r : A → Bool) (vs : List A) → ((v : A) → Memᴰ v vs → r v ≡ (q v && p v)) → keep p (keep q vs) ≡ keep r vs
  unfolding keep one_more
  keep_twice p q r [] h = refl
  keep_twice p q r (u ∷ us) h =
      go (q u) (p u) (r u) refl (h u (Memᴰ.head refl)) (keep_twice p q r us (λ v m. h v (Memᴰ.tail m)))
    where
      go : (a b c : Bool) → p u ≡ b → c ≡ (a && b) → keep p (keep q us) ≡ keep r us
          → keep p (one_more a u (keep q us)) ≡ one_more c u (keep r us)
      go true true c pu e rest =
          ap (λ (t : Bool). one_more t u (keep p (keep q us))) pu
          ∙ ap (λ (list : List A). u ∷ list) rest
          ∙ ap (λ (t : Bool). one_more t u (keep r us)) (sym e)
      go true false c pu e rest =
          ap (λ (t : Bool). one_more t u (keep p (keep q us))) pu ∙ rest ∙ ap (λ (t : Bool). one_more t u (keep r us)) (sym e)
      go false b c pu e rest = rest ∙ ap (λ (t : Bool). one_more t u (keep r us)) (sym e)
