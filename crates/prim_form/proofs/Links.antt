-- Links between nodes of any kind, and a set of nodes from which one sets out: what can be reached stays so if a node is added to the
-- set and one link that leaves the set is taken out.
use mathlib.Core.Path.{◌≡◌, refl, sym, ap, ◌∙◌, subst}
use mathlib.Core.List.Memᴰ
use mathlib.Core.List.{List, [], ◌∷◌, Memᴰ}
use mathlib.Core.Logic.{◌⊎◌, inl, inr, ⊎_map}
use Prim.Native.Nat.{ℕ, ◌+◌}
use native.Mathlib.Omega.{arith}
use Rattle.lists.specs.Sums.{sum_over}
use Rattle.prim_form.specs.Rival.{Joins, Reached, start, step, links_length}

module _ {A : Type 0} where
  -- a list without the element at one place
  abbrev pub removed : {a : A} {l : List A} → Memᴰ a l → List A
  removed (Memᴰ.head {xs = xs} e) = xs
  removed (Memᴰ.tail {x = x} m) = x ∷ removed m

  -- what is left was in the list
  pub of_removed : {a b : A} {l : List A} (m : Memᴰ a l) → Memᴰ b (removed m) → Memᴰ b l
  of_removed (Memᴰ.head e) k = Memᴰ.tail k
  of_removed {a} {b} (Memᴰ.tail {x = x} {xs = xs} m) k = at (λ k'. of_removed m k') (Memᴰ.cases_cons k)
    where
      at : (Memᴰ b (removed m) → Memᴰ b xs) → (b ≡ x) ⊎ Memᴰ b (removed m) → Memᴰ b (x ∷ xs)
      at later (inl e) = Memᴰ.head e
      at later (inr k') = Memᴰ.tail (later k')

  -- what was in the list is the element taken out, or is left
  pub mem_removed : {a b : A} {l : List A} (m : Memᴰ a l) → Memᴰ b l → (b ≡ a) ⊎ Memᴰ b (removed m)
  mem_removed {a} {b} (Memᴰ.head {x = x} {xs = xs} e) k = at (Memᴰ.cases_cons k)
    where
      at : (b ≡ x) ⊎ Memᴰ b xs → (b ≡ a) ⊎ Memᴰ b xs
      at (inl e') = inl (e' ∙ sym e)
      at (inr k') = inr k'
  mem_removed {a} {b} (Memᴰ.tail {x = x} {xs = xs} m) k = at (λ k'. mem_removed m k') (Memᴰ.cases_cons k)
    where
      behind : (b ≡ a) ⊎ Memᴰ b (removed m) → (b ≡ a) ⊎ Memᴰ b (x ∷ removed m)
      behind (inl e) = inl e
      behind (inr k') = inr (Memᴰ.tail k')

      at : (Memᴰ b xs → (b ≡ a) ⊎ Memᴰ b (removed m)) → (b ≡ x) ⊎ Memᴰ b xs → (b ≡ a) ⊎ Memᴰ b (x ∷ removed m)
      at later (inl e) = inr (Memᴰ.head e)
      at later (inr k') = behind (later k')

module _ {A : Type 0} where
  -- a link taken out makes the sum less by its difference
  pub links_length_removed : (d : A → A → ℕ) {x y : A} {links : List (A × A)} (m : Memᴰ (x, y) links)
      → links_length d links ≡ d x y + links_length d (removed m)
  unfolding links_length sum_over
  links_length_removed d {x} {y} (Memᴰ.head {x = l} {xs = ls} e) =
      ap (λ (p : A × A). d p.0 p.1 + links_length d ls) (sym e)
  links_length_removed d {x} {y} (Memᴰ.tail {x = l} m) =
      let rest = links_length_removed d m in
      omega arith

  -- a link may be gone along in either direction
  pub turned : {links : List (A × A)} {x y : A} → Joins links x y → Joins links y x
  turned (inl m) = inr m
  turned (inr m) = inl m

  -- what is reached from a set is reached from a larger one over links that join as much
  pub Reached_mono : {S T : A → Type 0} {links kept : List (A × A)}
      → ((x : A) → S x → T x)
      → ((x y : A) → Joins links x y → Joins kept x y)
      → {v : A} → Reached S links v → Reached T kept v
  Reached_mono f g (start {x = x} s) = start (f x s)
  Reached_mono f g (step {x = x} {y = y} r j) = step (Reached_mono f g r) (g x y j)

  -- over no links one stays where one sets out
  pub Reached_nothing : {S : A → Type 0} {v : A} → Reached S [] v → S v
  Reached_nothing (start s) = s
  Reached_nothing (step r (inl m)) = absurd (Memᴰ.not-nil m)
  Reached_nothing (step r (inr m)) = absurd (Memᴰ.not-nil m)

  -- the links without one that joins x and y
  abbrev pub others : {links : List (A × A)} {x y : A} → Joins links x y → List (A × A)
  others (inl m) = removed m
  others (inr m) = removed m

  -- a link of the others is a link of the list
  pub of_others : {links : List (A × A)} {x y : A} (j : Joins links x y) {p : A × A} → Memᴰ p (others j) → Memᴰ p links
  of_others (inl m) k = of_removed m k
  of_others (inr m) k = of_removed m k

  -- under a symmetric difference, the sum is the difference of x and y and the sum of the others
  pub links_length-others : (d : A → A → ℕ) → ((x y : A) → d x y ≡ d y x) → {links : List (A × A)} {x y : A} (j : Joins links x y)
      → links_length d links ≡ d x y + links_length d (others j)
  links_length-others d symmetric (inl m) = links_length_removed d m
  links_length-others d symmetric {x = x} {y = y} (inr m) = rw (symmetric x y) (links_length_removed d m)

  -- a pair with the ends x and y, in either order
  abbrev pub SameEnds : A → A → A → A → Type 0
  SameEnds x y u w = ((u ≡ x) × (w ≡ y)) ⊎ ((u ≡ y) × (w ≡ x))

  -- a link of the list has the ends of the one taken out, or is left
  link_removed : {links : List (A × A)} {x y u w : A} (m : Memᴰ (x, y) links)
      → Memᴰ (u, w) links
      → ((u ≡ x) × (w ≡ y)) ⊎ Memᴰ (u, w) (removed m)
  link_removed m k = ⊎_map (λ e. (ap (λ p. p.0) e, ap (λ p. p.1) e)) (λ k'. k') (mem_removed m k)

  -- two nodes that a link joins are the ends of the one taken out, or are joined by one of the others
  pub joins_others : {links : List (A × A)} {x y : A} (j : Joins links x y) {u w : A}
      → Joins links u w
      → SameEnds x y u w ⊎ Joins (others j) u w
  joins_others (inl m) (inl k) = ⊎_map inl inl (link_removed m k)
  joins_others (inl m) (inr k) = ⊎_map (λ e. inr (e.1, e.0)) inr (link_removed m k)
  joins_others (inr m) (inl k) = ⊎_map inr inl (link_removed m k)
  joins_others (inr m) (inr k) = ⊎_map (λ e. inl (e.1, e.0)) inr (link_removed m k)

  -- a set with one more node
  abbrev pub Enlarged : (A → Type 0) → A → A → Type 0
  Enlarged S v x = S x ⊎ (x ≡ v)

  -- a link that leaves S: its inner end is in S, its outer end is not
  pub record Leaving (S : A → Type 0) (links : List (A × A)) : Type 0 where
    pub inner : A
    pub outer : A
    pub joins : Joins links inner outer
    pub is_in : S inner
    pub is_out : ¬ S outer

  -- a link that leaves S can be taken out once v is added to S: all that was reached from S is still reached
  abbrev pub Spared : (S : A → Type 0) (links : List (A × A)) → Leaving S links → A → Type 0
  Spared S links f v = (z : A) → Reached S links z → Reached (Enlarged S v) (others f.joins) z

  -- links that keep every link with both ends outside S
  abbrev Keeps : (A → Type 0) → List (A × A) → List (A × A) → Type 0
  Keeps S links kept = (x y : A) → ¬ S x → ¬ S y → Joins links x y → Joins kept x y

  module _ {S : A → Type 0} {links : List (A × A)} where
    -- from v one can go back to the outer end of a link over any links that keep those outside S, wherever one sets out
    abbrev Back : (A → Type 0) → Leaving S links → A → Type 0
    Back T f v = (kept : List (A × A)) → Keeps S links kept → Reached T kept v → Reached T kept f.outer

    -- on a way from S to a node v outside S, the last link that leaves S: from v back to its outer end the way is outside S
    last_leaving : ((x : A) → Dec (S x)) → (T : A → Type 0) {v : A} → Reached S links v → ¬ S v → (f : Leaving S links) × Back T f v
    last_leaving decide T (start s) out = absurd (out s)
    last_leaving decide T (step {x = u} {y = v} r j) out = at (decide u) (λ o. last_leaving decide T r o)
      where
        at : Dec (S u) → (¬ S u → (f : Leaving S links) × Back T f u) → (f : Leaving S links) × Back T f v
        at (yes s) before = (record { inner = u; outer = v; joins = j; is_in = s; is_out = out }, λ kept keeps w. w)
        at (no o) before =
            let e = before o in
            (e.0, λ kept keeps w. e.1 kept keeps (step w (keeps v u out o (turned j))))

    module _ (f : Leaving S links) where
      -- without a link that leaves S, every link with both ends outside S is kept
      others_keep : Keeps S links (others f.joins)
      others_keep x y nx ny j = at (joins_others f.joins j)
        where
          at : SameEnds f.inner f.outer x y ⊎ Joins (others f.joins) x y → Joins (others f.joins) x y
          at (inl (inl s)) = absurd (nx (subst S (sym s.0) f.is_in))
          at (inl (inr s)) = absurd (ny (subst S (sym s.1) f.is_in))
          at (inr k) = k

      -- it can be taken out if from v one can go back to its outer end: a step over it ends in S or at that outer end
      spared : (v : A) → Back (Enlarged S v) f v → Spared S links f v
      spared v back z (start s) = start (inl s)
      spared v back z (step {x = u} r j) = at (spared v back u r) (joins_others f.joins j)
        where
          at : Reached (Enlarged S v) (others f.joins) u
              → SameEnds f.inner f.outer u z ⊎ Joins (others f.joins) u z
              → Reached (Enlarged S v) (others f.joins) z
          at before (inl (inl s)) =
              subst (Reached (Enlarged S v) (others f.joins)) (sym s.1) (back (others f.joins) others_keep (start (inr refl)))
          at before (inl (inr s)) = start (inl (subst S (sym s.1) f.is_in))
          at before (inr k) = step before k

    module _ (decide : (x : A) → Dec (S x)) {v : A} (r : Reached S links v) (out : ¬ S v) where
      -- if a node v outside S is reached from S, some link that leaves S can be taken out once v is added
      pub exchange : (f : Leaving S links) × Spared S links f v
      exchange = let e = last_leaving decide (Enlarged S v) r out in (e.0, spared e.0 v e.1)

      -- and some link that leaves S can be taken out once its own outer end is added
      pub crossing : (f : Leaving S links) × Spared S links f f.outer
      crossing = let e = last_leaving decide S r out in (e.0, spared e.0 e.0.outer (λ kept keeps w. w))
