-- How far the states of nodes reach under an assignment: those of any nodes, row 1 among them, are spread no wider than the character is
-- long. So no two of them lie farther apart, nor do the own sets of two taxa.
use mathlib.Core.Path.{◌≡◌, refl, sym, ◌∙◌, ap, subst}
use mathlib.Core.Logic.{◌⊎◌, inl, inr, ⊎_elim}
use mathlib.Core.List.Memᴰ
use mathlib.Core.List.{List, [], ◌∷◌, ◌++◌, map, Memᴰ}
use Prim.Native.Nat.{ℕ, ◌+◌, ◌≤◌}
use native.Mathlib.Omega.{arith}
use lib.IntN.{ℤ}
use Rattle.clades.specs.Clades.{Clade, tip}
use Rattle.clades.specs.Kinds.{Kind}
use Rattle.clades.proofs.Clades.Nodes.{top, has_top}
use Rattle.clades.proofs.Clades.Parts.{Part, part_has}
use Rattle.clades.proofs.Clades.Cost.{EachTip, each_part}
use Rattle.clades.proofs.Clades.Spread.{Spread, node_states, mem-node_states, clade_spread}
use Rattle.difference_form.proofs.Laws.Distance.{Distance}
use Rattle.clades.proofs.Sets.Laws.{Laws}
use Rattle.clades.proofs.Sets.Distance.{gap_members}
use Rattle.clades.proofs.OneCharacter.Basic.{Own, EachProper}
use Rattle.clades.proofs.OneCharacter.CharacterFit.{Assigns, length_in, Node}

-- what holds of two items holds of each of the list of the two
pub of_two : {A : Type 0} (P : A → Type 0) (x y : A) → P x → P y → (z : A) → Memᴰ z (x ∷ y ∷ []) → P z
of_two P x y p q z i =
    ⊎_elim (λ e. subst P (sym e) p) (λ j. subst P (sym (Memᴰ.eq_of_singleton j)) q) (Memᴰ.cases_cons i)

-- no two of some states lie farther apart than k
abbrev NoFarther : (ℤ → ℤ → ℕ) → List ℤ → ℕ → Type 0
NoFarther step xs k = (x y : ℤ) → Memᴰ x xs → Memᴰ y xs → step x y ≤ k

-- v is row 1 or a taxon of the clade below it
abbrev pub Taxon : Clade → ℕ → Type 0
Taxon clade v = (v ≡ 1) ⊎ Part (tip v) clade

-- a taxon is a node
taxon_node : (t : Clade) (v : ℕ) → Taxon t v → Node t v
unfolding top
taxon_node t v (inl e) = inl e
taxon_node t v (inr p) = inr (part_has (tip v) t p v (has_top (tip v)))

-- what holds of row 1 and of each tip holds of each taxon
each_taxon : (P : ℕ → Type 0) (t : Clade) → P 1 → EachTip P t → (v : ℕ) → Taxon t v → P v
each_taxon P t first each v (inl e) = subst P (sym e) first
each_taxon P t first each v (inr p) = each_part P (tip v) t p each

module _ (step : ℤ → ℤ → ℕ) (distance : Distance step) where
  -- two states lie no farther apart than the cost of a change from the first to the second
  two_no_farther : (x y : ℤ) → NoFarther step (x ∷ y ∷ []) (step x y)
  two_no_farther x y z w i j =
      of_two (λ u. step u w ≤ step x y) x y
      (of_two (λ u. step x u ≤ step x y) x y (omega (arith, distance.self x)) (omega arith) w j)
      (of_two (λ u. step y u ≤ step x y) x y (omega (arith, distance.turned x y)) (omega (arith, distance.self y)) w j)
      z i

  -- of states that share one, two lie no farther apart than by way of this one
  shared_no_farther : (x : ℤ) (xs ys : List ℤ) (k l : ℕ) → NoFarther step (x ∷ xs) k → NoFarther step (x ∷ ys) l →
      NoFarther step (x ∷ (xs ++ ys)) (k + l)
  shared_no_farther x xs ys k l a b z w i j = go (Memᴰ.append_cases (x ∷ xs) i) (Memᴰ.append_cases (x ∷ xs) j)
    where
      go : Memᴰ z (x ∷ xs) ⊎ Memᴰ z ys → Memᴰ w (x ∷ xs) ⊎ Memᴰ w ys → step z w ≤ k + l
      go (inl p) (inl q) = omega (arith, a z w p q)
      go (inl p) (inr q) = omega (arith, distance.triangle z x w, a z x p (Memᴰ.head refl), b x w (Memᴰ.head refl) (Memᴰ.tail q))
      go (inr p) (inl q) = omega (arith, distance.triangle z x w, b z x (Memᴰ.tail p) (Memᴰ.head refl), a x w (Memᴰ.head refl) q)
      go (inr p) (inr q) = omega (arith, b z w (Memᴰ.tail p) (Memᴰ.tail q))

  -- how far states lie apart is a spread
  distance_spread : Spread step (NoFarther step)
  distance_spread = record {
    fewer = λ xs ys k each far x y i j. far x y (each x i) (each y j);
    two = two_no_farther;
    shared = shared_no_farther;
  }

module _ (step : ℤ → ℤ → ℕ) (t : Clade) (f : ℕ → ℤ) where
  -- the states of any nodes are spread no wider than the character is long
  pub nodes_spread : (NoWider : List ℤ → ℕ → Type 0) → Spread step NoWider → (vs : List ℕ) → ((v : ℕ) → Memᴰ v vs → Node t v) →
      NoWider (map f vs) (length_in step t f)
  nodes_spread NoWider spread vs nodes =
      spread.fewer (map f vs) (f 1 ∷ node_states f t) (length_in step t f)
      (λ x i.
      let at = Memᴰ.of_map f vs i in
      ⊎_elim
      (λ e. Memᴰ.head (sym at.2 ∙ ap f e))
      (λ h. Memᴰ.tail (Memᴰ.cast (sym at.2) (mem-node_states f t at.0 h)))
      (nodes at.0 at.1))
      (clade_spread step NoWider spread f (f 1) t)

  -- the states of two nodes lie no farther apart than the character is long
  pub reach : Distance step → (v w : ℕ) → Node t v → Node t w → step (f v) (f w) ≤ length_in step t f
  reach distance v w p q =
      nodes_spread (NoFarther step) (distance_spread step distance) (v ∷ w ∷ []) (of_two (Node t) v w p q) (f v) (f w)
      (Memᴰ.head refl) (Memᴰ.tail (Memᴰ.head refl))

module _ (K : Kind) (laws : Laws K) (t : Clade) (f : ℕ → ℤ) where
  -- two sets lie no farther apart than the character is long, if each has the state of a node
  pub reach_sets : (a b : K.Set) → K.Proper a → K.Proper b → (v w : ℕ) → Node t v → Node t w → K.In (f v) a → K.In (f w) b →
      K.gap a b ≤ length_in K.step t f
  reach_sets a b p q v w i j k l =
      omega (arith, gap_members K laws a b p q (f v) (f w) k l, reach K.step t f laws.metric.distance v w i j)

  -- so the own sets of two taxa lie no farther apart than any assignment is long
  pub reach_own : (own : ℕ → K.Set) → EachProper K own t → K.Proper (own 1) → Assigns (Own K own) t f →
      (v w : ℕ) → Taxon t v → Taxon t w → K.gap (own v) (own w) ≤ length_in K.step t f
  reach_own own p q assigns v w i j =
      let proper = each_taxon (λ u. K.Proper (own u)) t q p in
      let takes = each_taxon (λ u. K.In (f u) (own u)) t assigns.row1 assigns.keeps in
      reach_sets (own v) (own w) (proper v i) (proper w j) v w (taxon_node t v i) (taxon_node t w j) (takes v i) (takes w j)
