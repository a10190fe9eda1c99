-- The taxa and the HTUs of the clade of a branching, and what holds of each of its tips.
use Rattle.std.proofs.Common.{◌≡◌, ℕ, ◌-◌, ◌*◌, ◌≤◌, Bool, true, false, ◌||◌, eqb, List, refl, subst, inl, inr, arith, ne_eqb, eqb-true}
use mathlib.Core.Logic.{by_cases}
use native.Mathlib.Decide.{dec_le}
use Rattle.tree_form.specs.Ancestors.{ancestor}
use Rattle.clades.specs.Clades.{Clade, tip, fork}
use Rattle.clades.proofs.Clades.Sides.{left, right}
use Rattle.clades.proofs.Clades.Nodes.{top, has}
use Rattle.clades.proofs.Clades.Parts.{Part, whole, below, node_above}
use Rattle.clades.proofs.Clades.Cost.{EachTip}
use Rattle.clades.proofs.OneCharacter.CharacterFit.{Node}
use Rattle.fit_form.proofs.Clades.Built.{Made, CladeOf}

module _ (n : ℕ) (tree : List ℕ) where
  -- row 1 is not in a clade of n taxa
  pub made_off : (t : Clade) → 1 ≤ n → Made n tree t → has t 1 ≡ false
  unfolding has
  made_off (tip v) taxa made = ne_eqb v 1 (λ e. omega (arith, made.0))
  made_off (fork v a b) taxa made =
      rw (ne_eqb v 1 (λ e. omega (arith, made.0)), made_off a taxa made.4, made_off b taxa made.5)

  -- what holds of taxa 2 to n holds of each tip of such a clade
  pub each_of : (P : ℕ → Type 0) (t : Clade) → Made n tree t → ((v : ℕ) → 2 ≤ v → v ≤ n → P v) → EachTip P t
  each_of P (tip v) made h = h v made.0 made.1
  each_of P (fork v a b) made h = (each_of P a made.4 h, each_of P b made.5 h)

  -- what holds of each tip of such a clade holds of each taxon in it
  pub each-taxon : (P : ℕ → Type 0) (t : Clade) → Made n tree t → EachTip P t → (w : ℕ) → w ≤ n → has t w ≡ true → P w
  unfolding has
  each-taxon P (tip v) made k w h p = subst P (eqb-true v w p) k
  each-taxon P (fork v a b) made k w h p =
      go (eqb v w) refl (has a w) (has b w) p (each-taxon P a made.4 k.0 w h) (each-taxon P b made.5 k.1 w h)
    where
      go : (x : Bool) → eqb v w ≡ x → (y z : Bool) → (x || (y || z)) ≡ true → (y ≡ true → P w) → (z ≡ true → P w) → P w
      go true e y z q l r = absurd (omega (arith, eqb-true v w e, made.0))
      go false e true z q l r = l refl
      go false e false z q l r = r q

  -- row 1 and all nodes below it are nodes of a branching's clade
  pub node_of : (clade_of : CladeOf n tree) (v : ℕ) → 1 ≤ v → v ≤ 2 * n - 2 → Node clade_of.clade v
  node_of clade_of v p q = by_cases (dec_le 2 v) (λ l. inr (clade_of.has_all v l q)) (λ l. inl (omega arith))

  -- the node above a part of such a clade is the ancestor of the part's top node
  pub above-ancestor : (s : Clade) (u : ℕ) (t : Clade) (p : Part s t) → Made n tree t → ancestor tree (top t) ≡ u →
      ancestor tree (top s) ≡ node_above u p
  unfolding node_above
  above-ancestor s u t whole made e = e
  above-ancestor s u t (below left v a b p) made e = above-ancestor s v a p made.4 made.2
  above-ancestor s u t (below right v a b p) made e = above-ancestor s v b p made.5 made.3
