-- Going up reaches node 1 at all exactly if it does so within as many steps as the tree has nodes.
use mathlib.Core.Path.{◌≡◌, refl, ap, ◌∙◌}
use mathlib.Core.Logic.Iff
use mathlib.Core.Logic.{◌↔◌, ◌⊎◌, inl, inr, ⊎_elim, ◌≢◌}
use mathlib.Core.List.{List, Memᴰ}
use mathlib.Core.Bool.{Bool, true, false, ◌||◌}
use Prim.Native.Nat.{ℕ, zero, suc, ◌-◌, ◌<◌}
use native.Mathlib.Omega.{arith}
use lib.Dec.{eqb}
use lib.ListN.{length}
use borrow.Author.Tests.{eqb-true, eq-eqb, ne_eqb}
use Rattle.lists.proofs.Both.{eqb_iff, or_iff}
use Rattle.tree_form.specs.Ancestors.{ancestor}
use Rattle.lists.specs.Filters.{keep}
use Rattle.tree_form.specs.Growing.{climbs}
use Rattle.tree_form.specs.Facts.{ReachesRoot, root, up}
use Rattle.lists.proofs.Keep.{keep_grows, mem-keep, mem-length, length_keep_le}

module _ (tree : List ℕ) where
  -- the test with one step more, by cases of node v and its immediate ancestor
  climbs-suc : (steps v : ℕ) → climbs tree (suc steps) v ≡ (eqb v 1 || climbs tree steps (ancestor tree v))
  unfolding climbs
  climbs-suc steps v = go (eqb v 1) (climbs tree steps (ancestor tree v))
    where
      go : (t c : Bool) → (elim t as (λ b. Bool) [ true ↦ true | false ↦ c ]) ≡ (t || c)
      go true c = refl
      go false c = refl

  -- with one step more, node v climbs exactly if it is node 1 or its immediate ancestor climbs
  pub climbs_iff : (steps v : ℕ) → (climbs tree (suc steps) v ≡ true) ↔ ((v ≡ 1) ⊎ (climbs tree steps (ancestor tree v) ≡ true))
  climbs_iff steps v = rw (climbs-suc steps v) (or_iff (eqb_iff v 1) Iff.rfl)

  -- node 1 climbs, however many steps are left
  pub climbs-here : (steps v : ℕ) → v ≡ 1 → climbs tree steps v ≡ true
  unfolding climbs
  climbs-here zero v e = eq-eqb v 1 e
  climbs-here (suc steps) v e = (climbs_iff steps v).1 (inl e)

  -- with a step left, another node climbs exactly if its immediate ancestor does with one step less
  pub climbs-above : (steps v : ℕ) → 0 < steps → v ≢ 1 → climbs tree steps v ≡ climbs tree (steps - 1) (ancestor tree v)
  climbs-above zero v some ne = absurd (omega arith)
  climbs-above (suc steps) v some ne =
      let less : suc steps - 1 ≡ steps = omega arith in
      rw less (climbs-suc steps v ∙ ap (λ (t : Bool). t || climbs tree steps (ancestor tree v)) (ne_eqb v 1 ne))

  -- with no step left only node 1 climbs
  pub climbs_last : (steps v : ℕ) → steps ≡ 0 → climbs tree steps v ≡ eqb v 1
  unfolding climbs
  climbs_last steps v none = rw none

  -- if the immediate ancestor climbs, so does the node with one step more
  climbs-up : (steps v : ℕ) → climbs tree steps (ancestor tree v) ≡ true → climbs tree (suc steps) v ≡ true
  climbs-up steps v c = (climbs_iff steps v).1 (inr c)

  -- what climbs within some steps climbs within more
  climbs-more : (steps v : ℕ) → climbs tree steps v ≡ true → climbs tree (suc steps) v ≡ true
  unfolding climbs
  climbs-more zero v c = climbs-here 1 v (eqb-true v 1 c)
  climbs-more (suc steps) v c =
      ⊎_elim
      (λ e. climbs-here (suc (suc steps)) v e)
      (λ r. climbs-up (suc steps) v (climbs-more steps (ancestor tree v) r))
      ((climbs_iff steps v).0 c)

  -- what climbs reaches node 1
  pub climbs_reaches : (steps v : ℕ) → climbs tree steps v ≡ true → ReachesRoot tree v
  unfolding climbs
  climbs_reaches zero v c = rw (eqb-true v 1 c) root
  climbs_reaches (suc steps) v c =
      ⊎_elim (λ e. rw e root) (λ r. up v (climbs_reaches steps (ancestor tree v) r)) ((climbs_iff steps v).0 c)

  -- a number other than 1 without an ancestor never climbs, if 0 has none
  pub never_climbs : ancestor tree 0 ≡ 0 → (steps v : ℕ) → v ≢ 1 → ancestor tree v ≡ 0 → ¬ (climbs tree steps v ≡ true)
  unfolding climbs
  never_climbs ground zero v ne none c = ne (eqb-true v 1 c)
  never_climbs ground (suc steps) v ne none c =
      ⊎_elim ne (λ r. never_climbs ground steps 0 (λ e. omega arith) ground (rw none at r)) ((climbs_iff steps v).0 c)

  -- after so many steps nothing more climbs
  abbrev Settled : ℕ → Type 0
  Settled steps = (v : ℕ) → climbs tree (suc steps) v ≡ true → climbs tree steps v ≡ true

  -- nor after one more
  settled_suc : (steps : ℕ) → Settled steps → Settled (suc steps)
  settled_suc steps s v c =
      ⊎_elim
      (λ e. climbs-here (suc steps) v e)
      (λ r. climbs-up steps v (s (ancestor tree v) r))
      ((climbs_iff (suc steps) v).0 c)

  -- then all that reaches node 1 climbs
  reaches_settled : (steps : ℕ) → Settled steps → {v : ℕ} → ReachesRoot tree v → climbs tree steps v ≡ true
  reaches_settled steps s root = climbs-here steps 1 refl
  reaches_settled steps s (up v r) = s v (climbs-up steps v (reaches_settled steps s r))

  -- a list of nodes that holds node 1 and every node that ever climbs
  module _ (nodes : List ℕ) (one : Memᴰ 1 nodes)
      (all : (v : ℕ) → Memᴰ v nodes ⊎ ((steps : ℕ) → ¬ (climbs tree steps v ≡ true))) where
    -- each step lets one more of the nodes climb, until nothing more climbs
    settled_or_more : (steps : ℕ) → Settled steps ⊎ (steps < length (keep (climbs tree steps) nodes))
    settled_or_more zero = inr (mem-length (mem-keep (climbs tree 0) nodes 1 one (climbs-here 0 1 refl)))
    settled_or_more (suc steps) = go (settled_or_more steps)
      where
        everywhere : ((v : ℕ) → Memᴰ v nodes → climbs tree (suc steps) v ≡ true → climbs tree steps v ≡ true) → Settled steps
        everywhere back v c = ⊎_elim (λ m. back v m c) (λ never. absurd (never (suc steps) c)) (all v)

        go : Settled steps ⊎ (steps < length (keep (climbs tree steps) nodes))
            → Settled (suc steps) ⊎ (suc steps < length (keep (climbs tree (suc steps)) nodes))
        go (inl s) = inl (settled_suc steps s)
        go (inr h) =
            ⊎_elim
            (λ back. inl (settled_suc steps (everywhere back)))
            (λ less. inr (omega arith))
            (keep_grows (climbs tree steps) (climbs tree (suc steps)) nodes (λ v m c. climbs-more steps v c))

    -- what reaches node 1 does so within as many steps as there are nodes
    pub reaches_climbs : {v : ℕ} → ReachesRoot tree v → climbs tree (length nodes) v ≡ true
    reaches_climbs r =
        ⊎_elim
        (λ s. reaches_settled (length nodes) s r)
        (λ more. absurd (omega (arith, length_keep_le (climbs tree (length nodes)) nodes)))
        (settled_or_more (length nodes))
