-- What fitting uses of a branching of two taxa or more, which is a tree of all its n taxa: the numbers of descendants, and the steps
-- from a node up to row 1.
use Rattle.std.proofs.Common.{◌≡◌, ℕ, zero, suc, ◌-◌, ◌*◌, ◌<◌, ◌≤◌, true, ◌⊎◌, List, length, ⊎_elim, arith, eqb-true}
use Rattle.tree_form.specs.Ancestors.{ancestor, descendants}
use Rattle.tree_form.specs.Nodes.{other_nodes}
use Rattle.tree_form.specs.Growing.{descendant_count, climbs}
use Rattle.tree_form.specs.Facts.{Grown, several}
use Rattle.tree_form.proofs.Climbing.{climbs_iff}
use Rattle.tree_form.proofs.Whole.{growing-within, growing-outside, branching_nodes, branching-root, branching-taxon, branching-htu}
use Rattle.tree_form.proofs.Whole.{branching-climbs}

-- going up exactly k steps from node v reaches node 1
abbrev pub Climbs : List ℕ → ℕ → ℕ → Type 0
Climbs tree zero v = v ≡ 1
Climbs tree (suc k) v = Climbs tree k (ancestor tree v)

-- a node that reaches node 1 within some steps does so in one number of them
climbs_steps : (tree : List ℕ) (steps v : ℕ) → climbs tree steps v ≡ true → (k : ℕ) × (k ≤ steps) × Climbs tree k v
unfolding climbs
climbs_steps tree zero v c = (0, omega arith, eqb-true v 1 c)
climbs_steps tree (suc steps) v c =
    ⊎_elim
    (λ e. (0, omega arith, e))
    (λ r. let h = climbs_steps tree steps (ancestor tree v) r in (suc h.0, omega (arith, h.1), h.2))
    ((climbs_iff tree steps v).0 c)

module _ (n : ℕ) (tree : List ℕ) (grown : Grown n n tree) where
  -- only nodes 2 to 2n-2 have an immediate ancestor
  pub only_nodes : (v : ℕ) → 1 ≤ ancestor tree v → (2 ≤ v) × (v ≤ 2 * n - 2)
  only_nodes = growing-within n tree (several grown)

  -- any other number has no immediate ancestor
  pub no_ancestor : (v : ℕ) → (v < 2) ⊎ (2 * n - 2 < v) → ancestor tree v ≡ 0
  no_ancestor = growing-outside n tree (several grown)

  -- each of these nodes hangs from row 1, or from a node that has an immediate ancestor itself
  pub row1_or_node : (v : ℕ) → 2 ≤ v → v ≤ 2 * n - 2 → (ancestor tree v ≡ 1) ⊎ (1 ≤ ancestor tree (ancestor tree v))
  row1_or_node v p h = grown.ancestors_in v (branching_nodes n tree (several grown) v p h)

  -- row 1 has one descendant
  pub one_below : length (descendants tree (other_nodes n) 1) ≡ 1
  unfolding descendant_count
  one_below = branching-root n tree grown.at_least_two (several grown)

  -- each other taxon has no descendant
  pub none_below : (v : ℕ) → 2 ≤ v → v ≤ n → length (descendants tree (other_nodes n) v) ≡ 0
  unfolding descendant_count
  none_below = branching-taxon n tree grown.at_least_two (several grown)

  -- each HTU has two descendants
  pub two_below : (v : ℕ) → n < v → v ≤ 2 * n - 2 → length (descendants tree (other_nodes n) v) ≡ 2
  unfolding descendant_count
  two_below = branching-htu n tree grown.at_least_two (several grown)

  -- from every node below row 1, at most 2n-2 steps up reach it
  pub steps_up : (v : ℕ) → 2 ≤ v → v ≤ 2 * n - 2 → (k : ℕ) × (k ≤ 2 * n - 2) × Climbs tree k v
  steps_up v p h = climbs_steps tree (2 * n - 2) v (branching-climbs n tree grown.at_least_two (several grown) v p h)
