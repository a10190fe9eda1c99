-- Branch records: a lent list of them is a branching exactly if it names the nodes in order and its ancestors are one; the branches of a
-- branching, handed back, are such a list and give the same ancestors.
use mathlib.Core.Path.{◌≡◌, sym, ap, ◌∙◌}
use mathlib.Core.Logic.{◌↔◌, inl, inr, by_cases}
use mathlib.Core.List.{List, ◌∷◌, map, map-map, map-id}
use mathlib.Core.Bool.{true}
use Prim.Native.Nat.{ℕ, zero, suc, ◌*◌, ◌-◌, ◌≤◌}
use native.Mathlib.Omega.{arith}
use native.Mathlib.Decide.{dec_le}
use lib.Seq.{take_all}
use Rattle.lists.proofs.Every.{same_numbers_iff}
use Rattle.lists.proofs.Both.{and_iff}
use Rattle.lists.proofs.Filled.{filled_at}
use Rattle.lists.proofs.Numbers.{length_map_numbers, map-numbers, map-beyond}
use Rattle.tree_form.specs.declared.branch.Branch.{Branch}
use Rattle.tree_form.specs.Ancestors.{ancestor, tree_with}
use Rattle.tree_form.specs.Nodes.{other_nodes}
use Rattle.tree_form.specs.Facts.{Branching}
use Rattle.tree_form.specs.Branches.{tree_length, branch_of, branch_records, branches_read, ancestors_of, named_in_order, lent_branching}
use Rattle.lists.specs.Sums.{sum_over}
use Rattle.tree_form.proofs.Test.{branching_iff}
use Rattle.tree_form.proofs.Whole.{growing-outside, growing-same, branching-length}

-- the nodes that the branches name, as far as they are read
abbrev pub nodes_read : ℕ → List Branch → List ℕ
nodes_read n records = map (λ (branch : Branch). branch.node) (branches_read n records)

-- a lent list is a branching exactly if it names nodes 2 to 2n-2 in order and its ancestors are a branching
pub lent_iff : (n : ℕ) → 1 ≤ n → (records : List Branch)
    → (lent_branching n records ≡ true) ↔ ((nodes_read n records ≡ other_nodes n) × Branching n (ancestors_of n records))
unfolding lent_branching named_in_order
lent_iff n taxa records =
    and_iff (same_numbers_iff (nodes_read n records) (other_nodes n)) (branching_iff (ancestors_of n records) n taxa)

-- the branches of a tree, as they are handed back
module _ (d : ℕ → ℕ → ℕ) (n : ℕ) (tree : List ℕ) where
  -- all of them are read
  read_all : branches_read n (branch_records d n tree) ≡ branch_records d n tree
  unfolding branches_read branch_records other_nodes
  read_all =
      take_all (2 * n - 3) (branch_records d n tree) (omega (arith, length_map_numbers (branch_of d tree) 2 (2 * n - 3)))

  -- they name nodes 2 to 2n-2 in order
  pub records-named : nodes_read n (branch_records d n tree) ≡ other_nodes n
  unfolding branch_records branch_of
  records-named =
      ap (map (λ (branch : Branch). branch.node)) read_all
      ∙ map-map (λ (branch : Branch). branch.node) (branch_of d tree) (other_nodes n)
      ∙ map-id (other_nodes n)

  -- their ancestors are those of the tree
  pub records-ancestors : ancestors_of n (branch_records d n tree) ≡ tree_with (map (ancestor tree) (other_nodes n))
  unfolding ancestors_of branch_records branch_of
  records-ancestors =
      ap tree_with
      (ap (map (λ (branch : Branch). branch.ancestor)) read_all
      ∙ map-map (λ (branch : Branch). branch.ancestor) (branch_of d tree) (other_nodes n))

  module _ (b : Branching n tree) where
    -- read again, they give every node the ancestor that it has
    pub records-same : (v : ℕ) → ancestor tree v ≡ ancestor (ancestors_of n (branch_records d n tree)) v
    unfolding ancestor other_nodes
    records-same v = rw records-ancestors (at v ∙ sym (filled_at 0 127 (0 ∷ (0 ∷ map (ancestor tree) (other_nodes n))) v))
      where
        outside : (i : ℕ) → 2 * n - 3 ≤ i → ancestor tree (suc (suc i)) ≡ 0
        outside i beyond = growing-outside n tree b (suc (suc i)) (inr (omega arith))

        at : (v : ℕ) → ancestor tree v ≡ ancestor (0 ∷ (0 ∷ map (ancestor tree) (other_nodes n))) v
        at zero = growing-outside n tree b 0 (inl (omega arith))
        at (suc zero) = growing-outside n tree b 1 (inl (omega arith))
        at (suc (suc i)) =
            by_cases
            (dec_le (2 * n - 3) i)
            (λ beyond. outside i beyond ∙ sym (map-beyond (ancestor tree) 0 2 (2 * n - 3) i beyond))
            (λ within. ap (ancestor tree) (omega arith) ∙ sym (map-numbers (ancestor tree) 0 2 (2 * n - 3) i (omega arith)))

    -- and they are a branching
    pub records-lent : 1 ≤ n → lent_branching n (branch_records d n tree) ≡ true
    records-lent taxa =
        (lent_iff n taxa (branch_records d n tree)).1
        (records-named, growing-same n tree (ancestors_of n (branch_records d n tree)) records-same b)

    -- the length of the tree is the sum of their lengths
    pub records-length : tree_length d n tree ≡ sum_over (λ v. (branch_of d tree v).length) (other_nodes n)
    unfolding branch_of
    records-length = branching-length d n tree b
