-- Texts of numbers in a row as loops put them: from the first node or character to before an end.
use mathlib.Core.Path.{◌≡◌, ap}
use mathlib.Core.List.{List, flat_map}
use Prim.Native.Nat.{ℕ, ◌+◌, ◌-◌, ◌*◌}
use native.Mathlib.Omega.{arith}
use Rattle.lists.specs.Numbers.{numbers}
use Rattle.tree_form.specs.Nodes.{other_nodes, htus}

module _ (f : ℕ → List ℕ) where
  -- nodes 2 to before 2n-1
  pub from_two : (n : ℕ) → flat_map f (other_nodes n) ≡ flat_map f (numbers 2 (2 * n - 1 - 2))
  unfolding other_nodes
  from_two n =
      let count : 2 * n - 3 ≡ 2 * n - 1 - 2 = omega arith in
      ap (λ k. flat_map f (numbers 2 k)) count

  -- nodes n+1 to before 2n-1
  pub from-htu : (n : ℕ) → flat_map f (htus n) ≡ flat_map f (numbers (n + 1) (2 * n - 1 - (n + 1)))
  from-htu n =
      let count : n - 2 ≡ 2 * n - 1 - (n + 1) = omega arith in
      ap (λ k. flat_map f (numbers (n + 1) k)) count

  -- characters 1 to before m+1
  pub from-one : (m : ℕ) → flat_map f (numbers 1 m) ≡ flat_map f (numbers 1 (m + 1 - 1))
  from-one m =
      let count : m ≡ m + 1 - 1 = omega arith in
      ap (λ k. flat_map f (numbers 1 k)) count
