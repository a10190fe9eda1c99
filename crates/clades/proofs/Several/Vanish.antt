-- A branch can vanish in all characters at once exactly if, in each, the ranges of its two ends meet.
use mathlib.Core.Path.{◌≡◌, sym, subst, fun_ext}
use mathlib.Core.Logic.{◌↔◌}
use Prim.Native.Nat.{ℕ, ◌≤◌}
use native.Mathlib.Omega.{arith}
use native.Mathlib.Bridge.{le_prop}
use native.Mathlib.Decide.{dec_le}
use lib.IntN.{ℤ}
use mathlib.Core.Bool.{false}
use Rattle.lists.specs.Numbers.{numbers}
use Rattle.lists.specs.Sums.{sum_over}
use Rattle.lists.proofs.Numbers.{numbers-within, numbers-among}
use Rattle.lists.proofs.Sums.{sum_none, sum_tight}
use Rattle.clades.specs.Clades.{Clade}
use Rattle.clades.proofs.Clades.Nodes.{top, has, Distinct}
use Rattle.clades.proofs.Clades.Parts.{Part, node_above}
use Rattle.clades.proofs.Sets.Laws.{Metric}
use Rattle.clades.proofs.OneCharacter.Vanishing.{Vanishes, Meet, vanishes_iff}
use Rattle.clades.proofs.Several.Together.{LeastTotal, EachFitted, LeastAt, EachLeast, length_of, each-total, total-each}

-- what is chosen where two things hold, and something else where one of them fails
where_both : {A B C : Type 0} → Dec A → Dec B → (A → B → C) → C → C
where_both (yes a) (yes b) f c = f a b
where_both (yes a) (no b) f c = c
where_both (no a) (yes b) f c = c
where_both (no a) (no b) f c = c

module _ (m : ℕ) (ours : ℕ → ℕ → ℤ) (pick : (j : ℕ) → 1 ≤ j → j ≤ m → ℕ → ℤ) where
  -- states picked for each of the m characters, and `ours` beyond them
  by_character : ℕ → ℕ → ℤ
  by_character v j = where_both (dec_le 1 j) (dec_le j m) (λ r l. pick j r l v) (ours v j)

  -- in each of the m characters they are the picked ones
  by_character_is : (j : ℕ) (r : 1 ≤ j) (l : j ≤ m) (v : ℕ) → by_character v j ≡ pick j r l v
  unfolding by_character where_both
  by_character_is j r l v = go (dec_le 1 j) (dec_le j m)
    where
      go : (d : Dec (1 ≤ j)) (e : Dec (j ≤ m)) → where_both d e (λ r l. pick j r l v) (ours v j) ≡ pick j r l v
      go (yes a) (yes b) = λ i. pick j (le_prop a r i) (le_prop b l i) v
      go (yes a) (no b) = absurd (b l)
      go (no a) (yes b) = absurd (a r)
      go (no a) (no b) = absurd (a r)

module _ (m : ℕ) (step : ℕ → ℤ → ℤ → ℕ) (Own : ℕ → ℕ → ℤ → Type 0) (t : Clade) where
  -- the length of the branch between nodes v and u under an assignment: the cost of its changes in all characters
  unfoldable pub length_between : (ℕ → ℕ → ℤ) → ℕ → ℕ → ℕ
  length_between states v u = sum_over (λ j. step j (states v j) (states u j)) (numbers 1 m)

  -- some assignment of least total length gives the branch between v and u the length 0
  pub record CanVanish (v u : ℕ) : Type 0 where
    pub states : ℕ → ℕ → ℤ
    pub is_least : LeastTotal m step Own t states
    pub none : length_between states v u ≡ 0

-- in each of m characters one state is in the ranges of both nodes v and u
abbrev pub AllMeet : ℕ → (ℕ → ℕ → ℤ → Type 0) → ℕ → ℕ → Type 0
AllMeet m InRange v u = (j : ℕ) → 1 ≤ j → j ≤ m → Meet (InRange j) v u

module _ (m : ℕ) (step : ℕ → ℤ → ℤ → ℕ) (metrics : (j : ℕ) → 1 ≤ j → j ≤ m → Metric (step j)) (Own : ℕ → ℕ → ℤ → Type 0) (t : Clade)
    (d : Distinct t) (off : has t 1 ≡ false) (ours : ℕ → ℕ → ℤ)
    (InRange : ℕ → ℕ → ℤ → Type 0) (fits : EachFitted m step Own t ours InRange) (s : Clade) (c : Part s t) where
  -- the upper end of the branch above a part
  abbrev upper : ℕ
  upper = node_above 1 c

  -- the branch can vanish in character j
  abbrev VanishesAt : ℕ → Type 0
  VanishesAt j = Vanishes (step j) (Own j) t (length_of m step Own t ours j) (top s) upper

  -- in one character, by the ranges
  at_each : (j : ℕ) → 1 ≤ j → j ≤ m → VanishesAt j ↔ Meet (InRange j) (top s) upper
  at_each j r l = vanishes_iff (step j) (metrics j r l).distance (Own j) t d off (λ v. ours v j) (InRange j) (fits j r l) s c

  -- an assignment of least total length under which the branch has length 0 gives both ends the same states: the ranges meet
  vanish_meets : CanVanish m step Own t (top s) upper → AllMeet m InRange (top s) upper
  unfolding length_between
  vanish_meets can j r l = (at_each j r l).0 (record {
    states = λ v. can.states v j;
    is_within = total-each m step Own t ours InRange fits can.states can.is_least j r l;
    same = (metrics j r l).same (can.states (top s) j) (can.states upper j) (omega (arith, none_at));
  })
    where
      none_at : step j (can.states (top s) j) (can.states upper j) ≤ 0
      none_at = sum_tight (λ i. 0) (λ i. step i (can.states (top s) i) (can.states upper i)) (numbers 1 m) (λ i k. omega arith)
          (omega (arith, can.none)) j (numbers-among 1 m j r (omega arith))

  -- where the ranges meet in each character, the assignments in which the branch vanishes are put together
  meets_vanish : AllMeet m InRange (top s) upper → CanVanish m step Own t (top s) upper
  meets_vanish meet = record {
    states = all;
    is_least = each-total m step Own t ours InRange fits all each;
    none = unfold length_between in
        sum_none (λ j. step j (all (top s) j) (all upper j)) (numbers 1 m)
        (λ j i.
        let w = numbers-within 1 m j i in
        none_at j w.0 (omega (arith, w.1)));
  }
    where
      at : (j : ℕ) → 1 ≤ j → j ≤ m → VanishesAt j
      at j r l = (at_each j r l).1 (meet j r l)

      pick : (j : ℕ) → 1 ≤ j → j ≤ m → ℕ → ℤ
      pick j r l = (at j r l).states

      all : ℕ → ℕ → ℤ
      all = by_character m ours pick

      each : EachLeast m step Own t ours InRange fits all
      each j r l =
          subst (LeastAt m step Own t ours InRange fits j) (fun_ext (λ v. sym (by_character_is m ours pick j r l v))) (at j r l).is_within

      none_at : (j : ℕ) → 1 ≤ j → j ≤ m → step j (all (top s) j) (all upper j) ≡ 0
      none_at j r l = rw (by_character_is m ours pick j r l (top s), by_character_is m ours pick j r l upper, (at j r l).same)
          ((metrics j r l).distance.self ((at j r l).states upper))

  -- the branch can vanish exactly if in every character the ranges of its two ends meet
  pub can_vanish_iff : CanVanish m step Own t (top s) upper ↔ AllMeet m InRange (top s) upper
  can_vanish_iff = (vanish_meets, meets_vanish)
