-- Several characters on one clade below row 1: if each is fitted, the chosen states have least total length, and the ranges are those of
-- all assignments of least total length. An assignment is chosen character by character.
use mathlib.Core.Path.{◌≡◌, refl, sym, subst}
use mathlib.Core.Logic.{◌↔◌}
use mathlib.Core.List.{Memᴰ}
use mathlib.Core.Bool.{Bool, true, false, cond}
use Prim.Native.Nat.{ℕ, ◌≤◌}
use native.Mathlib.Omega.{arith}
use lib.Dec.{eqb}
use lib.IntN.{ℤ}
use borrow.Author.Tests.{eqb-true, eq-eqb}
use Rattle.lists.specs.Numbers.{numbers}
use Rattle.lists.specs.Sums.{sum_over}
use Rattle.lists.proofs.Numbers.{numbers-within, numbers-among}
use Rattle.lists.proofs.Sums.{sum_le, sum_tight}
use Rattle.clades.specs.Clades.{Clade}
use Rattle.clades.proofs.OneCharacter.CharacterFit.{Assigns, length_in, Node, Within, CharacterFit}

-- m characters: `step j a b` is what a change between states a and b costs in character j, and `Own j v s` says that taxon v may have
-- state s in it
module _ (m : ℕ) (step : ℕ → ℤ → ℤ → ℕ) (Own : ℕ → ℕ → ℤ → Type 0) (clade : Clade) where
  -- the length of character j under an assignment
  abbrev pub length_of : (ℕ → ℕ → ℤ) → ℕ → ℕ
  length_of states j = length_in (step j) clade (λ v. states v j)

  -- the total length of an assignment: the sum of its characters' lengths
  unfoldable pub total_in : (ℕ → ℕ → ℤ) → ℕ
  total_in states = sum_over (length_of states) (numbers 1 m)

  -- an assignment gives row 1 and the taxa states that they may have in every character
  abbrev pub AllAssigned : (ℕ → ℕ → ℤ) → Type 0
  AllAssigned states = (j : ℕ) → 1 ≤ j → j ≤ m → Assigns (Own j) clade (λ v. states v j)

  -- an assignment is of least total length if every other has at least its total
  pub record LeastTotal (states : ℕ → ℕ → ℤ) : Type 0 where
    pub assigns : AllAssigned states
    pub least : (others : ℕ → ℕ → ℤ) → AllAssigned others → total_in states ≤ total_in others

  -- node v has state s in character j in some assignment of least total length
  pub record OccursIn (v j : ℕ) (s : ℤ) : Type 0 where
    pub states : ℕ → ℕ → ℤ
    pub is_least : LeastTotal states
    pub here : states v j ≡ s

  -- each character is fitted, by the chosen states `ours` and the ranges `InRange`
  abbrev pub EachFitted : (ℕ → ℕ → ℤ) → (ℕ → ℕ → ℤ → Type 0) → Type 0
  EachFitted ours InRange = (j : ℕ) → 1 ≤ j → j ≤ m → CharacterFit (step j) (Own j) clade (λ v. ours v j) (InRange j)

module _ (m : ℕ) (step : ℕ → ℤ → ℤ → ℕ) (Own : ℕ → ℕ → ℤ → Type 0) (clade : Clade) (ours : ℕ → ℕ → ℤ)
    (InRange : ℕ → ℕ → ℤ → Type 0) (fits : EachFitted m step Own clade ours InRange) where
  -- the length of character j under an assignment
  abbrev long : (ℕ → ℕ → ℤ) → ℕ → ℕ
  long = length_of m step Own clade

  -- states of one character are of least length in character j
  abbrev pub LeastAt : ℕ → (ℕ → ℤ) → Type 0
  LeastAt j f = Within (step j) (Own j) clade (long ours j) f

  -- an assignment is of least length in each character
  abbrev pub EachLeast : (ℕ → ℕ → ℤ) → Type 0
  EachLeast states = (j : ℕ) → 1 ≤ j → j ≤ m → LeastAt j (λ v. states v j)

  -- the chosen states are of least length in each character
  pub ours-each : EachLeast ours
  ours-each j r l = record { assigns = (fits j r l).assigns; most = omega arith }

  -- an assignment of least length in a character is no longer in it than any other
  length-least : (states others : ℕ → ℕ → ℤ) → EachLeast states → AllAssigned m step Own clade others →
      (j : ℕ) → Memᴰ j (numbers 1 m) → long states j ≤ long others j
  length-least states others each assigned j i =
      let w = numbers-within 1 m j i in
      let l : j ≤ m = omega arith in
      omega (arith, (each j w.0 l).most, (fits j w.0 l).least (λ v. others v j) (assigned j w.0 l))

  -- an assignment of least length in each character is of least total length
  pub each-total : (states : ℕ → ℕ → ℤ) → EachLeast states → LeastTotal m step Own clade states
  each-total states each = record {
    assigns = λ j r l. (each j r l).assigns;
    least = λ others assigned. unfold total_in in
        sum_le (long states) (long others) (numbers 1 m) (length-least states others each assigned);
  }

  -- the chosen states are of least total length
  pub ours-least : LeastTotal m step Own clade ours
  ours-least = each-total ours ours-each

  -- an assignment of least total length is of least length in each character
  pub total-each : (states : ℕ → ℕ → ℤ) → LeastTotal m step Own clade states → EachLeast states
  unfolding total_in
  total-each states least j r l = record {
    assigns = least.assigns j r l;
    most = sum_tight (long ours) (long states) (numbers 1 m) (length-least ours states ours-each least.assigns)
        (least.least ours (λ i a b. (ours-each i a b).assigns)) j (numbers-among 1 m j r (omega arith));
  }

  -- some states in character j, and the chosen ones in all other characters
  unfoldable pub in_one : ℕ → (ℕ → ℤ) → ℕ → ℕ → ℤ
  in_one j f v i = cond (eqb i j) (f v) (ours v i)

  -- if the former are of least length in character j, this assignment is of least length in each
  in_one_each : (j : ℕ) (f : ℕ → ℤ) → LeastAt j f → EachLeast (in_one j f)
  unfolding in_one
  in_one_each j f h i r l = go (eqb i j) refl
    where
      go : (x : Bool) → eqb i j ≡ x → LeastAt i (λ v. cond x (f v) (ours v i))
      go true e = subst (λ k. LeastAt k f) (sym (eqb-true i j e)) h
      go false e = ours-each i r l

  -- a state is in the range of a node exactly if the node has it in some assignment of least total length
  pub range_occurs : (v j : ℕ) (s : ℤ) → Node clade v → 1 ≤ j → j ≤ m → InRange j v s ↔ OccursIn m step Own clade v j s
  range_occurs v j s node r l = (
    λ i.
        let a = (fits j r l).reached v node s i in
        record {
          states = in_one j a.states;
          is_least = each-total (in_one j a.states) (in_one_each j a.states a.is_within);
          here = unfold in_one in rw (eq-eqb j j refl) a.here;
        },
    λ o. subst (InRange j v) o.here ((fits j r l).sound (λ w. o.states w j) (total-each o.states o.is_least j r l) v node),
  )
