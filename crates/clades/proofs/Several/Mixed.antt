-- Characters of several kinds, each with a weight, on one clade below row 1: the chosen states have least total length, the range of every
-- node is exact, and a branch is marked exactly if every assignment of least total length gives it a length of at least 1.
use mathlib.Core.Path.{◌≡◌}
use mathlib.Core.Logic.{◌↔◌, inr, by_cases}
use mathlib.Core.List.{[], ◌∷◌}
use mathlib.Core.Bool.{Bool, true, false}
use Prim.Native.Nat.{ℕ, ◌≤◌}
use native.Mathlib.Omega.{arith}
use native.Mathlib.Decide.{dec_le}
use lib.Dec.{ltb}
use lib.IntN.{ℤ}
use borrow.Author.Tests.{ltb-true, lt-ltb}
use Rattle.lists.specs.Numbers.{numbers}
use Rattle.lists.specs.Sums.{sum_over}
use Rattle.lists.proofs.Numbers.{numbers-within, numbers-among}
use Rattle.lists.proofs.Sums.{sum_none, sum_tight}
use Rattle.clades.specs.Clades.{Clade}
use Rattle.clades.specs.Kinds.{Kind}
use Rattle.clades.specs.Character.{state_of, range_of}
use Rattle.clades.proofs.Clades.Nodes.{top, has, has_top, Distinct}
use Rattle.clades.proofs.Clades.Parts.{Part, part_has, node_above}
use Rattle.clades.proofs.Sets.Laws.{Laws}
use Rattle.clades.proofs.Sets.Distance.{common-gap}
use Rattle.clades.proofs.OneCharacter.Basic.{Own, EachProper}
use Rattle.clades.proofs.OneCharacter.CharacterFit.{Node}
use Rattle.clades.proofs.OneCharacter.Row1.{character-fit, range_proper}
use Rattle.clades.proofs.OneCharacter.Vanishing.{Meet, above_node}
use Rattle.difference_form.proofs.Laws.Distance.{times}
use Rattle.clades.proofs.OneCharacter.Weighed.{metric_weighed, weighed-fit}
use Rattle.clades.proofs.Several.Together.{LeastTotal, OccursIn, EachFitted, ours-least, range_occurs}
use Rattle.clades.proofs.Several.Vanish.{CanVanish, length_between, AllMeet, can_vanish_iff}

-- m characters: of each its kind, its weight, and the taxa's own sets; and the clade below row 1
module _ (m : ℕ) (K : ℕ → Kind) (weight : ℕ → ℕ) (own : (j : ℕ) → ℕ → (K j).Set) (t : Clade) where
  -- what a change costs in character j
  abbrev pub step_in : ℕ → ℤ → ℤ → ℕ
  step_in j = times (weight j) (K j).step

  -- taxon v may have state s in character j
  abbrev pub OwnIn : ℕ → ℕ → ℤ → Type 0
  OwnIn j = Own (K j) (own j)

  -- the state chosen for node v in character j
  abbrev pub state_in : ℕ → ℕ → ℤ
  state_in v j = state_of (K j) (own j) (t ∷ []) v

  -- the range of node v in character j
  abbrev pub range_in : ℕ → (j : ℕ) → (K j).Set
  range_in v j = range_of (K j) (own j) (t ∷ []) v

  -- how far the ranges of nodes v and u lie from each other, in all characters together, without the weights
  unfoldable pub gaps_between : ℕ → ℕ → ℕ
  gaps_between v u = sum_over (λ j. (K j).gap (range_in v j) (range_in u j)) (numbers 1 m)

  -- the branch between nodes v and u is marked if in some character their ranges do not meet
  unfoldable pub is_marked : ℕ → ℕ → Bool
  is_marked v u = ltb 0 (gaps_between v u)

  -- what is asked of each character: its kind satisfies the laws, its weight is at least 1, and the own sets of the taxa and of row 1 can
  -- be the set of a node
  pub record Characters : Type 0 where
    pub laws : (j : ℕ) → 1 ≤ j → j ≤ m → Laws (K j)
    pub weighed : (j : ℕ) → 1 ≤ j → j ≤ m → 1 ≤ weight j
    pub proper : (j : ℕ) → 1 ≤ j → j ≤ m → EachProper (K j) (own j) t
    pub row1 : (j : ℕ) → 1 ≤ j → j ≤ m → (K j).Proper (own j 1)

module _ (m : ℕ) (K : ℕ → Kind) (weight : ℕ → ℕ) (own : (j : ℕ) → ℕ → (K j).Set) (t : Clade) (d : Distinct t) (off : has t 1 ≡ false)
    (c : Characters m K weight own t) where
  -- the states of the range of a node in a character
  abbrev InRange : ℕ → ℕ → ℤ → Type 0
  InRange j v s = (K j).In s (range_in m K weight own t v j)

  -- each character is fitted
  pub each-fitted : EachFitted m (step_in m K weight own t) (OwnIn m K weight own t) t (state_in m K weight own t) InRange
  each-fitted j r l =
      weighed-fit (weight j) (c.weighed j r l) (K j).step (Own (K j) (own j)) t (state_of (K j) (own j) (t ∷ [])) (InRange j)
      (character-fit (K j) (c.laws j r l) (own j) t (c.proper j r l) (c.row1 j r l) d off)

  -- the chosen states are of least total length
  pub chosen-least : LeastTotal m (step_in m K weight own t) (OwnIn m K weight own t) t (state_in m K weight own t)
  chosen-least =
      ours-least m (step_in m K weight own t) (OwnIn m K weight own t) t (state_in m K weight own t) InRange each-fitted

  -- a state is in the range of a node, row 1, taxon or HTU, exactly if the node has it in some assignment of least total length
  pub range_exact : (v j : ℕ) (s : ℤ) → Node t v → 1 ≤ j → j ≤ m →
      (K j).In s (range_in m K weight own t v j) ↔ OccursIn m (step_in m K weight own t) (OwnIn m K weight own t) t v j s
  range_exact =
      range_occurs m (step_in m K weight own t) (OwnIn m K weight own t) t (state_in m K weight own t) InRange each-fitted

  module _ (s : Clade) (p : Part s t) where
    -- the lower end of the branch above a part
    abbrev lower : ℕ
    lower = top s

    -- its upper end
    abbrev upper : ℕ
    upper = node_above 1 p

    -- the gap between the ranges of its ends in character j
    abbrev gap_in : ℕ → ℕ
    gap_in j = (K j).gap (range_in m K weight own t lower j) (range_in m K weight own t upper j)

    -- in a character the ranges of its ends meet exactly if there is no gap
    meet_gap : (j : ℕ) → 1 ≤ j → j ≤ m → Meet (InRange j) lower upper ↔ (gap_in j ≡ 0)
    meet_gap j r l =
        let proper = range_proper (K j) (c.laws j r l) (own j) t (c.proper j r l) (c.row1 j r l) d off in
        let iff = common-gap (K j) (c.laws j r l) (range_in m K weight own t lower j) (range_in m K weight own t upper j)
        (proper lower (inr (part_has s t p lower (has_top s)))) (proper upper (above_node s 1 t p)) in (
          λ meet. iff.0 (record { state = meet.state; in_first = meet.in_first; in_second = meet.in_second }),
          λ e. let common = iff.1 e in
              record { state = common.state; in_first = common.in_first; in_second = common.in_second },
        )

    -- the ranges meet in every character exactly if the gaps add up to 0
    meet_gaps : AllMeet m InRange lower upper ↔ (gaps_between m K weight own t lower upper ≡ 0)
    unfolding gaps_between
    meet_gaps = (
      λ meet. sum_none gap_in (numbers 1 m)
          (λ j i.
          let w = numbers-within 1 m j i in
          let l : j ≤ m = omega (arith, w.1) in
          (meet_gap j w.0 l).0 (meet j w.0 l)),
      λ none j r l. (meet_gap j r l).1
          (let no : gap_in j ≤ 0 =
          sum_tight (λ i. 0) gap_in (numbers 1 m) (λ i k. omega arith) (omega (arith, none)) j (numbers-among 1 m j r (omega arith)) in
          omega arith),
    )

    -- some assignment of least total length gives the branch the length 0
    abbrev Vanishing : Type 0
    Vanishing = CanVanish m (step_in m K weight own t) (OwnIn m K weight own t) t lower upper

    -- that is so exactly if the gaps add up to 0
    vanishing_gaps : Vanishing ↔ (gaps_between m K weight own t lower upper ≡ 0)
    vanishing_gaps =
        let iff = can_vanish_iff m (step_in m K weight own t)
        (λ j r l. metric_weighed (weight j) (c.weighed j r l) (K j).step (c.laws j r l).metric)
        (OwnIn m K weight own t) t d off (state_in m K weight own t) InRange each-fitted s p in
        (λ v. meet_gaps.0 (iff.0 v), λ e. iff.1 (meet_gaps.1 e))

    -- the branch is marked exactly if every assignment of least total length gives it a length of at least 1
    pub marked_forced : (is_marked m K weight own t lower upper ≡ true)
        ↔ ((states : ℕ → ℕ → ℤ) → LeastTotal m (step_in m K weight own t) (OwnIn m K weight own t) t states →
        1 ≤ length_between m (step_in m K weight own t) (OwnIn m K weight own t) t states lower upper)
    unfolding is_marked
    marked_forced = (
      λ e states least. by_cases (dec_le 1 (length_between m (step_in m K weight own t) (OwnIn m K weight own t) t states lower upper))
          (λ h. h)
          (λ h. absurd (omega (
            arith,
            ltb-true 0 (gaps_between m K weight own t lower upper) e,
            vanishing_gaps.0 (record { states = states; is_least = least; none = omega arith }),
          ))),
      λ forced. lt-ltb 0 (gaps_between m K weight own t lower upper)
          (by_cases (dec_le 1 (gaps_between m K weight own t lower upper))
          (λ h. h)
          (λ h.
          let v = vanishing_gaps.1 (omega arith) in
          absurd (omega (arith, forced v.states v.is_least, v.none)))),
    )
