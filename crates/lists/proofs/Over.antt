-- Laws of writing over a list: its length, its elements, its parts, and one element more.
use mathlib.Core.Path.{◌≡◌, refl, sym, ap, ap₂, ◌∙◌}
use mathlib.Core.List.{List, [], ◌∷◌, ◌++◌, append-nil}
use Prim.Native.Nat.{ℕ, zero, suc, ◌+◌, ◌-◌, ◌≤◌, ◌<◌, min}
use mathlib.Core.Logic.{by_cases}
use native.Mathlib.Decide.{dec_le}
use native.Mathlib.Nat.{zero-add, suc-add, min-eq_right}
use native.Mathlib.Numerals.{add-one}
use native.Mathlib.Omega.{arith}
use borrow.Rule.Slice.PartMut.{put_mid, Post-is}
use lib.ListN.{length, get_or, take, drop, set, length-take, length-drop}
use lib.Seq.{take_all, drop-length, take-suc, take_at, drop_at, length-take-le}
use Rattle.lists.specs.Over.{over}

module _ {A : Type 0} where
  -- the list keeps its length
  pub length_over : (place : ℕ) (xs old : List A) → length (over place xs old) ≡ length old
  unfolding over
  length_over zero [] old = refl
  length_over zero (x ∷ xs) [] = refl
  length_over zero (x ∷ xs) (o ∷ old) = ap suc (length_over zero xs old)
  length_over (suc place) xs [] = refl
  length_over (suc place) xs (o ∷ old) = ap suc (length_over place xs old)

  -- what is written stands there
  pub over-inside : (none : A) (place : ℕ) (xs old : List A) (i : ℕ) → i < length xs → place + i < length old
      → get_or (over place xs old) (place + i) none ≡ get_or xs i none
  unfolding over
  over-inside none zero [] old i h room = absurd (omega arith)
  over-inside none zero (x ∷ xs) [] i h room = absurd (omega arith)
  over-inside none zero (x ∷ xs) (o ∷ old) zero h room = refl
  over-inside none zero (x ∷ xs) (o ∷ old) (suc i) h room =
      rw zero-add (rw zero-add at (over-inside none zero xs old i (omega arith) (omega arith)))
  over-inside none (suc place) xs [] i h room = absurd (omega arith)
  over-inside none (suc place) xs (o ∷ old) i h room = rw (suc-add place i) (over-inside none place xs old i h (omega arith))

  -- what stands before it stays
  pub over-before : (none : A) (place : ℕ) (xs old : List A) (i : ℕ) → i < place → get_or (over place xs old) i none ≡ get_or old i none
  unfolding over
  over-before none zero xs old i h = absurd (omega arith)
  over-before none (suc place) xs [] i h = refl
  over-before none (suc place) xs (o ∷ old) zero h = refl
  over-before none (suc place) xs (o ∷ old) (suc i) h = over-before none place xs old i (omega arith)

  -- and what stands behind it
  pub over-behind : (none : A) (place : ℕ) (xs old : List A) (i : ℕ) → place + length xs ≤ i
      → get_or (over place xs old) i none ≡ get_or old i none
  unfolding over
  over-behind none zero [] old i h = refl
  over-behind none zero (x ∷ xs) [] i h = refl
  over-behind none zero (x ∷ xs) (o ∷ old) zero h = absurd (omega arith)
  over-behind none zero (x ∷ xs) (o ∷ old) (suc i) h = over-behind none zero xs old i (omega arith)
  over-behind none (suc place) xs [] i h = refl
  over-behind none (suc place) xs (o ∷ old) zero h = absurd (omega arith)
  over-behind none (suc place) xs (o ∷ old) (suc i) h = over-behind none place xs old i (omega arith)

  -- so all stays that is not written over
  pub over-else : (none : A) (place : ℕ) (xs old : List A) (i : ℕ) → (place ≤ i → i < place + length xs → ⊥)
      → get_or (over place xs old) i none ≡ get_or old i none
  over-else none place xs old i outside =
      by_cases (dec_le place i)
      (λ from.
      over-behind none place xs old i
      (by_cases (dec_le (place + length xs) i) (λ behind. behind) (λ less. absurd (outside from (omega arith)))))
      (λ before. over-before none place xs old i (omega arith))

  -- where it fits: the front of the list, what is written, and the rest behind it
  pub over-fits : (place : ℕ) (xs old : List A) → place + length xs ≤ length old
      → over place xs old ≡ take place old ++ (xs ++ drop (place + length xs) old)
  unfolding over
  over-fits zero [] old h = refl
  over-fits zero (x ∷ xs) [] h = absurd (omega arith)
  over-fits zero (x ∷ xs) (o ∷ old) h = rw zero-add (ap (λ rest. x ∷ rest) (rw zero-add at (over-fits zero xs old (omega arith))))
  over-fits (suc place) xs [] h = absurd (omega arith)
  over-fits (suc place) xs (o ∷ old) h = rw (suc-add place (length xs)) (ap (λ rest. o ∷ rest) (over-fits place xs old (omega arith)))

  -- the same where a part of the list is exchanged for as many items
  pub over-part_put : (place count : ℕ) (xs old : List A) → length xs ≡ count → place + count ≤ length old
      → put_mid place (place + count - place) old xs ≡ over place xs old
  over-part_put place count xs old e h =
      rw (Post-is place (place + count) old (omega arith), sym e) (sym (over-fits place xs old (omega arith)))

  -- and there it is read back
  pub over_item : (place : ℕ) (xs old : List A) → place + length xs ≤ length old → take (length xs) (drop place (over place xs old)) ≡ xs
  over_item place xs old h =
      let rest : List A = drop (place + length xs) old in
      ap (λ (all : List A). take (length xs) (drop place all)) (over-fits place xs old h)
      ∙ ap (take (length xs)) (drop_at (take place old) (xs ++ rest) place (length-take-le place old (omega arith)))
      ∙ take_at xs rest (length xs) refl

  -- nothing written leaves the list
  pub over_nothing : (place : ℕ) (old : List A) → over place [] old ≡ old
  unfolding over
  over_nothing zero old = refl
  over_nothing (suc place) [] = refl
  over_nothing (suc place) (o ∷ old) = ap (λ rest. o ∷ rest) (over_nothing place old)

  -- nor does what would stand beyond its end
  over-beyond : (place : ℕ) (xs old : List A) → length old ≤ place → over place xs old ≡ old
  unfolding over
  over-beyond zero [] old h = refl
  over-beyond zero (x ∷ xs) [] h = refl
  over-beyond zero (x ∷ xs) (o ∷ old) h = absurd (omega arith)
  over-beyond (suc place) xs [] h = refl
  over-beyond (suc place) xs (o ∷ old) h = ap (λ rest. o ∷ rest) (over-beyond place xs old (omega arith))

  -- an index beyond the end may stand for the end
  pub over-least : (place : ℕ) (xs old : List A) → over (min (length old) place) xs old ≡ over place xs old
  over-least place xs old =
      by_cases
      (dec_le place (length old))
      (λ within. ap (λ (k : ℕ). over k xs old) (min-eq_right within))
      (λ out.
      let beyond : length old ≤ place = omega arith in
      over-beyond (min (length old) place) xs old (omega arith) ∙ sym (over-beyond place xs old beyond))

  -- one element more is written
  pub over-snoc : (place : ℕ) (xs old : List A) (x : A) → set (over place xs old) (place + length xs) x ≡ over place (xs ++ (x ∷ [])) old
  unfolding over
  over-snoc zero [] [] x = refl
  over-snoc zero [] (o ∷ old) x = unfold over in refl
  over-snoc zero (y ∷ xs) [] x = refl
  over-snoc zero (y ∷ xs) (o ∷ old) x = rw zero-add (ap (λ rest. y ∷ rest) (rw zero-add at (over-snoc zero xs old x)))
  over-snoc (suc place) xs [] x = refl
  over-snoc (suc place) xs (o ∷ old) x = rw (suc-add place (length xs)) (ap (λ rest. o ∷ rest) (over-snoc place xs old x))

  -- an element written before others is the first of them
  pub over-cons : (place : ℕ) (x : A) (xs old : List A) → over (suc place) xs (over place (x ∷ []) old) ≡ over place (x ∷ xs) old
  unfolding over
  over-cons zero x xs [] = refl
  over-cons zero x xs (o ∷ old) = refl
  over-cons (suc place) x xs [] = refl
  over-cons (suc place) x xs (o ∷ old) = ap (λ rest. o ∷ rest) (over-cons place x xs old)

  -- the next element of a list that is written one by one
  pub over-more : (none : A) (place : ℕ) (xs old : List A) (i : ℕ) → i < length xs
      → set (over place (take i xs) old) (place + i) (get_or xs i none) ≡ over place (take (i + 1) xs) old
  over-more none place xs old i h =
      ap (λ k. set (over place (take i xs) old) (place + k) (get_or xs i none)) (sym written)
      ∙ over-snoc place (take i xs) old (get_or xs i none)
      ∙ ap (λ ys. over place ys old) (sym (take-suc xs i none h) ∙ ap (λ k. take k xs) (sym (add-one i)))
    where
      written : length (take i xs) ≡ i
      written = omega (arith, length-take i xs)

  -- only as much is written as the list has room for
  pub over-part : (place k : ℕ) (xs old : List A) → min (length old - place) (length xs) ≤ k
      → over place (take k xs) old ≡ over place xs old
  unfolding over
  over-part zero zero [] old h = refl
  over-part zero (suc k) [] old h = refl
  over-part zero zero (x ∷ xs) [] h = refl
  over-part zero (suc k) (x ∷ xs) [] h = refl
  over-part zero zero (x ∷ xs) (o ∷ old) h = absurd (omega arith)
  over-part zero (suc k) (x ∷ xs) (o ∷ old) h = ap (λ rest. x ∷ rest) (over-part zero k xs old (omega arith))
  over-part (suc place) k xs [] h = refl
  over-part (suc place) k xs (o ∷ old) h = ap (λ rest. o ∷ rest) (over-part place k xs old (omega arith))

  -- behind its end nothing is written
  pub over_past : (place : ℕ) (xs old : List A) → length old ≤ place → over place xs old ≡ old
  over_past place xs old h = sym (over-part place 0 xs old (omega arith)) ∙ over_nothing place old

  -- the part of a list from an index on, written over from its front and put back
  pub over-rest : (place : ℕ) (xs old : List A) → place ≤ length old → take place old ++ over 0 xs (drop place old) ≡ over place xs old
  unfolding over
  over-rest zero xs old h = refl
  over-rest (suc place) xs [] h = absurd (omega arith)
  over-rest (suc place) xs (o ∷ old) h = ap (λ rest. o ∷ rest) (over-rest place xs old (omega arith))

  -- the same as a call leaves it that was lent the part from an index on
  pub over-lent : (place : ℕ) (xs old : List A) → place ≤ length old
      → put_mid place (length old - place) old (over 0 xs (take (length old - place) (drop place old))) ≡ over place xs old
  over-lent place xs old h =
      ap₂ (λ part rest. take place old ++ (over 0 xs part ++ rest))
      (take_all (length old - place) (drop place old) (omega (arith, length-drop place old)))
      (Post-is place (length old) old h ∙ drop-length old)
      ∙ ap (λ rest. take place old ++ rest) (append-nil (over 0 xs (drop place old)))
      ∙ over-rest place xs old h
