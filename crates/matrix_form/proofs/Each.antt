-- Laws of a question put to each item of a list: the first "no" ends them, they pass exactly if each passes, and what a loop over the items
-- or over numbers knows.
use Rattle.std.specs.Prelude.{Ok, Err}
use mathlib.Core.Path.{◌≡◌, refl, sym, ap, ◌∙◌}
use mathlib.Core.List.{List, [], ◌∷◌, ◌++◌, Memᴰ}
use mathlib.Core.List.Memᴰ
use mathlib.Core.Logic.{◌↔◌, ⊎_elim}
use Prim.Native.Nat.{ℕ, suc, ◌+◌, ◌-◌, ◌≤◌, ◌<◌}
use native.Mathlib.Numerals.{add-one}
use native.Mathlib.Omega.{arith}
use lib.ListN.{length, get_or, drop, drop_of_length-le}
use lib.Seq.{drop-cons}
use Rattle.lists.specs.Numbers.{numbers}
use Rattle.matrix_form.specs.Outcomes.{Asked, and_then, ask_each}
use Rattle.matrix_form.specs.declared.refusal.Refusal.{Refusal}

-- earlier questions that pass, with those that follow: both pass
pub and_then_passed : (first rest : Asked) → and_then first rest ≡ Ok tt → (first ≡ Ok tt) × (rest ≡ Ok tt)
and_then_passed (Ok _) rest e = (refl, e)
and_then_passed (Err r) rest e = cc

-- questions one behind the other, in two ways
and_then-assoc : (a b c : Asked) → and_then a (and_then b c) ≡ and_then (and_then a b) c
and_then-assoc (Ok _) b c = refl
and_then-assoc (Err r) b c = refl

module _ {A : Type 0} (question : A → Asked) where
  -- an item that is refused refuses those from it on
  pub each-refused : (item : A) (items : List A) (refusal : Refusal) → question item ≡ Err refusal → ask_each question (item ∷ items)
      ≡ Err refusal
  unfolding ask_each
  each-refused item items refusal e = rw e

  -- behind one that passes the others decide
  pub each_next : (item : A) (items : List A) → question item ≡ Ok tt → ask_each question (item ∷ items) ≡ ask_each question items
  unfolding ask_each
  each_next item items e = rw e

  -- of two lists one after the other the second is asked where the first passes
  pub each_append : (xs ys : List A) → ask_each question (xs ++ ys) ≡ and_then (ask_each question xs) (ask_each question ys)
  unfolding ask_each
  each_append [] ys = refl
  each_append (x ∷ xs) ys =
      ap (and_then (question x)) (each_append xs ys) ∙ and_then-assoc (question x) (ask_each question xs) (ask_each question ys)

  -- they pass exactly if each passes
  pub each_iff : (items : List A) → (ask_each question items ≡ Ok tt) ↔ ((x : A) → Memᴰ x items → question x ≡ Ok tt)
  unfolding ask_each
  each_iff [] = (λ e x m. absurd (Memᴰ.not-nil m), λ h. refl)
  each_iff (y ∷ ys) = (
    λ e x m. let both = and_then_passed (question y) (ask_each question ys) e in
        ⊎_elim (λ p. rw p both.0) ((each_iff ys).0 both.1 x) (Memᴰ.cases_cons m),
    λ h. each_next y ys (h y (Memᴰ.head refl)) ∙ (each_iff ys).1 (λ x m. h x (Memᴰ.tail m)),
  )

  -- a loop over the items, behind `count` of them, where those that are left decide
  module _ (items : List A) (count : ℕ) (left : ask_each question items ≡ ask_each question (drop count items)) where
    -- its turn
    module _ (item none : A) (below : count < length items) (is : item ≡ get_or items count none) where
      -- this item and those behind it
      these : ask_each question items ≡ ask_each question (item ∷ drop (count + 1) items)
      these =
          left
          ∙ ap (ask_each question) (drop-cons items count none below)
          ∙ ap (λ k. ask_each question (get_or items count none ∷ drop k items)) (sym (add-one count))
          ∙ ap (λ x. ask_each question (x ∷ drop (count + 1) items)) (sym is)

      -- the item is refused
      pub turn-refused : (refusal : Refusal) → question item ≡ Err refusal → Err refusal ≡ ask_each question items
      turn-refused refusal e = sym (these ∙ each-refused item (drop (count + 1) items) refusal e)

      -- it passes
      pub turn_passed : question item ≡ Ok tt → ask_each question items ≡ ask_each question (drop (count + 1) items)
      turn_passed e = these ∙ each_next item (drop (count + 1) items) e

    -- no item is left
    pub turns_ended : length items ≤ count → Ok tt ≡ ask_each question items
    unfolding ask_each
    turns_ended past = sym (left ∙ ap (ask_each question) (drop_of_length-le items past))

-- a loop over the numbers from `first` to below `end`, at v, where those from v on decide
module _ (question : ℕ → Asked) (first v end : ℕ)
    (left : ask_each question (numbers first (end - first)) ≡ ask_each question (numbers v (end - v))) where
  -- its turn
  module _ (below : v < end) where
    -- v and the numbers behind it
    these_numbers : ask_each question (numbers first (end - first)) ≡ ask_each question (v ∷ numbers (v + 1) (end - (v + 1)))
    unfolding numbers
    these_numbers =
        let one : end - v ≡ suc (end - (v + 1)) = omega arith in
        left
        ∙ ap (λ k. ask_each question (numbers v k)) one
        ∙ ap (λ (next : ℕ). ask_each question (v ∷ numbers next (end - (v + 1)))) (sym (add-one v))

    -- v is refused
    pub number-refused : (refusal : Refusal) → question v ≡ Err refusal → Err refusal ≡ ask_each question (numbers first (end - first))
    number-refused refusal e = sym (these_numbers ∙ each-refused question v _ refusal e)

    -- it passes
    pub number_passed : question v ≡ Ok tt
        → ask_each question (numbers first (end - first)) ≡ ask_each question (numbers (v + 1) (end - (v + 1)))
    number_passed e = these_numbers ∙ each_next question v _ e

  -- no number is left
  pub numbers_ended : end ≤ v → Ok tt ≡ ask_each question (numbers first (end - first))
  unfolding ask_each numbers
  numbers_ended past =
      let none : end - v ≡ 0 = omega arith in
      sym (left ∙ ap (λ (k : ℕ). ask_each question (numbers v k)) none)
