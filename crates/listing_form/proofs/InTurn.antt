-- Texts of items put in turn: of numbers in a row, and of the items of a list.
use mathlib.Core.Path.{◌≡◌, sym, ap, ◌∙◌}
use mathlib.Core.List.{List, [], ◌++◌, flat_map}
use Prim.Native.Nat.{ℕ, suc, ◌+◌, ◌-◌, ◌≤◌, ◌<◌}
use native.Mathlib.Numerals.{add-one}
use native.Mathlib.Omega.{arith}
use lib.ListN.{length, get_or, drop, drop_of_length-le}
use lib.Seq.{drop-cons}
use Rattle.lists.specs.Numbers.{numbers}

module _ (f : ℕ → List ℕ) where
  -- the texts of the numbers from k to before the end: that of k, and those from k + 1
  pub next_of : (k end : ℕ) → k < end → flat_map f (numbers k (end - k)) ≡ f k ++ flat_map f (numbers (k + 1) (end - (k + 1)))
  unfolding flat_map numbers
  next_of k end h =
      let count : end - k ≡ suc (end - (k + 1)) = omega arith in
      ap (λ size. flat_map f (numbers k size)) count ∙ ap (λ first. f k ++ flat_map f (numbers first (end - (k + 1)))) (sym (add-one k))

  -- none of them at the end
  pub none_of : (k end : ℕ) → end ≤ k → flat_map f (numbers k (end - k)) ≡ []
  unfolding flat_map numbers
  none_of k end h =
      let count : end - k ≡ 0 = omega arith in
      ap (λ size. flat_map f (numbers k size)) count

module _ {A : Type 0} (f : A → List ℕ) (xs : List A) (k : ℕ) where
  -- the texts of the items from place k on: that of the item at k, and those from k + 1 on
  pub next_item : (x : A) → k < length xs → x ≡ get_or xs k x → flat_map f (drop k xs) ≡ f x ++ flat_map f (drop (k + 1) xs)
  unfolding flat_map
  next_item x place item =
      ap (flat_map f) (drop-cons xs k x place)
      ∙ ap (λ y. f y ++ flat_map f (drop (suc k) xs)) (sym item)
      ∙ ap (λ i. f x ++ flat_map f (drop i xs)) (sym (add-one k))

  -- none of them behind the last
  pub none_left : length xs ≤ k → flat_map f (drop k xs) ≡ []
  unfolding flat_map
  none_left past = ap (flat_map f) (drop_of_length-le xs past)
