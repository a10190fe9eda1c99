-- A list whose rest from an index on begins with a known item.
use mathlib.Core.Path.{◌≡◌, sym, ap, ◌∙◌}
use mathlib.Core.List.{List, ◌∷◌}
use Prim.Native.Nat.{ℕ, ◌+◌, ◌<◌}
use native.Mathlib.Numerals.{add-one}
use native.Mathlib.Omega.{arith}
use lib.ListN.{length, get_or, drop, length-drop}
use lib.Seq.{drop-cons}

-- a list whose rest from j on begins with x: x stands at j, and the others behind it
module _ {A : Type 0} (xs : List A) (j : ℕ) (x : A) (others : List A) (e : drop j xs ≡ x ∷ others) where
  -- j is an index of the list
  pub rest_below : j < length xs
  rest_below = omega (arith, ap length e, length-drop j xs)

  -- x stands there
  pub rest_at : (d : A) → get_or xs j d ≡ x
  rest_at d = ap (λ rest. get_or rest 0 d) (sym (drop-cons xs j d rest_below) ∙ e)

  -- the others stand behind it
  pub rest-next : drop (j + 1) xs ≡ others
  rest-next = ap (λ k. drop k xs) (add-one j) ∙ ap (drop 1) (sym (drop-cons xs j x rest_below) ∙ e)
