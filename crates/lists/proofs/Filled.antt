-- Laws of a list filled up to a size.
use mathlib.Core.Path.{◌≡◌, refl, sym, ◌∙◌}
use mathlib.Core.List.{List, [], ◌∷◌, ◌++◌, append_assoc}
use Prim.Native.Nat.{ℕ, zero, suc, ◌-◌, ◌≤◌, ◌<◌}
use native.Mathlib.Omega.{arith}
use lib.ListN.{length, get_or, take, replicate, set, length-append, length-replicate}
use lib.Seq.{set_at, take_at}
use Rattle.lists.specs.Filled.{filled}

module _ {A : Type 0} (none : A) where
  -- of equal elements, each is that one, and so is what stands behind them
  pub get_d_replicate : (count i : ℕ) → get_or (replicate count none) i none ≡ none
  get_d_replicate zero i = refl
  get_d_replicate (suc count) zero = refl
  get_d_replicate (suc count) (suc i) = get_d_replicate count i

  -- elements of a list with equal ones behind it
  padded : (xs : List A) (count i : ℕ) → get_or (xs ++ replicate count none) i none ≡ get_or xs i none
  padded [] count i = get_d_replicate count i
  padded (x ∷ xs) count zero = refl
  padded (x ∷ xs) count (suc i) = padded xs count i

  -- each element has its place, and `none` stands behind them
  pub filled_at : (size : ℕ) (xs : List A) (i : ℕ) → get_or (filled size none xs) i none ≡ get_or xs i none
  unfolding filled
  filled_at size xs i = padded xs (size - length xs) i

  -- the first elements are the list
  pub filled-first : (size count : ℕ) (xs : List A) → count ≡ length xs → take count (filled size none xs) ≡ xs
  unfolding filled
  filled-first size count xs e = take_at xs (replicate (size - length xs) none) count (sym e)

  -- it has its size
  pub length-filled : (size : ℕ) (xs : List A) → length xs ≤ size → length (filled size none xs) ≡ size
  unfolding filled
  length-filled size xs h = length-append xs (replicate (size - length xs) none) ∙ simp length-replicate (omega arith)

  -- one element more is stored behind the others
  pub filled-snoc : (size count : ℕ) (xs : List A) (x : A) → count ≡ length xs → count < size
      → set (filled size none xs) count x ≡ filled size none (xs ++ (x ∷ []))
  unfolding filled
  filled-snoc size count xs x e room =
      let more : size - length xs ≡ suc (size - length (xs ++ (x ∷ []))) = simp length-append (omega arith) in
      rw (append_assoc xs (x ∷ []) (replicate (size - length (xs ++ (x ∷ []))) none), more)
      (set_at xs none (replicate (size - length (xs ++ (x ∷ []))) none) x count (sym e))
