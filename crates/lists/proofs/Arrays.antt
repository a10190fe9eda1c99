-- Arrays that a closure makes from the indices, which computes a function and stays as it is.
use mathlib.Core.Path.{◌≡◌, sym, subst, ◌∙◌}
use mathlib.Core.List.{List, map}
use Prim.Native.Nat.{ℕ, zero, suc, ◌+◌, ◌<◌}
use native.Mathlib.Nat.{add-zero, zero-add}
use native.Mathlib.Omega.{arith}
use denote.Param.Members.{Mut}
use lib.ListN.{get_or}
use lib.Seq.{ext_get_or}
use Rattle.std.specs.Array.{IsFromFnResult, IsFromFnResultFrom}
use Rattle.std.specs.Fn.{Called}
use Rattle.lists.specs.Numbers.{numbers}
use Rattle.lists.proofs.Numbers.{length_map_numbers, map-numbers}

-- one place further
further : (i k : ℕ) → i + 1 + k ≡ i + suc k
further i k = omega arith

module _ {F B : Type 0} (g : Mut F (ℕ × Unit {0}) B) (f : F) (h : ℕ → B)
    (each : (i : ℕ) (y : B) (q : F) → Called g f (i, tt) y q → (q ≡ f) × (y ≡ h i)) where
  -- what stands at an index is the function's value there
  made_at : (ys : List B) (none : B) (i n : ℕ) → IsFromFnResultFrom g f ys i n → (k : ℕ) → k < n → get_or ys (i + k) none ≡ h (i + k)
  made_at ys none i zero t k b = absurd (omega arith)
  made_at ys none i (suc n) t zero b = rw add-zero (t.2.1 none ∙ (each i t.1 t.0 t.3).1)
  made_at ys none i (suc n) t (suc k) b =
      let rest = subst (λ (p : F). IsFromFnResultFrom g p ys (i + 1) n) (each i t.1 t.0 t.3).0 t.4 in
      rw (further i k) at (made_at ys none (i + 1) n rest k (omega arith))

  -- an array by `from_fn`: the function's values at 0, 1, ..
  pub from_fn_is : (ys : List B) (none : B) (n : ℕ) → IsFromFnResult g f ys n → ys ≡ map h (numbers 0 n)
  from_fn_is ys none n made =
      ext_get_or none ys (map h (numbers 0 n)) (made.long ∙ sym (length_map_numbers h 0 n)) λ i b.
      rw zero-add at (made_at ys none 0 n made.each i (rw made.long at b)) ∙ sym (rw zero-add at (map-numbers h none 0 n i (rw made.long at b)))
