-- What the chains over two rows yield, and how much the sum of few small numbers can be.
use mathlib.Core.Path.{◌≡◌}
use mathlib.Core.List.{List}
use Prim.Native.Nat.{ℕ, ◌≤◌, ◌<◌, ◌+◌, ◌-◌, ◌*◌, ◌/◌}
use native.Mathlib.Nat.{mul-div_cancel_left}
use native.Mathlib.Omega.{arith}
use lib.IntN.{ℤ}
use lib.ListN.{length}
use Rattle.std.proofs.Common.{Iter, Option, fold}
use denote.Param.Members.{Mut}
use Rattle.std.specs.Fn.{Called}
use Rattle.std.specs.Iterator.Runs.{WholeRun}
use Rattle.std.proofs.lemmas.Iterator.Adapters.{YieldsAtMost, fits_from_length, at_most_from_yields_List}
use Rattle.std.proofs.lemmas.Iterator.Consumers.{YieldsList-at}
use Rattle.std.proofs.lemmas.Slice.Zip.{length-zip}
use Rattle.std.proofs.iter.Yields.{fronts}
use Rattle.std.proofs.lemmas.Iterator.{YieldsList, zips, YieldsList-from_slice, YieldsList-from_zip}
use Rattle.std.specs.List.{zip}
use Rattle.std.specs.Slice.Iter.{iter_rest}
use Rattle.std.specs.Iterator.Adapters.{map_source, map_callee, map_steps, zip_first, zip_second}
use Rattle.std.specs.declared.iter.Zip.{Zip}
use Rattle.std.specs.declared.iter.Map.{Map}

-- what goes through two rows and their weights yields the pairs of their codes, each with its weight
pub pairs_yielded : {s t : Zip (Zip (Iter ℤ) (Iter ℤ)) (Iter ℕ)} → s ≡ t → (xs ys : List ℤ) (weights : List ℕ)
    → iter_rest (zip_first (zip_first t)) ≡ xs → iter_rest (zip_second (zip_first t)) ≡ ys → iter_rest (zip_second t) ≡ weights
    → YieldsList (zips (zips fronts fronts) fronts) (λ p. ((p.0.0.now, p.0.1.now), p.1.now)) s (zip (zip xs ys) weights)
pairs_yielded e xs ys weights first second third =
    YieldsList-at e
    (YieldsList-from_zip (YieldsList-from_zip (YieldsList-from_slice xs first) (YieldsList-from_slice ys second)) (YieldsList-from_slice weights third))

-- and as many at most as the first row has codes
pub pairs_few : {s t : Zip (Zip (Iter ℤ) (Iter ℤ)) (Iter ℕ)} → s ≡ t → (xs ys : List ℤ) (weights : List ℕ)
    → iter_rest (zip_first (zip_first t)) ≡ xs → iter_rest (zip_second (zip_first t)) ≡ ys → iter_rest (zip_second t) ≡ weights
    → (n : ℕ) → length xs ≤ n → YieldsAtMost (zips (zips fronts fronts) fronts) s n
pairs_few e xs ys weights first second third n few =
    at_most_from_yields_List (pairs_yielded e xs ys weights first second third) (omega (arith, few, length-zip (zip xs ys) weights, length-zip xs ys))

-- a sum over mapped items, of which there are at most n and none is mapped to more than a bound
pub sum_bounded : {S A F : Type 0} {steps : S → Option A → S → Type 0} {g : Mut F (A × Unit {0}) ℕ} (s : Map S F) (f : F) (n bound r : ℕ)
    → WholeRun (map_steps steps g) s (λ p. r ≡ fold (λ a x. a + x) 0 p.items)
    → YieldsAtMost steps (map_source s) n → map_callee s ≡ f
    → ((x : A) (y : ℕ) (q : F) → Called g f (x, tt) y q → (q ≡ f) × (y ≤ bound)) → 0 < n → r ≤ n * bound
sum_bounded {g = g} s f n bound r whole few closure each some =
    let less : n * bound + 1 - 1 ≡ n * bound = omega arith in
    let most : (n * bound + 1 - 1) / n ≡ bound = rw less (mul-div_cancel_left bound some) in
    let below =
    fits_from_length {s = s} g f n (n * bound + 1) few closure (omega arith) (λ x y q k. let h = each x y q k in (h.0, rw most h.1))
    whole.0 whole.0.seen whole.1 in
    omega (arith, whole.3, below)
