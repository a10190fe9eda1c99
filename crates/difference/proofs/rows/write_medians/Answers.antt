-- What the check leaves of `difference::rows::write_medians`.
use mathlib.Core.Path.{◌≡◌, refl, ap, ◌∙◌}
use mathlib.Core.List.{List}
use Prim.Native.Nat.{ℕ, ◌+◌, ◌<◌, min}
use native.Mathlib.Numerals.{add-one}
use native.Mathlib.Omega.{arith}
use borrow.Author.Rules.{sfits_of}
use lib.IntN.{ℤ, pos}
use lib.ListN.{length, get_or, take, set, length-take}
use mir.Syntax.{w32}
use mir.Facts.{to_z-of_z}
use Rattle.lists.specs.Over.{over}
use Rattle.lists.proofs.Over.{over-snoc, over-part}
use Rattle.difference_form.specs.Rows.{median, medians}
use Rattle.difference_form.proofs.Laws.Rows.{medians_take_suc, length-medians}
use Rattle.difference_form.proofs.Laws.Parts.{medians-take}
use Rattle.difference.proofs.rows.write_medians.Goals as goal

-- one character more
one_more : (j : ℕ) (xs ys zs out old : List ℤ) (code : ℤ) → j < length xs → j < length ys → j < length zs
    → out ≡ over 0 (medians (take j xs) (take j ys) (take j zs)) old
    → code ≡ median (get_or xs j (pos 0)) (get_or ys j (pos 0)) (get_or zs j (pos 0))
    → set out j code ≡ over 0 (medians (take (j + 1) xs) (take (j + 1) ys) (take (j + 1) zs)) old
one_more j xs ys zs out old code hx hy hz e m =
    let written : List ℤ = medians (take j xs) (take j ys) (take j zs) in
    let next : ℤ = median (get_or xs j (pos 0)) (get_or ys j (pos 0)) (get_or zs j (pos 0)) in
    let place : j ≡ 0 + length written =
    omega (arith, length-medians (take j xs) (take j ys) (take j zs), length-take j xs, length-take j ys, length-take j zs) in
    rw (add-one, medians_take_suc j xs ys zs hx hy hz, e, m)
    (ap (λ k. set (over 0 written old) k next) place ∙ over-snoc 0 written old next)

-- past the shortest of the four nothing is written
finish : (count : ℕ) (xs ys zs old : List ℤ) → count ≡ min (length old) (min (length xs) (min (length ys) (length zs)))
    → over 0 (medians (take count xs) (take count ys) (take count zs)) old ≡ over 0 (medians xs ys zs) old
finish count xs ys zs old e =
    ap (λ ms. over 0 ms old) (medians-take count xs ys zs)
    ∙ over-part 0 count (medians xs ys zs) old (omega (arith, length-medians xs ys zs))

pub loop-j-init : goal.loop-j-init
unfolding medians over
loop-j-init c = refl

pub loop-j-preserved : goal.loop-j-preserved
loop-j-preserved c =
    let j = c.loop-j.j in
    let given = c.args in
    let in-x : j < length given.xs.now = omega arith in
    let in-y : j < length given.ys.now = omega arith in
    let in-z : j < length given.zs.now = omega arith in
    one_more j given.xs.now given.ys.now given.zs.now c.loop-j.out given.out.now _ in-x in-y in-z c.loop-j.invariant
    (to_z-of_z {w = w32} (sfits_of c.median.type_inv)
    ∙ rw (
      to_z-of_z {w = w32} (sfits_of c.median-arg-1.given),
      to_z-of_z {w = w32} (sfits_of c.median-arg-in-loop-j-1.given),
      to_z-of_z {w = w32} (sfits_of c.median-arg-in-loop-j-2-1.given),
    ) at c.median.ensures)

pub returns : goal.returns
returns c =
    let end : c.loop-j.j ≡ c.min-count.result = omega arith in
    rw end at c.loop-j.invariant ∙ finish _ _ _ _ _ (omega arith)
