-- `matrix::questions::in_range` meets its contract: the two tests together are the definition's one, by the code's sign.
use mathlib.Core.Path.{◌≡◌, refl, sym, ◌∙◌}
use mathlib.Core.Bool.{◌&&◌}
use Rattle.std.proofs.Math.Bool.{and-true}
use lib.Dec.{leb, leb-suc-suc}
use lib.IntN.{ℤ, pos, negsuc}
use lib.Signed.{le_z}
use mir.Facts.{to_z-of_z}
use Rattle.matrix_form.specs.Shape.{in_range}
use Rattle.lists.proofs.Between.{int_between}
use Rattle.matrix.proofs.questions.in_range.Goals as goal

-- from -999 to 999 is at most 999 from zero
within : (code : ℤ) → (le_z (negsuc 998) code && le_z code (pos 999)) ≡ in_range code
unfolding in_range
within (pos n) = refl
within (negsuc n) = and-true (leb n 998) ∙ sym (leb-suc-suc n 998)

pub returns : goal.returns
returns c =
    int_between c.new.result (negsuc 998) (pos 999) c.args.code c.new.ensures.start c.new.ensures.end c.new.ensures.exhausted
    (rw (to_z-of_z c.ranges.code) at c.contains.ensures.value)
    ∙ within c.args.code
