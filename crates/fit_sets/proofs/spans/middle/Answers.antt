-- `fit_sets::spans::middle` meets its contract: the six ends are carried in one by one, the last first. Assumes nothing.
use Rattle.std.proofs.Common.{ℤ, ◌∙◌, ap₂, subst, SFits, to_z-of_z, w32, to_z, of_z}
use borrow.Author.Rules.{sfits_of}
use Rattle.filled.specs.declared.Filled.{Filled}
use Rattle.fit_sets.specs.Steps.{Carried}
use Rattle.matrix_form.specs.Spans.{span}
use Rattle.fit_sets.proofs.Carrying.{middle-carried}
use Rattle.fit_sets.proofs.spans.middle.Goals as goal

-- a state is carried, as its bits are
of_state : (before : Filled ℤ 6) (state : ℤ) (after : Filled ℤ 6) → SFits w32 state → Carried before (to_z w32 (of_z w32 state)) after
    → Carried before state after
of_state before state after fits c = subst (λ (z : ℤ). Carried before z after) (to_z-of_z fits) c

pub returns : goal.returns
returns c =
    ap₂ span (to_z-of_z {w = w32} (sfits_of c.result-1.given)) (to_z-of_z {w = w32} (sfits_of c.result-2-1.given))
    ∙ middle-carried c.args.a c.args.b c.args.c _ _ _ _ _ _ _ c.none-sorted.ensures.count
    (of_state _ _ _ (sfits_of c.struct_told-1.given.1.0.1) c.carry-sorted.ensures)
    (of_state _ _ _ (sfits_of c.struct_told-2-1.given.0.1) c.carry-sorted-2.ensures)
    (of_state _ _ _ (sfits_of c.struct_told-3-1.given.1.0.1) c.carry-sorted-3.ensures)
    (of_state _ _ _ (sfits_of c.struct_told-4-1.given.0.1) c.carry-sorted-4.ensures)
    (of_state _ _ _ (sfits_of c.struct_told-5-1.given.1.0.1) c.carry-sorted-5.ensures)
    (of_state _ _ _ (sfits_of c.struct_told-6-1.given.0.1) c.carry-sorted-6.ensures)
