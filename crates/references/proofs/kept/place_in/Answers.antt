-- `references::kept::place_in` meets its contract.
use Rattle.std.proofs.Common.{rules, ◌≡◌, Err}
use Rattle.branching.specs.declared.placement.NotPlaced.{NotPlaced}
use Rattle.branching.specs.Calls.{placement_says}
use Rattle.tree_form.proofs.Mapped.{mapped_err}
use Rattle.references.proofs.KeptLaws.{refused_stays}
use Rattle.references.proofs.kept.place_in.Goals as goal

pub returns-in_err-placed : goal.returns-in_err-placed
unfolding placement_says
returns-in_err-placed c =
    let told = mapped_err {E = NotPlaced} _ _ c.map_err.result c.map_err.ensures.cases _ c.in_err-placed.was in
    let why : c.in_err-placed.field-0.0 ≡ told.0.refusal = search (rules, told.2) in
    let handed : c.from_residual.result ≡ Err c.in_err-placed.field-0.0 = search rules in
    let done = rw told.1 at c.place.ensures in
    rw (handed, why) (record { says = done.says; tree = refused_stays _ _ _ _ _ _ done.says; matrix = done.matrix })
