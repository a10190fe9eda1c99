-- `references::written::write_branches` meets its contract.
use Rattle.std.proofs.Common.{sym, ◌∙◌, ◌≡◌, length}
use Rattle.std.proofs.lemmas.Result.{err_from_is_err_and}
use Rattle.tree_form.specs.Asking.{branches_size}
use Rattle.references.proofs.Recording.{other_size, written_refused, written_passed}
use Rattle.references.proofs.written.write_branches.Goals as goal

pub returns-in_default : goal.returns-in_default
returns-in_default c = written_refused _ _ _ _ _ _ (other_size _ _ _ _ _ c.in_default.ensures.1)

pub returns-in_err-ask_records : goal.returns-in_err-ask_records
returns-in_err-ask_records c =
    let told = err_from_is_err_and c.from_residual.result c.from_residual.ensures.1 in
    let size : length c.args.out.now ≡ branches_size = c.in-Ok.ensures.1.long in
    rw told.1
    (written_refused _ _ _ _ c.args.out.now told.0 (rw (size, told.2) (sym c.ask_records.ensures ∙ c.in_err-ask_records.was)))

pub returns : goal.returns
returns c =
    let size : length c.args.out.now ≡ branches_size = c.in-Ok.ensures.1.long in
    let lent = c.in-Ok.ensures.1.same in
    written_passed _ _ _ _ _ _ size (sym c.ask_records.ensures ∙ c.in_ok-ask_records.was)
    (c.copy_from_slice.ensures.after ∙ rw lent at c.branches.ensures)
