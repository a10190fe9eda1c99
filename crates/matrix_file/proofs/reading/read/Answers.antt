-- `matrix_file::reading::read` meets its contract: a refusal is that of the questions and leaves the lists as they were; what is written is
-- the job's.
use mathlib.Core.Path.{refl, sym, ap, ◌∙◌}
use Rattle.std.proofs.lemmas.Result.{err_from_is_err_and}
use mathlib.Core.Bool.{not}
use Rattle.file_form.specs.Calls.{read_says}
use Rattle.file_form.proofs.Lists.Sizes.{sizes_told}
use Rattle.matrix_file.proofs.Lists.ReadWalk.{read_unsized, read_refused, read_written}
use Rattle.matrix_file.proofs.reading.read.Goals as goal

pub returns-then-ne : goal.returns-then-ne
returns-then-ne c = read_unsized _ _ _ refl (sizes_told _ _ _ _ _ c.ne.ensures ∙ ap not c.if-ne.true)

pub returns-in_err-header : goal.returns-in_err-header
returns-in_err-header c =
    let told = err_from_is_err_and c.from_residual.result c.from_residual.ensures.1 in
    rw (told.1, told.2)
    (read_refused _ _ (sizes_told _ _ _ _ _ c.ne.ensures ∙ ap not c.if-ne.false) _ c.ask_file.ensures _ c.in_err-header.was)

pub write_job-requires : goal.write_job-requires
write_job-requires c =
    record {
      answered = sym (ap read_says c.in_ok-header.was) ∙ c.ask_file.ensures;
      full_sizes = sizes_told _ _ _ _ _ c.ne.ensures ∙ ap not c.if-ne.false;
    }

pub returns : goal.returns
returns c =
    read_written _ _ (sizes_told _ _ _ _ _ c.ne.ensures ∙ ap not c.if-ne.false) _ c.ask_file.ensures _ c.in_ok-header.was _ c.write_job.ensures
