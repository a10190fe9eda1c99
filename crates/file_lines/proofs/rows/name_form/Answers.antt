-- `file_lines::rows::name_form` meets its contract: each answer follows from the tests that led to it.
use Rattle.std.proofs.Common.{rules, tests}
use Rattle.std.proofs.lemmas.Iterator.{YieldsList-from_slice}
use Rattle.std.proofs.lemmas.Iterator.Search.{all_from_yields_List}
use mathlib.Core.Path.{ap, ◌∙◌}
use Rattle.std.specs.List.{list_all}
use Rattle.text_form.proofs.FirstPart.{piece_to_end}
use borrow.Author.Tests.{lt-leb}
use Rattle.text_form.specs.Bytes.{in_name}
use Rattle.file_form.specs.Job.{name_size}
use Rattle.file_lines.proofs.NameForm.{empty, long, no_letter, others_decide}
use Rattle.file_lines.proofs.rows.name_form.Goals as goal

pub returns-in_default : goal.returns-in_default
returns-in_default c = empty _ c.in_default.len_below

pub returns-then-is_ascii_alphabetic : goal.returns-then-is_ascii_alphabetic
returns-then-is_ascii_alphabetic c =
    others_decide _ c.in-len1-up.len_at_least c.if-name-le-NAME_SIZE.true _ c.is_ascii_alphabetic.ensures.value c.if-is_ascii_alphabetic.true _
    (all_from_yields_List in_name _ _ _ c.all.ensures.ran (YieldsList-from_slice _ c.iter.ensures.rest) (λ x b q k. search (rules, tests))
    ∙ ap (list_all in_name) (piece_to_end 1 c.args.name.now))

pub returns-else-is_ascii_alphabetic : goal.returns-else-is_ascii_alphabetic
returns-else-is_ascii_alphabetic c =
    no_letter _ c.in-len1-up.len_at_least c.if-name-le-NAME_SIZE.true _ c.is_ascii_alphabetic.ensures.value c.if-is_ascii_alphabetic.false

pub returns-else-name-le-NAME_SIZE : goal.returns-else-name-le-NAME_SIZE
returns-else-name-le-NAME_SIZE c = lt-leb _ name_size c.if-name-le-NAME_SIZE.false ∙ long _ c.in-len1-up.len_at_least c.if-name-le-NAME_SIZE.false
