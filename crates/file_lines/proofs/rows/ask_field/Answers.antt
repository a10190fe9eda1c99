-- `file_lines::rows::ask_field` meets its contract: the form decides, and then the code.
use mathlib.Core.Path.{ap, ◌∙◌}
use mir.Facts.{to_z-of_z}
use mir.Syntax.{w32}
use Rattle.std.proofs.Common.{rules}
use Rattle.matrix_form.specs.Questions.{ask_code}
use Rattle.file_lines.proofs.CodesWalk.{bad_form, code_decides}
use Rattle.file_lines.proofs.rows.ask_field.Goals as goal

pub returns-in_default : goal.returns-in_default
returns-in_default c = bad_form _ c.in_default.ensures

pub returns : goal.returns
returns c = code_decides _ _ c.in-Some.ensures _ (c.ask_code.ensures ∙ ap ask_code (to_z-of_z {w = w32} (search rules)))
