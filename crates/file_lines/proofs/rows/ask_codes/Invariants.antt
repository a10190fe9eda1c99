-- `file_lines::rows::ask_codes` meets its contract. The loop's invariant: the codes that are left decide.
use mathlib.Core.Path.{◌≡◌}
use lib.ListN.{length, drop}
use Rattle.text_form.specs.Lines.{fields_of}
use Rattle.file_form.specs.Rows.{ask_codes}
use Rattle.file_lines.proofs.rows.ask_codes.Given as goal

abbrev pub invariant-loop-field : goal.invariant-loop-field
invariant-loop-field l =
    (goal.iterator-loop-field).can_next l.field-iterator
    × (goal.iterator-loop-field).is_finite l.field-iterator
    × (ask_codes (drop 1 (fields_of l.fn.line)) ≡ ask_codes (drop (length l.yielded) (drop 1 (fields_of l.fn.line))))
