-- `matrix::questions::ask_codes` meets its contract. The loop's invariant: the codes that are left decide.
use Rattle.std.proofs.Common.{◌≡◌}
use lib.ListN.{drop}
use Rattle.matrix_form.specs.Outcomes.{ask_each}
use Rattle.matrix_form.specs.Questions.{ask_code}
use Rattle.matrix.proofs.questions.ask_codes.Given as goal

abbrev pub invariant-loop-code : goal.invariant-loop-code
invariant-loop-code l = ask_each ask_code l.fn.codes ≡ ask_each ask_code (drop l.code-index l.fn.codes)
