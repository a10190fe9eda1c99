-- `matrix::lent::Lent::ask_rows` meets its contract. The loop's invariant: the rows that are left decide.
use Rattle.std.proofs.Common.{◌≡◌, ◌-◌}
use Rattle.lists.specs.Numbers.{numbers}
use Rattle.matrix_form.specs.Outcomes.{ask_each}
use Rattle.matrix.specs.Lent.{lent_lists}
use Rattle.matrix_form.specs.Questions.{ask_row_of}
use Rattle.matrix.proofs.lent.Lent.ask_rows.Given as goal

abbrev pub invariant-loop-v : goal.invariant-loop-v
invariant-loop-v l =
    ask_each (ask_row_of (lent_lists l.fn.self) l.fn.self.m) (numbers l.fn.first (l.fn.end - l.fn.first))
    ≡ ask_each (ask_row_of (lent_lists l.fn.self) l.fn.self.m) (numbers l.v (l.fn.end - l.v))
