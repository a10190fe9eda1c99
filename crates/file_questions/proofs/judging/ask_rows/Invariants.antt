-- `file_questions::judging::ask_rows` meets its contract. The loop's invariant: the rows that are left decide.
use Rattle.file_questions.proofs.Rows.RowsWalk.{RowsLeft}
use Rattle.file_questions.proofs.judging.ask_rows.Given as goal

abbrev pub invariant-loop-done : goal.invariant-loop-done
invariant-loop-done l = RowsLeft l.fn.rows l.header l.fn.first l.names l.rest l.done
