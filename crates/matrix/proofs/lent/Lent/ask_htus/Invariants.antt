-- `matrix::lent::Lent::ask_htus` meets its contract. The loop's invariant: the nodes that are left decide.
use Rattle.std.proofs.Common.{◌≡◌}
use lib.ListN.{drop}
use Rattle.matrix_form.specs.Outcomes.{ask_each}
use Rattle.matrix.specs.Lent.{lent_lists}
use Rattle.matrix_form.specs.Questions.{ask_htu}
use Rattle.matrix.proofs.lent.Lent.ask_htus.Given as goal

abbrev pub invariant-loop-v : goal.invariant-loop-v
invariant-loop-v l =
    ask_each (ask_htu (lent_lists l.fn.self) l.fn.self.n l.fn.self.m) l.fn.nodes
    ≡ ask_each (ask_htu (lent_lists l.fn.self) l.fn.self.n l.fn.self.m) (drop l.v-index l.fn.nodes)
