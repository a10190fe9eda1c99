-- What a file means: which order of placing line 1 says (document 02, M-100), how change is measured by the weights of its `V` line
-- (M-101), and of which network, build and tree its listing is.
use Rattle.std.specs.Prelude.{Option, None, Some, ℕ}
use mathlib.Core.List.{List}
use Rattle.matrix_form.specs.NodeRows.{row_of}
use Rattle.matrix_form.specs.Spans.{singles}
use Rattle.matrix_form.specs.declared.spans.Span.{Span}
use Rattle.tree_form.specs.declared.order.Order.{Order}
use Rattle.tree_form.specs.Ancestors.{tree_with}
use Rattle.file_form.specs.Job.{Job}
use Rattle.file_form.specs.declared.header.Kind.{Kind}
use Rattle.file_form.specs.declared.header.Kind.TheVariants.{Wagner, Own}
use Rattle.difference_form.specs.Rows.{Measure, node_difference, weighing}
use Rattle.prim_form.specs.Network.{Link, network}
use Rattle.wagner_form.specs.Build.{Built, wagner}

-- the order that the word says; without a word the order by advancement
abbrev pub order_meant : Option Order → Order
order_meant None = Order.Advance
order_meant (Some order) = order

-- the measure of a job: by its weights, which are all 1 where no `V` line says them
abbrev pub measure_meant : Job → Measure
measure_meant job = weighing job.weights

-- the states that a job says its taxa may have: their codes
abbrev pub states_meant : Job → List (List Span)
states_meant job = singles job.rows

-- the links that a job's `P` lines are of, as change is measured: those of its Prim Network
abbrev pub links_meant : Measure → Job → List Link
links_meant measure job = network (node_difference measure.rows (row_of job.rows)) job.n

-- the build that a job's `W` lines are of
abbrev pub built_meant : Measure → Job → Built
built_meant measure job = wagner measure.rows (order_meant job.order) job.n job.rows

-- the tree that the `T` lines are of, and with them `t`, `c` and the `H` lines, by the kind of file: in a `W` file the tree built, in an
-- `F` file its own branching
unfoldable pub tree_for : Kind → Measure → Job → List ℕ
tree_for Wagner measure job = (built_meant measure job).tree
tree_for Own measure job = tree_with job.ancestors

-- the tree that a job's `T` lines are of
abbrev pub tree_meant : Measure → Job → List ℕ
tree_meant measure job = tree_for job.kind measure job
