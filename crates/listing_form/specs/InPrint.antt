-- Demand 3 for what is printed (document 01, "The three rivals"): the numbers that the listing of an accepted file prints, and that no
-- rival does better than they say; with the index of its tree and the claim about the floor (document 02, M-102), and for a file with its
-- own branching (M-103).
use Rattle.std.specs.Prelude.{◌≡◌, ◌↔◌, true, ℕ, ◌*◌, ◌-◌, ◌≤◌, ◌<◌, ℤ, ◌≤ℤ◌}
use mathlib.Core.List.{List, ◌++◌, Memᴰ}
use Rattle.lists.specs.Sums.{sum_over}
use Rattle.matrix_form.specs.NodeRows.{row_of}
use Rattle.file_form.specs.Job.{Job}
use Rattle.difference_form.specs.Rows.{node_difference}
use Rattle.prim_form.specs.Network.{Link}
use Rattle.prim_form.specs.Rival.{Connected, link_ends, links_length}
use Rattle.tree_form.specs.declared.placement.Placement.{Placement}
use Rattle.tree_form.specs.Growing.{branching}
use Rattle.tree_form.specs.RowLengths.{length_under}
use Rattle.fit_form.specs.Assignments.{branch_length, total, IsAssignment, Occurs}
use Rattle.fit_form.specs.Marks.{MarkMeans}
use Rattle.consistency_form.specs.Floor.{floor, FloorNeverPasses}
use Rattle.consistency_form.specs.Index.{IsIndex}
use Rattle.rivals.specs.Demand.{BuildIsLeast}
use Rattle.listing_form.specs.Lines.{joined}
use Rattle.listing_form.specs.Meant.{order_meant, measure_meant, links_meant, built_meant, tree_meant, states_meant}
use Rattle.listing_form.specs.Blocks.{PrintedBuild, PrintedTree, lines_of_build, lines_of_tree}
use Rattle.listing_form.specs.Listing.{output}

-- of the numbers of network and build this holds
pub record BuildLeast (job : Job) (printed : PrintedBuild) : Type 0 where
  -- the `P` lines are a connected network of the taxa, each as long as its two taxa differ, all together of length `p`, and no connected
  -- network of the taxa is shorter
  pub connected : Connected job.n (link_ends printed.links)
  pub link_lengths : (l : Link) → Memᴰ l printed.links
      → l.length ≡ node_difference (measure_meant job).rows (row_of job.rows) l.taxon l.joined
  pub p_length : links_length (node_difference (measure_meant job).rows (row_of job.rows)) (link_ends printed.links) ≡ printed.p
  pub no_network_shorter : (rival : List (ℕ × ℕ)) → Connected job.n rival
      → printed.p ≤ links_length (node_difference (measure_meant job).rows (row_of job.rows)) rival
  -- each `W` line but the first is a hanging of its taxon of which none adds less, and in the order `closest` none of any taxon that is not
  -- placed; `w` is the length of the tree with the rows so made, and the sum of the lengths that the `W` lines add
  pub no_hanging_adds_less : BuildIsLeast (order_meant job.order) (measure_meant job).rows job.n job.m job.rows printed.built
  pub w_length : length_under (measure_meant job).rows job.n printed.built.tree printed.built.rows ≡ printed.w
  pub w_sum : sum_over (λ (placement : Placement). placement.added) printed.built.placements ≡ printed.w

-- of the numbers of a fitted tree this holds
pub record TreeLeast (job : Job) (printed : PrintedTree) : Type 0 where
  -- the tree is a branching of all taxa; the chosen states are an assignment, of total `t`, whose branches have the lengths of the `T`
  -- lines
  pub whole : branching job.n printed.tree ≡ true
  pub assigns : IsAssignment (states_meant job) job.n job.m printed.chosen
  pub t_length : total (measure_meant job).step printed.tree job.n job.m printed.chosen ≡ printed.t
  pub branch_lengths : (v : ℕ) → printed.lengths v ≡ branch_length (measure_meant job).step printed.tree job.m printed.chosen v
  -- the mark of each `T` line says of the chosen states what a mark says
  pub branch_marks : (v : ℕ) → 2 ≤ v → v ≤ 2 * job.n - 2
      → MarkMeans (measure_meant job).step printed.tree (states_meant job) job.n job.m printed.chosen v (printed.marks v)
  -- no assignment has a lower total
  pub no_states_shorter : (rival : ℕ → ℕ → ℤ) → IsAssignment (states_meant job) job.n job.m rival
      → printed.t ≤ total (measure_meant job).step printed.tree job.n job.m rival
  -- the line `c` gives quotient and remainder of 1000 times the floor, divided by `t`; no total of any branching is below the floor
  pub c_index : IsIndex (floor (measure_meant job).step (states_meant job) job.n job.m) printed.t printed.c
  pub floor_lowest : FloorNeverPasses (measure_meant job).step (states_meant job) job.n job.m
  -- a state lies from the lowest to the highest of an `H` line exactly if the HTU has it in some assignment of least length
  pub range_exactly : (v j : ℕ) (s : ℤ) → job.n < v → v ≤ 2 * job.n - 2 → 1 ≤ j → j ≤ job.m
      → ((printed.low v j ≤ℤ s) × (s ≤ℤ printed.high v j))
      ↔ Occurs (measure_meant job).step printed.tree (states_meant job) job.n job.m v j s

-- the listing of a `W` file that says a job prints the numbers of the network, the build and the tree that are meant, and nothing else
pub record NoRivalInPrint (file : List ℕ) (job : Job) : Type 0 where
  pub built : PrintedBuild
  pub tree : PrintedTree
  pub lines : output file ≡ joined (lines_of_build job.n job.names built ++ lines_of_tree job.n job.names job.m tree)
  pub is_network : built.links ≡ links_meant (measure_meant job) job
  pub is_built : built.built ≡ built_meant (measure_meant job) job
  pub is_tree : tree.tree ≡ tree_meant (measure_meant job) job
  pub build_least : BuildLeast job built
  pub tree_least : TreeLeast job tree

-- that of an `F` file prints the numbers of the tree that is meant, and nothing else: rivals over inner states are measured on it
pub record OwnInPrint (file : List ℕ) (job : Job) : Type 0 where
  pub tree : PrintedTree
  pub lines : output file ≡ joined (lines_of_tree job.n job.names job.m tree)
  pub is_tree : tree.tree ≡ tree_meant (measure_meant job) job
  pub tree_least : TreeLeast job tree
