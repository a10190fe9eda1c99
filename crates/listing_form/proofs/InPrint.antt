-- The claim about the three rivals, for the numbers that are printed: one theorem to hold beside the output of the program.
use mathlib.Core.Path.{◌≡◌, refl, sym, ap, ◌∙◌}
use mathlib.Core.Bool.{true}
use mathlib.Core.List.{List}
use mathlib.Core.Logic.{◌↔◌}
use Prim.Native.Nat.{ℕ, ◌*◌, ◌-◌, ◌≤◌, ◌<◌}
use native.Mathlib.Omega.{arith}
use Rattle.matrix_form.specs.Shape.{last_node}
use Rattle.matrix_form.specs.Outcomes.{value}
use Rattle.file_form.specs.Job.{Job}
use Rattle.file_form.specs.declared.header.Kind.TheVariants.{Wagner, Own}
use Rattle.file_form.specs.Reading.{read_answer}
use Rattle.file_form.proofs.File.Accepted.{accepted_exactly}
use Rattle.tree_form.specs.Ancestors.{tree_with}
use Rattle.tree_form.specs.Growing.{branching}
use Rattle.tree_form.specs.RowLengths.{length_under}
use Rattle.wagner_form.specs.Build.{Built, wagner_length}
use Rattle.fit_form.specs.Fit.{fitted_length, fitted_total}
use Rattle.consistency_form.proofs.Division.{index_is}
use Rattle.rivals.specs.Demand.{NoRivalDoesBetter}
use Rattle.rivals.proofs.Floor.{floor_of_every_file}
use Rattle.rivals.proofs.Own.{own-branching}
use Rattle.rivals.proofs.InWords.{for_every_file}
use Rattle.listing_form.specs.Lines.{joined}
use Rattle.listing_form.specs.Meant.{order_meant, measure_meant, built_meant, tree_for}
use Rattle.listing_form.specs.Blocks.{PrintedTree}
use Rattle.listing_form.specs.Listing.{build_numbers, tree_numbers, listing, printed, output}
use Rattle.listing_form.specs.InPrint.{BuildLeast, TreeLeast, NoRivalInPrint, OwnInPrint}
use Rattle.listing_form.proofs.Parts.{built-listing, own-listing}
use Rattle.listing_form.proofs.Totals.{wagner-total}
use Rattle.listing_form.proofs.Printed.{output-printed}

-- a file that a read accepts
module _ (file : List ℕ) (job : Job) (e : read_answer file ≡ value job) where
  -- no rival does better
  claim : NoRivalDoesBetter (measure_meant job) job.n job.m job.rows
  claim = for_every_file file job e

  -- of any branching no rival does better than the numbers that its lines print
  tree_least : (tree : List ℕ) → branching job.n tree ≡ true → TreeLeast job (tree_numbers (measure_meant job) job tree)
  unfolding fitted_total fitted_length
  tree_least tree whole =
      let fit = claim.fit tree whole in
      record {
        whole = whole;
        assigns = fit.assigns;
        t_length = refl;
        branch_lengths = λ v. refl;
        branch_marks = fit.marks;
        no_states_shorter = fit.least;
        c_index = index_is _ _;
        floor_lowest = floor_of_every_file file job e;
        range_exactly = λ v j s a b d f.
            let node : 1 ≤ v = omega arith in
            let last : v ≤ last_node job.n = unfold last_node in omega arith in
            let exactly = fit.ranges v j s node last d f in
            (λ between. exactly.0 (record { from_low = between.0; to_high = between.1 }), λ o. let inside = exactly.1 o in (inside.from_low, inside.to_high));
      }

  -- of network and build none does
  build_least : BuildLeast job (build_numbers (measure_meant job) job)
  unfolding wagner_length length_under
  build_least =
      record {
        connected = claim.network.ours;
        link_lengths = claim.network.link_lengths;
        p_length = claim.network.length;
        no_network_shorter = claim.network.least;
        no_hanging_adds_less = claim.build (order_meant job.order);
        w_length = refl;
        w_sum = sym (wagner-total job ((accepted_exactly file job).0 e).0);
      }

  -- what is printed for it is its job's listing
  listed : output file ≡ joined (listing (measure_meant job) job)
  unfolding printed
  listed = output-printed file (value job) e

  -- for every `W` file, no rival does better than the numbers that its listing prints
  pub no_rival_in_print : job.kind ≡ Wagner → NoRivalInPrint file job
  unfolding tree_for
  no_rival_in_print kind =
      record {
        built = build_numbers (measure_meant job) job;
        tree = tree_numbers (measure_meant job) job (built_meant (measure_meant job) job).tree;
        lines = listed ∙ ap joined (built-listing (measure_meant job) job kind);
        is_network = refl;
        is_built = refl;
        is_tree = sym (ap (λ k. tree_for k (measure_meant job) job) kind);
        build_least = build_least;
        tree_least = tree_least (built_meant (measure_meant job) job).tree (claim.whole (order_meant job.order));
      }

  -- for every `F` file, no rival over inner states does better on its own branching
  pub own_in_print : job.kind ≡ Own → OwnInPrint file job
  unfolding tree_for
  own_in_print kind =
      record {
        tree = tree_numbers (measure_meant job) job (tree_with job.ancestors);
        lines = listed ∙ ap joined (own-listing (measure_meant job) job kind);
        is_tree = sym (ap (λ k. tree_for k (measure_meant job) job) kind);
        tree_least = tree_least (tree_with job.ancestors) (own-branching job ((accepted_exactly file job).0 e).0 kind);
      }

-- of the numbers printed of a tree: a `T` line has the mark `+` exactly if the length beside it is above 0
pub plus_above_zero : (job : Job) (x : PrintedTree) → TreeLeast job x → (v : ℕ) → 2 ≤ v → v ≤ 2 * job.n - 2
    → (x.marks v ≡ true) ↔ (0 < x.lengths v)
plus_above_zero job x least v first last = rw (least.branch_lengths v) (least.branch_marks v first last).plus

-- the tree of the `T` lines of a `W` file is the one whose placements are its `W` lines
pub tree_of_build : (file : List ℕ) (job : Job) → job.kind ≡ Wagner → (x : NoRivalInPrint file job) → x.tree.tree ≡ x.built.built.tree
unfolding tree_for
tree_of_build file job kind x =
    x.is_tree ∙ ap (λ k. tree_for k (measure_meant job) job) kind ∙ sym (ap (λ (built : Built). built.tree) x.is_built)

-- and that of an `F` file is the file's own branching
pub tree_of_file : (file : List ℕ) (job : Job) → job.kind ≡ Own → (x : OwnInPrint file job) → x.tree.tree ≡ tree_with job.ancestors
unfolding tree_for
tree_of_file file job kind x = x.is_tree ∙ ap (λ k. tree_for k (measure_meant job) job) kind
