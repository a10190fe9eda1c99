-- The listing of a job, and of a file's bytes.
use mathlib.Core.List.{List, [], ◌∷◌, ◌++◌}
use Rattle.std.specs.Prelude.{ℕ}
use Rattle.matrix_form.specs.Outcomes.{Outcome, value, refused}
use Rattle.file_form.specs.Job.{Job}
use Rattle.file_form.specs.declared.header.Kind.{Kind}
use Rattle.file_form.specs.declared.header.Kind.TheVariants.{Wagner, Own}
use Rattle.file_form.specs.Reading.{read_answer}
use Rattle.difference_form.specs.Rows.{Measure}
use Rattle.prim_form.specs.Network.{network_length}
use Rattle.wagner_form.specs.Build.{wagner_length}
use Rattle.fit_form.specs.Fit.{chosen_state, range, fitted_length, fitted_total, marked}
use Rattle.consistency_form.specs.Floor.{floor}
use Rattle.consistency_form.specs.Index.{index}
use Rattle.listing_form.specs.Lines.{joined}
use Rattle.listing_form.specs.Kinds.{refusal_line}
use Rattle.listing_form.specs.Meant.{measure_meant, links_meant, built_meant, tree_meant, states_meant}
use Rattle.listing_form.specs.Blocks.{PrintedBuild, PrintedTree, lines_of_build, lines_of_tree}

-- the numbers printed of a job's network and build, as change is measured
abbrev pub build_numbers : Measure → Job → PrintedBuild
build_numbers measure job =
    let links = links_meant measure job in
    let built = built_meant measure job in
    record {
      links = links;
      p = network_length links;
      built = built;
      w = wagner_length measure.rows job.n built;
    }

-- the numbers printed of a tree: it is fitted to the job's rows
abbrev pub tree_numbers : Measure → Job → List ℕ → PrintedTree
tree_numbers measure job tree =
    record {
      tree = tree;
      lengths = fitted_length measure.step tree (states_meant job) job.n job.m;
      marks = marked measure.step tree (states_meant job) job.n job.m;
      t = fitted_total measure.step tree (states_meant job) job.n job.m;
      c = index (floor measure.step (states_meant job) job.n job.m) (fitted_total measure.step tree (states_meant job) job.n job.m);
      low = λ v j. (range tree (states_meant job) job.n v j).low;
      high = λ v j. (range tree (states_meant job) job.n v j).high;
      chosen = chosen_state tree (states_meant job) job.n;
    }

-- the lines before those of the tree, by the kind of file: in a `W` file those of the Prim Network and of the build, in an `F` file none
unfoldable pub lines_before : Kind → Measure → Job → List (List ℕ)
lines_before Wagner measure job = lines_of_build job.n job.names (build_numbers measure job)
lines_before Own measure job = []

-- the listing of a job, line by line: last come the lines of the tree that its `T` lines are of
unfoldable pub listing : Measure → Job → List (List ℕ)
listing measure job =
    lines_before job.kind measure job ++ lines_of_tree job.n job.names job.m (tree_numbers measure job (tree_meant measure job))

-- the lines printed for what a file brings
unfoldable pub printed : Outcome Job → List (List ℕ)
printed (value job) = listing (measure_meant job) job
printed (refused number at) = refusal_line number at ∷ []

-- the lines printed for a file's bytes
unfoldable pub listing_of : List ℕ → List (List ℕ)
listing_of file = printed (read_answer file)

-- all that is printed for a file's bytes: its lines, joined
unfoldable pub output : List ℕ → List ℕ
output file = joined (listing_of file)
