-- One taxon: no network, no tree, no HTU. Whatever its name, its codes and their number, the listing is `p 0`, `w 0`, `t 0`, and `c`
-- with two hyphens; that of an `F` file is `t 0` and this `c`.
use mathlib.Core.Path.{◌≡◌, refl}
use mathlib.Core.List.{[], ◌∷◌, flat_map}
use Prim.Native.Nat.{ℕ}
use Rattle.lists.specs.Sums.{sum_over}
use Rattle.lists.specs.Numbers.{numbers}
use Rattle.lists.specs.Filters.{keep}
use Rattle.difference_form.specs.Rows.{Measure}
use Rattle.file_form.specs.Job.{Job}
use Rattle.file_form.specs.declared.header.Kind.{Kind}
use Rattle.file_form.specs.declared.header.Kind.TheVariants.{Wagner, Own}
use Rattle.prim_form.specs.Network.{network, network_length, grow}
use Rattle.tree_form.specs.Nodes.{nodes_in, other_nodes}
use Rattle.tree_form.specs.Branches.{tree_length}
use Rattle.tree_form.specs.RowLengths.{length_under}
use Rattle.wagner_form.specs.Build.{wagner, wagner_length, build, build_on}
use Rattle.fit_form.specs.Assignments.{total}
use Rattle.fit_form.specs.Fit.{fitted_total}
use Rattle.consistency_form.specs.Index.{index}
use Rattle.std.specs.Prelude.{None}
use Rattle.listing_form.specs.Kinds.{total_line, index_line}
use Rattle.listing_form.specs.Meant.{tree_for}
use Rattle.listing_form.specs.Blocks.{network_lines, build_lines, fitted_lines, state_lines, lines_of_build, lines_of_tree}
use Rattle.listing_form.specs.Listing.{lines_before, listing}

-- a job of another kind and number of taxa
abbrev pub with_taxa : Kind → ℕ → Job → Job
with_taxa kind n job = record job { header = record job.header { kind = kind; n = n } }

-- one taxon: three totals of 0, and no index
pub one-taxon : (measure : Measure) (job : Job)
    → listing measure (with_taxa Wagner 1 job) ≡ total_line "p" 0 ∷ total_line "w" 0 ∷ total_line "t" 0 ∷ index_line None ∷ []
unfolding listing lines_before tree_for lines_of_build lines_of_tree network_lines build_lines fitted_lines state_lines index network network_length grow wagner
    wagner_length build build_on length_under tree_length nodes_in other_nodes numbers keep sum_over fitted_total total flat_map
one-taxon measure job = refl

-- of an `F` file: a total of 0, and no index
pub own-taxon : (measure : Measure) (job : Job) → listing measure (with_taxa Own 1 job) ≡ total_line "t" 0 ∷ index_line None ∷ []
unfolding listing lines_before tree_for lines_of_tree fitted_lines state_lines index other_nodes numbers sum_over fitted_total total flat_map
own-taxon measure job = refl
