-- What is found of a lent matrix, by the promises of the calls, and that the text put for it is the listing of a `W` file.
use mathlib.Core.Path.{◌≡◌, sym, ap, ap₂, ◌∙◌, subst}
use mathlib.Core.Bool.{true}
use mathlib.Core.List.{List, ◌++◌}
use Prim.Native.Nat.{ℕ}
use lib.IntN.{ℤ}
use Rattle.matrix_form.specs.NodeRows.{rows_of}
use Rattle.matrix_form.specs.Questions.{LentMatrix, LentWeights}
use Rattle.file_form.specs.Job.{Job}
use Rattle.file_form.specs.declared.header.Kind.TheVariants.{Wagner}
use Rattle.difference_form.specs.Rows.{difference, Measure, weighing}
use Rattle.prim.specs.Calls.{Holds, NetworkOf}
use Rattle.prim.specs.declared.answer.Network.{Network}
use Rattle.branching.specs.Views.{ancestors}
use Rattle.tree_form.specs.Within.{branching_within}
use Rattle.tree_form.proofs.Within.{branching-plain}
use Rattle.tree_form.specs.declared.order.Order.{Order}
use Rattle.wagner.specs.declared.answer.WagnerTree.{WagnerTree}
use Rattle.wagner_form.specs.Build.{Built, wagner, wagner_length}
use Rattle.wagner_form.specs.Matrix.{matrix_after, wagner_in}
use Rattle.wagner.specs.Calls.{BuiltFrom, TreeBuilt}
use Rattle.wagner.proofs.StillLent.{still_lent, same-states}
use Rattle.rivals.proofs.Lent.{same-network}
use Rattle.listing.proofs.Built.{built-whole}
use Rattle.listing_form.specs.Lines.{joined}
use Rattle.listing_form.specs.Blocks.{build_lines, lines_of_build}
use Rattle.listing_form.specs.Meant.{order_meant, links_meant, built_meant, states_meant}
use Rattle.file_form.specs.Written.{names_in}
use Rattle.listing.specs.declared.job.FittedTree.{FittedTree}
use Rattle.listing.specs.declared.job.Results.{Results}
use Rattle.listing_form.specs.Listing.{build_numbers, listing}
use Rattle.listing.specs.Handed.{HoldsNames, HoldsPlacements}
use Rattle.listing.specs.Sizes.{SizesWithin}
use Rattle.listing.specs.Found.{FittedOf, ResultsOf, found_lines, result_texts}
use Rattle.listing_form.proofs.Parts.{built-listing}
use Rattle.listing.proofs.HandedTexts.{network_text, build_text}
use Rattle.listing.proofs.FittedTrees.{tree_put}
use Rattle.matrix_form.specs.Shape.{MatrixLists, matrix_of, with_codes}
use Rattle.matrix_form.specs.Spans.{singles, spans_of}

-- what was found of a matrix, for a job of a `W` file with its rows and the names that lent bytes hold
module _ (job : Job) (kind : job.kind ≡ Wagner) (codes : List ℤ) (rows : job.rows ≡ rows_of codes job.m job.n) (lent_weights : List ℕ)
    (low high chosen : List ℤ) (r : Results)
    (found : ResultsOf (order_meant job.order) (matrix_of codes lent_weights) job.n job.m low high chosen r)
    (lent : List ℕ) (named : HoldsNames job.n job.names lent) where
  -- the numbers of taxa and characters
  abbrev n : ℕ
  n = job.n

  abbrev m : ℕ
  m = job.m

  -- change as it was measured
  abbrev measure : Measure
  measure = weighing lent_weights

  -- the matrix's own Wagner tree is the job's
  same-build : wagner_in (order_meant job.order) (matrix_of codes lent_weights) n m ≡ built_meant measure job
  unfolding wagner_in
  same-build = ap (wagner measure.rows (order_meant job.order) n) (sym rows)

  -- the links held are those of the job's network
  links-held : Holds (links_meant measure job) r.network
  links-held = rw (rows, same-network (matrix_of codes lent_weights) n m) found.network

  -- the lines of network and build
  lines_put : found_lines n (names_in n lent) m r ≡ lines_of_build n job.names (build_numbers measure job)
  unfolding found_lines lines_of_build
  lines_put =
      ap₂ ◌++◌ (network_text n job.names lent named (links_meant measure job) r.network links-held)
      (build_text n job.names lent named (built_meant measure job).placements _ _ r.built.length
      (subst (λ (built : Built). HoldsPlacements built.placements r.built.placements.items r.built.placements.count) same-build found.placements)
      ∙ ap (build_lines n job.names (built_meant measure job).placements) (found.whole ∙ ap (wagner_length (difference lent_weights) n) same-build))

  -- the tree listed is the one built
  same-tree : ancestors r.built.tree ≡ (built_meant measure job).tree
  same-tree = found.tree ∙ ap (λ (built : Built). built.tree) same-build

  -- its taxa have the states that the job says
  same-said : spans_of (matrix_of codes lent_weights) m n ≡ states_meant job
  unfolding spans_of
  same-said = sym (ap singles rows)

  -- the whole text is the listing of the job
  pub results_listed : result_texts n (names_in n lent) m r low high chosen ≡ joined (listing measure job)
  unfolding result_texts
  results_listed =
      ap joined
      (ap₂ ◌++◌ lines_put
      (tree_put measure job r.built.tree (built_meant measure job).tree same-tree low high chosen r.fitted (rw same-said at found.fitted) lent named)
      ∙ sym (built-listing measure job kind))

-- n and m of a lent matrix are within their limits
pub lent-sizes : (codes : List ℤ) (n m : ℕ) → LentMatrix codes n m → SizesWithin n m
lent-sizes codes n m lent = record { some = lent.taxon; taxa = lent.taxa; characters = lent.characters }

-- what the network, the build and the fit of the tree built promise of a lent matrix
module _ (order : Order) (lists : MatrixLists) (after : List ℤ) (n m : ℕ) (lent : LentMatrix lists.codes n m)
    (weighed : LentWeights lists.weights m) (links : Network) (linked : NetworkOf lists n m links)
    (built : WagnerTree) (tree_built : TreeBuilt order lists after n m built) where
  -- the build is that of a lent matrix
  abbrev done : BuiltFrom order lists after n m built
  done = tree_built.is lent weighed

  -- the tree is its Wagner tree
  found_tree : ancestors built.tree ≡ (wagner_in order lists n m).tree
  found_tree = done.tree

  -- with its placements
  found_placements : HoldsPlacements (wagner_in order lists n m).placements built.placements.items built.placements.count
  found_placements = record { list = done.placements; count = done.count }

  -- and its length
  found_length : built.length ≡ wagner_length (difference lists.weights) n (wagner_in order lists n m)
  found_length = done.whole

  -- the matrix then
  found_matrix : after ≡ matrix_after lists.codes n (wagner_in order lists n m)
  found_matrix = done.matrix

  -- the tree is a branching
  pub found_branching : branching_within n (ancestors built.tree) ≡ true
  found_branching = branching-plain n (ancestors built.tree) lent.taxa ∙ built-whole order lists after n m built done

  -- the matrix is still a lent one
  pub found_lent : LentMatrix after n m
  found_lent = rw found_matrix (still_lent order lists n m lent)

  -- the taxa have the same states in it
  found_states : spans_of (with_codes lists after) m n ≡ spans_of lists m n
  found_states = ap (λ (all : List ℤ). spans_of (with_codes lists all) m n) found_matrix ∙ same-states order lists n m lent

  -- what was found
  pub results_found : (low high chosen : List ℤ) (fitted : FittedTree)
      → FittedOf (weighing lists.weights) (spans_of (with_codes lists after) m n) n m (ancestors built.tree) low high chosen fitted
      → ResultsOf order lists n m low high chosen (record { network = links; built = built; fitted = fitted })
  unfolding wagner_in
  results_found low high chosen fitted of = record {
    sizes = lent-sizes lists.codes n m lent;
    network = linked.is lent weighed;
    tree = found_tree;
    placements = found_placements;
    whole = found_length;
    fitted = rw found_states at of;
  }
