-- What is found of a lent matrix and of a tree, and the text that is put for it. No public contract cites this.
use Rattle.std.specs.Prelude.{◌≡◌, true, List, ◌++◌, ℕ, ℤ, length, take}
use Rattle.matrix_form.specs.Shape.{matrix_size, row, MatrixLists}
use Rattle.matrix_form.specs.NodeRows.{rows_of}
use Rattle.matrix_form.specs.Spans.{spans_of}
use Rattle.matrix_form.specs.declared.spans.Span.{Span}
use Rattle.file_form.specs.declared.header.Header.{Header}
use Rattle.file_form.specs.declared.header.Kind.TheVariants.{Own}
use Rattle.file_form.specs.Job.{Job}
use Rattle.file_form.specs.Written.{LentLists, lent}
use Rattle.difference_form.specs.Rows.{Measure, difference, node_difference, weighing}
use Rattle.prim_form.specs.Network.{network}
use Rattle.prim.specs.Calls.{Holds}
use Rattle.branching.specs.declared.tree.Tree.{Tree}
use Rattle.tree_form.specs.Ancestors.{tree_with}
use Rattle.branching.specs.Views.{ancestors}
use Rattle.tree_form.specs.Branches.{ancestors_of, lent_branching}
use Rattle.tree_form.specs.LentNumbers.{records_in}
use Rattle.tree_form.specs.declared.order.Order.{Order}
use Rattle.wagner_form.specs.Build.{wagner_length}
use Rattle.wagner_form.specs.Matrix.{wagner_in}
use Rattle.fit_form.specs.Calls.{FitOf}
use Rattle.fit_form.specs.Fit.{fitted_total}
use Rattle.matrix_form.specs.Shape.{state_at}
use Rattle.consistency_form.specs.Index.{index}
use Rattle.consistency_form.specs.Floor.{floor}
use Rattle.listing_form.specs.Lines.{joined}
use Rattle.listing_form.specs.Blocks.{PrintedTree, network_lines, build_lines, lines_of_tree}
use Rattle.lines.specs.declared.put.Listing.{Listing}
use Rattle.lines.specs.Puts.{Puts}
use Rattle.listing.specs.declared.job.Lists.{Lists}
use Rattle.listing.specs.declared.job.FittedTree.{FittedTree}
use Rattle.listing.specs.declared.job.Results.{Results}
use Rattle.listing_form.specs.Listing.{listing}
use Rattle.listing.specs.Sizes.{SizesWithin}
use Rattle.listing.specs.Handed.{HoldsNames, HoldsPlacements, HoldsStates, length_in, mark_in}

-- the lists that a file is read into
abbrev pub lists_of : Lists → LentLists
lists_of lists = lent lists.matrix lists.weights lists.names lists.branches

-- three lists have the matrix's size
pub record StateLists (low high chosen : List ℤ) : Type 0 where
  pub low_full : length low ≡ matrix_size
  pub high_full : length high ≡ matrix_size
  pub chosen_full : length chosen ≡ matrix_size

-- what was found of a tree by the states of its taxa, as change is measured: its fit, the index of the fit, and its states in three lists
pub record FittedOf
    (measure : Measure)
    (rows : List (List Span))
    (n m : ℕ)
    (tree : List ℕ)
    (low high chosen : List ℤ)
    (r : FittedTree) : Type 0 where
  pub fit : FitOf measure.step tree rows n m r.fit
  pub index : r.index ≡ index (floor measure.step rows n m) (fitted_total measure.step tree rows n m)
  pub states : HoldsStates tree rows n m low high chosen

-- what was found of a lent matrix: its Prim Network, its Wagner tree, and what was found of that tree
pub record ResultsOf (order : Order) (lists : MatrixLists) (n m : ℕ) (low high chosen : List ℤ) (r : Results) : Type 0 where
  pub sizes : SizesWithin n m
  pub network : Holds (network (node_difference (difference lists.weights) (row lists.codes m)) n) r.network
  pub tree : ancestors r.built.tree ≡ (wagner_in order lists n m).tree
  pub placements : HoldsPlacements (wagner_in order lists n m).placements r.built.placements.items r.built.placements.count
  pub whole : r.built.length ≡ wagner_length (difference lists.weights) n (wagner_in order lists n m)
  pub fitted : FittedOf (weighing lists.weights) (spans_of lists m n) n m (ancestors r.built.tree) low high chosen r.fitted

-- the numbers handed in of a tree: its ancestors, its fit with the index, and the states in three lists
abbrev pub handed_tree : Tree → FittedTree → List ℤ → List ℤ → List ℤ → PrintedTree
handed_tree tree r low high chosen = record {
  tree = ancestors tree;
  lengths = length_in r.fit;
  marks = mark_in r.fit;
  t = r.fit.total;
  c = r.index;
  low = state_at low;
  high = state_at high;
  chosen = state_at chosen;
}

module _ (n : ℕ) (names : List (List ℕ)) (m : ℕ) where
  -- the text put for a tree: the lines of what is handed in
  unfoldable pub tree_texts : Tree → FittedTree → List ℤ → List ℤ → List ℤ → List ℕ
  tree_texts tree r low high chosen = joined (lines_of_tree n names m (handed_tree tree r low high chosen))

  -- the lines of network and build, by the first of their links and placements
  unfoldable pub found_lines : Results → List (List ℕ)
  found_lines r =
      network_lines n names (take r.network.links.count r.network.links.items) r.network.total
      ++ build_lines n names (take r.built.placements.count r.built.placements.items) r.built.length

  -- the text put for what was found of a matrix: these lines, and those of the tree
  unfoldable pub result_texts : Results → List ℤ → List ℤ → List ℤ → List ℕ
  result_texts r low high chosen =
      joined (found_lines r ++ lines_of_tree n names m (handed_tree r.built.tree r.fitted low high chosen))

-- the job with this header, these weights, names and ancestors and the taxa's rows of a matrix
abbrev pub held_job : Header → List ℕ → List (List ℕ) → List ℤ → List ℕ → Job
held_job header weights names codes above = record {
  header = header;
  weights = weights;
  names = names;
  rows = rows_of codes header.m header.n;
  ancestors = above;
}

-- a job that lent lists hold: its names, weights that weigh as theirs do, and in an `F` file its branching
pub record HoldsJob (header : Header) (lists : LentLists) (names : List (List ℕ)) (weights above : List ℕ) : Type 0 where
  pub named : HoldsNames header.n names lists.names
  pub weighed : weighing lists.weights ≡ weighing weights
  pub branched : header.kind ≡ Own → ancestors_of header.n (records_in lists.branches) ≡ tree_with above

-- the listing of the job that lent lists hold was put
pub record ListsJob (header : Header) (lists : LentLists) (old new : Listing) : Type 0 where
  pub is : (names : List (List ℕ)) (weights above : List ℕ) → HoldsJob header lists names weights above
      → Puts (joined (listing (weighing weights) (held_job header weights names lists.matrix above))) old new

-- what is asked of a lent branching: that of an `F` file is one
abbrev pub BranchingLent : Header → List ℕ → Type 0
BranchingLent header branches = header.kind ≡ Own → lent_branching header.n (records_in branches) ≡ true
