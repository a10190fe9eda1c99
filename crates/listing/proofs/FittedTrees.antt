-- What is found of a tree by a lent matrix, by the promises of the calls, and that the lines put for it are those of its numbers.
use mathlib.Core.Path.{◌≡◌, ap, ap₂, ◌∙◌, subst}
use mathlib.Core.Bool.{true}
use mathlib.Core.List.{List}
use Prim.Native.Nat.{ℕ}
use native.Mathlib.Omega.{arith}
use lib.IntN.{ℤ}
use Rattle.std.specs.Prelude.{Option}
use Rattle.matrix_form.specs.Spans.{spans_of}
use Rattle.matrix_form.specs.Questions.{LentMatrix, LentWeights}
use Rattle.file_form.specs.Job.{Job}
use Rattle.difference_form.specs.Rows.{Measure, weighing}
use Rattle.branching.specs.declared.tree.Tree.{Tree}
use Rattle.tree_form.specs.Ancestors.{ancestor}
use Rattle.branching.specs.Views.{ancestors}
use Rattle.tree_form.specs.Within.{branching_within}
use Rattle.fit_form.specs.Calls.{Low, High, Chosen}
use Rattle.fitting.specs.Lists.{TreeFitted}
use Rattle.fit_form.specs.Fit.{states_in}
use Rattle.fit_form.specs.declared.whole.Fit.{Fit}
use Rattle.matrix_form.specs.Shape.{state_at, MatrixLists}
use Rattle.fitting.proofs.Handed.{state_written}
use Rattle.consistency_form.specs.declared.index.Index.{Index}
use Rattle.consistency_form.specs.Index.{index}
use Rattle.consistency.specs.Steps.{FloorOf}
use Rattle.consistency.specs.Steps.{IndexOf}
use Rattle.consistency.proofs.Columns.{floor-most}
use Rattle.listing_form.specs.Blocks.{lines_of_tree}
use Rattle.listing_form.specs.Meant.{states_meant}
use Rattle.listing_form.specs.Listing.{tree_numbers}
use Rattle.listing_form.proofs.SameLines.{tree_same}
use Rattle.file_form.specs.Written.{names_in}
use Rattle.listing.specs.declared.job.FittedTree.{FittedTree}
use Rattle.listing.specs.Handed.{HoldsNames}
use Rattle.listing.specs.Found.{StateLists, FittedOf, handed_tree}
use Rattle.listing.proofs.Unpadded.{same_names}

-- what the calls for a fit, the floor and the index promise of a branching with a lent matrix
module _ (lists : MatrixLists) (n m : ℕ) (lent : LentMatrix lists.codes n m) (weighed : LentWeights lists.weights m) (tree : List ℕ)
    (whole : branching_within n tree ≡ true) (low low' high high' chosen chosen' : List ℤ) (full : StateLists low high chosen) (fit : Fit)
    (fitted : TreeFitted lists n m tree low low' high high' chosen chosen' fit)
    (least : ℕ) (f : FloorOf lists n m least) (consistency : Option Index) (indexed : IndexOf least fit.total consistency) where
  -- what was found
  pub fitted_found : FittedOf (weighing lists.weights) (spans_of lists m n) n m tree low' high' chosen'
      (record { fit = fit; index = consistency })
  unfolding states_in
  fitted_found =
      let found = fitted.fitted whole lent weighed full.low_full full.high_full full.chosen_full in
      let is = f.is lent in
      record {
        fit = found.0;
        index = indexed.is (omega (arith, is, floor-most lists n m lent weighed)) ∙ ap₂ index is found.0.total;
        states = record {
          low_at = λ v j p q k l.
              ap (λ (list : List ℤ). state_at list v j) found.1
              ∙ state_written Low tree (spans_of lists m n) n m low v j full.low_full lent.taxa lent.characters p q k l;
          high_at = λ v j p q k l.
              ap (λ (list : List ℤ). state_at list v j) found.2
              ∙ state_written High tree (spans_of lists m n) n m high v j full.high_full lent.taxa lent.characters p q k l;
          chosen_at = λ v j p q k l.
              ap (λ (list : List ℤ). state_at list v j) found.3
              ∙ state_written Chosen tree (spans_of lists m n) n m chosen v j full.chosen_full lent.taxa lent.characters p q k l;
        };
      }

-- a tree struct, the list of its ancestors, and what was found of it, with the names that lent bytes hold
module _ (measure : Measure) (job : Job) (given : Tree) (tree : List ℕ) (same : ancestors given ≡ tree)
    (low high chosen : List ℤ) (r : FittedTree)
    (found : FittedOf measure (states_meant job) job.n job.m (ancestors given) low high chosen r) (lent : List ℕ)
    (named : HoldsNames job.n job.names lent) where
  -- the same of the list
  plain : FittedOf measure (states_meant job) job.n job.m tree low high chosen r
  plain = subst (λ (list : List ℕ). FittedOf measure (states_meant job) job.n job.m list low high chosen r) same found

  -- the lines put for it are those of the numbers printed of the list
  pub tree_put : lines_of_tree job.n (names_in job.n lent) job.m (handed_tree given r low high chosen)
      ≡ lines_of_tree job.n job.names job.m (tree_numbers measure job tree)
  tree_put =
      tree_same job.n (names_in job.n lent) job.names (same_names job.n job.names lent named) job.m (handed_tree given r low high chosen)
      (tree_numbers measure job tree)
      (record {
        ancestors = λ v p q. ap (λ (list : List ℕ). ancestor list v) same;
        lengths = plain.fit.lengths;
        marks = plain.fit.marks;
        t = plain.fit.total;
        c = plain.index;
        low = plain.states.low_at;
        high = plain.states.high_at;
        chosen = plain.states.chosen_at;
      })
