-- What is put for the job that lent lists hold is its listing, for each kind of file.
use mathlib.Core.Path.{◌≡◌, refl, sym, ap, ◌∙◌}
use mathlib.Core.List.{List}
use lib.IntN.{ℤ}
use Rattle.matrix_form.specs.Spans.{spans_of}
use Rattle.matrix_form.specs.Shape.{matrix_of}
use Rattle.file_form.specs.declared.header.Header.{Header}
use Rattle.file_form.specs.declared.header.Kind.TheVariants.{Wagner, Own}
use Rattle.file_form.specs.Written.{LentLists}
use Rattle.difference_form.specs.Rows.{Measure, weighing}
use Rattle.tree_form.specs.declared.branch.Branch.{Branch}
use Rattle.branching.specs.declared.tree.Tree.{Tree}
use Rattle.tree_form.specs.Ancestors.{tree_with}
use Rattle.branching.specs.Views.{ancestors}
use Rattle.tree_form.specs.Branches.{ancestors_of}
use Rattle.tree_form.specs.LentNumbers.{records_in}
use Rattle.listing_form.specs.Lines.{joined}
use Rattle.file_form.specs.Written.{names_in}
use Rattle.lines.specs.declared.put.Listing.{Listing}
use Rattle.lines.specs.Puts.{Puts}
use Rattle.lines.proofs.Puts.{put_same}
use Rattle.listing_form.specs.Meant.{order_meant}
use Rattle.listing.specs.declared.job.FittedTree.{FittedTree}
use Rattle.listing.specs.declared.job.Results.{Results}
use Rattle.listing_form.specs.Listing.{listing}
use Rattle.listing.specs.Found.{FittedOf, ResultsOf, tree_texts, result_texts, held_job, ListsJob}
use Rattle.listing_form.proofs.Parts.{own-listing}
use Rattle.listing.proofs.FittedTrees.{tree_put}
use Rattle.listing.proofs.FoundResults.{results_listed}

-- the listing of a `W` file: what was found of its matrix, in the order that its word means
pub built_put : (header : Header) → header.kind ≡ Wagner → (lists : LentLists) (low high chosen : List ℤ) (r : Results)
    → ResultsOf (order_meant header.order) (matrix_of lists.matrix lists.weights) header.n header.m low high chosen r → {old new : Listing}
    → Puts (result_texts header.n (names_in header.n lists.names) header.m r low high chosen) old new
    → ListsJob header lists old new
built_put header kind lists low high chosen r given put =
    record {
      is = λ names weights above held.
          let job = held_job header weights names lists.matrix above in
          put_same
          (results_listed job kind lists.matrix refl lists.weights low high chosen r given lists.names held.named
          ∙ ap (λ (by : Measure). joined (listing by job)) held.weighed)
          put;
    }

-- the listing of an `F` file: what was found of its own branching
pub own_put : (header : Header) → header.kind ≡ Own → (lists : LentLists) (records : List Branch) → records ≡ records_in lists.branches
    → (tree : Tree) → ancestors tree ≡ ancestors_of header.n records → (low high chosen : List ℤ) (r : FittedTree)
    → FittedOf (weighing lists.weights) (spans_of (matrix_of lists.matrix lists.weights) header.m header.n) header.n header.m (ancestors tree) low high chosen r
    → {old new : Listing}
    → Puts (tree_texts header.n (names_in header.n lists.names) header.m tree r low high chosen) old new
    → ListsJob header lists old new
unfolding tree_texts spans_of
own_put header kind lists records given tree read low high chosen r found put =
    record {
      is = λ names weights above held.
          let job = held_job header weights names lists.matrix above in
          let measure : Measure = weighing lists.weights in
          let same : ancestors tree ≡ tree_with above = read ∙ ap (ancestors_of header.n) given ∙ held.branched kind in
          put_same
          (ap joined
          (tree_put measure job tree (tree_with above) same low high chosen r found lists.names held.named ∙ sym (own-listing measure job kind))
          ∙ ap (λ (by : Measure). joined (listing by job)) held.weighed)
          put;
    }
