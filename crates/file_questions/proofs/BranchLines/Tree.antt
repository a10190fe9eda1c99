-- Whether `C` lines are a branching, as the tree that they say is tested.
use mathlib.Core.Path.{◌≡◌, sym, ap, ◌∙◌}
use mathlib.Core.Bool.{Bool, true, false}
use mathlib.Core.List.{List}
use Prim.Native.Nat.{ℕ, ◌≤◌}
use Rattle.matrix_form.specs.Outcomes.{ask}
use Rattle.matrix_form.specs.declared.refusal.Refusal.TheVariants.{NotBranching}
use Rattle.std.specs.Prelude.{Ok, Err}
use Rattle.tree_form.specs.Ancestors.{tree_with}
use Rattle.tree_form.specs.Within.{branching_within}
use Rattle.tree_form.proofs.Within.{branching-plain}
use Rattle.file_form.specs.declared.header.Kind.{Kind}
use Rattle.file_form.specs.declared.header.Kind.TheVariants.{Wagner, Own}
use Rattle.file_form.specs.Branches.{branched, ask_tree}

-- in a `W` file nothing is asked
pub tree-none : (kind : Kind) (n : ℕ) → kind ≡ Wagner → (above : List ℕ) → Ok tt ≡ ask_tree kind n above
tree-none kind n w above = sym (ap (λ k. ask_tree k n above) w)

-- in an `F` file the tree is tested
module _ (kind : Kind) (n : ℕ) (few : n ≤ 64) (own : kind ≡ Own) (tree : List ℕ) (right : Bool) (b : right ≡ branching_within n tree)
    (above : List ℕ) (t : tree ≡ tree_with above) where
  -- the answer is that of the question
  asked_is : branched kind n above ≡ right
  asked_is =
      ap (λ k. branched k n above) own ∙ sym (b ∙ ap (branching_within n) t ∙ branching-plain n (tree_with above) few)

  -- it is no branching
  pub tree-refused : right ≡ false → Err NotBranching ≡ ask_tree kind n above
  tree-refused e = sym (ap (λ b. ask b NotBranching (Ok tt)) (asked_is ∙ e))

  -- it is one
  pub tree_passed : right ≡ true → Ok tt ≡ ask_tree kind n above
  tree_passed e = sym (ap (λ b. ask b NotBranching (Ok tt)) (asked_is ∙ e))
