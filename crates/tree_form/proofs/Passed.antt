-- What passed questions of a placement tell, and which placements pass them.
use mathlib.Core.Path.{◌≡◌, sym, ◌∙◌}
use mathlib.Core.Bool.{Bool, true, not}
use mathlib.Core.List.{List}
use Prim.Native.Nat.{ℕ, ◌≤◌}
use native.Mathlib.Omega.{arith}
use Rattle.matrix_form.specs.Questions.{one_to, ask_rows_of, ask_matrix}
use Rattle.std.specs.Prelude.{Ok}
use Rattle.matrix_form.specs.declared.refusal.Refusal.TheVariants.{NotThere, NotBranching}
use Rattle.matrix_form.proofs.Passing.{ask_passed, matrix_passed, one_to-true, true-one_to}
use Rattle.matrix_form.proofs.Each.{and_then_passed}
use Rattle.tree_form.specs.Nodes.{in_tree, Unplaced}
use Rattle.tree_form.specs.Growing.{growing_tree, branching}
use Rattle.tree_form.specs.Within.{growing_tree_within, branching_within}
use Rattle.tree_form.specs.Asking.{htus_of, ask_placement}
use Rattle.tree_form.proofs.Within.{growing-plain, branching-plain}
use Rattle.tree_form.proofs.Nodes.{not-in_tree, false-in_tree}
use Rattle.matrix_form.specs.Shape.{MatrixLists}

-- what passed questions of a placement tell
pub record PlacementAsked (lists : MatrixLists) (n m : ℕ) (tree : List ℕ) (b : ℕ) : Type 0 where
  pub matrix : ask_matrix lists n m ≡ Ok tt
  pub growing : growing_tree n tree ≡ true
  pub unplaced : Unplaced n tree b
  pub htus : ask_rows_of lists m (htus_of n tree) ≡ Ok tt

-- a taxon that is not in the tree is neither row 1 nor has it an ancestor
not_in : (n : ℕ) (tree : List ℕ) (b : ℕ) → 1 ≤ b → b ≤ n → not (in_tree tree b) ≡ true → Unplaced n tree b
not_in n tree b low high e =
    let out = not-in_tree tree b e in
    record { other = omega (arith, out.0); taxon = high; free = out.1 }

pub placement_asked : (lists : MatrixLists) (n m : ℕ) (tree : List ℕ) (b : ℕ) → ask_placement lists n m tree b ≡ Ok tt
    → PlacementAsked lists n m tree b
unfolding ask_placement
placement_asked lists n m tree b e =
    let both = and_then_passed (ask_matrix lists n m) _ e in
    let taxon = ask_passed (one_to n b) NotThere _ both.1 in
    let tree-asked = ask_passed (growing_tree n tree) NotBranching _ taxon.1 in
    let free = ask_passed (not (in_tree tree b)) NotThere _ tree-asked.1 in
    let limits = one_to-true n b taxon.0 in
    record {
      matrix = both.0;
      growing = tree-asked.0;
      unplaced = not_in n tree b limits.0 limits.1 free.0;
      htus = free.1;
    }

-- and where all of it holds, the questions pass
pub asked_placement : (lists : MatrixLists) (n m : ℕ) (tree : List ℕ) (b : ℕ) → PlacementAsked lists n m tree b
    → ask_placement lists n m tree b ≡ Ok tt
unfolding ask_placement
asked_placement lists n m tree b asked =
    let u = asked.unplaced in
    rw (
      asked.matrix,
      true-one_to n b (omega (arith, u.other)) u.taxon,
      asked.growing,
      false-in_tree tree b u.other u.free,
      asked.htus,
    )

-- on a matrix that passed its questions there are at most 64 taxa, so what a tree answers for every number of taxa is the plain test
module _ (lists : MatrixLists) (n m : ℕ) (told : ask_matrix lists n m ≡ Ok tt) (tree : List ℕ) {r : Bool} where
  pub growing_passed : r ≡ growing_tree_within n tree → growing_tree n tree ≡ r
  growing_passed is = sym (is ∙ growing-plain n tree (matrix_passed lists n m told).taxa)

  pub branching_passed : r ≡ branching_within n tree → branching n tree ≡ r
  branching_passed is = sym (is ∙ branching-plain n tree (matrix_passed lists n m told).taxa)
