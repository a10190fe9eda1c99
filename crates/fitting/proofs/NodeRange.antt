-- The states of one node, taxon or HTU, told by assignments, and the answer of the call for them.
use Rattle.std.proofs.Common.{Result, Ok, Err, ◌≡◌, ℕ, ◌≤◌, true, eqb, ◌↔◌, List, length, ap, ◌∙◌}
use Rattle.matrix_form.specs.Shape.{last_node, MatrixLists}
use Rattle.matrix_form.specs.Spans.{spans_of}
use Rattle.matrix_form.specs.Questions.{ask_matrix, one_to, LentMatrix, LentWeights}
use Rattle.matrix_form.specs.declared.refusal.Refusal.{Refusal}
use Rattle.matrix_form.specs.declared.refusal.Refusal.TheVariants.{ListSize, NotThere, NotBranching}
use Rattle.matrix_form.proofs.Passing.{ask_passed, matrix_passed, weights_passed, one_to-true}
use Rattle.matrix_form.proofs.Each.{and_then_passed}
use Rattle.tree_form.specs.declared.branch.Branch.{Branch}
use Rattle.tree_form.specs.Branches.{ancestors_of, lent_branching}
use Rattle.tree_form.specs.Asking.{branches_size}
use Rattle.tree_form.proofs.Test.{branching_iff}
use Rattle.fit_form.specs.Fit.{states_in}
use Rattle.fitting.specs.Lists.{StatesOf}
use Rattle.fit_form.specs.Handing.{ask_node, NodeAnswer}
use Rattle.fit_form.specs.declared.characters.States.{States}
use Rattle.fitting.proofs.Passed.{size-branching, lent_test}
use Rattle.fitting.proofs.Handed.{ends_in}
use Rattle.fit_form.proofs.Matrix.Proper.{spans_proper}
use Rattle.fit_form.proofs.Matrix.ThirdRival.{third_rival}

-- what passed questions tell of a node and a character
pub record NodeNamed (lists : MatrixLists) (n m : ℕ) (records : List Branch) (v j : ℕ) : Type 0 where
  pub lent : LentMatrix lists.codes n m
  pub weighed : LentWeights lists.weights m
  pub node : (1 ≤ v) × (v ≤ last_node n)
  pub character : (1 ≤ j) × (j ≤ m)
  pub branches : lent_branching n records ≡ true

-- they tell so
node_named : (lists : MatrixLists) (n m : ℕ) (records : List Branch) (v j : ℕ) → ask_node lists n m records v j ≡ Ok tt
    → NodeNamed lists n m records v j
unfolding ask_node
node_named lists n m records v j e =
    let size = ask_passed (eqb (length records) branches_size) ListSize _ e in
    let both = and_then_passed (ask_matrix lists n m) _ size.1 in
    let node = ask_passed (one_to (last_node n) v) NotThere _ both.1 in
    let named = ask_passed (one_to m j) NotThere _ node.1 in
    record {
      lent = matrix_passed lists n m both.0;
      weighed = weights_passed lists n m both.0;
      node = one_to-true (last_node n) v node.0;
      character = one_to-true m j named.0;
      branches = (ask_passed (lent_branching n records) NotBranching (Ok tt) named.1).0;
    }

-- one after the other
both_ways : {A B C : Type 0} → (A ↔ B) → (B ↔ C) → (A ↔ C)
both_ways f g = (λ a. g.0 (f.0 a), λ c. f.1 (g.1 c))

-- states handed back
found_same : (a b : States) → ◌≡◌ {A = Result States Refusal} (Ok b) (Ok a) → a ≡ b
found_same a b e = cc

-- where no question refuses, the states are those of the node, and its range is that of all assignments of least length
pub node_answer : (lists : MatrixLists) (n m : ℕ) (records : List Branch) (v j : ℕ) (tree : List ℕ) (r : States)
    → ask_node lists n m records v j ≡ Ok tt → tree ≡ ancestors_of n records → StatesOf lists n m tree v j r
    → NodeAnswer lists n m records v j (Ok r)
node_answer lists n m records v j tree r e is of =
    let named = node_named lists n m records v j e in
    let lent = named.lent in
    let rows = spans_of lists m n in
    let new = ancestors_of n records in
    let test = lent_test n records named.branches in
    let tested = size-branching lists.codes n m records lent named.branches in
    let found : r ≡ states_in new rows n v j =
    (rw is at of).are tested lent named.node.0 named.node.1 named.character.0 named.character.1 in
    let claim = third_rival lists.weights n m new rows lent.taxon named.weighed.known (spans_proper lists n m) ((branching_iff new n lent.taxon).0 test) in
    record {
      says = rw (e, found);
      ranges = λ states same s.
          let own : states ≡ states_in new rows n v j = found_same states r same ∙ found in
          both_ways (ends_in new rows n v j s states.low states.high (ap (λ (t : States). t.low) own) (ap (λ
          (t : States). t.high) own))
          (claim.ranges v j s named.node.0 named.node.1 named.character.0 named.character.1);
    }

-- after a refusal there are no states
pub node_refused : (lists : MatrixLists) (n m : ℕ) (records : List Branch) (v j : ℕ) (refusal : Refusal)
    → ask_node lists n m records v j ≡ Err refusal
    → NodeAnswer lists n m records v j (Err refusal)
node_refused lists n m records v j refusal e = record {
  says = rw e;
  ranges = λ states same s. cc;
}
