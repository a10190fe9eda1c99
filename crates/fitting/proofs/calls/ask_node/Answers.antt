-- `fitting::calls::ask_node` meets its contract: each answer follows from the tests that led to it. Assumes nothing.
use Rattle.std.proofs.Common.{Ok, ◌≡◌, ℕ, ◌-◌, ◌^◌, min, List, length, sym, ◌∙◌, rules, eq-eqb}
use Rattle.std.proofs.lemmas.Result.{err_from_is_err_and}
use Rattle.matrix_form.specs.Shape.{last_node, MatrixLists}
use Rattle.matrix_form.specs.Questions.{ask_matrix, one_to}
use Rattle.matrix_form.specs.Outcomes.{ask}
use Rattle.matrix_form.specs.declared.refusal.Refusal.TheVariants.{NotThere, NotBranching}
use Rattle.matrix_form.proofs.Passing.{matrix_passed}
use Rattle.tree_form.specs.declared.branch.Branch.{Branch}
use Rattle.tree_form.specs.Branches.{lent_branching}
use Rattle.fit_form.specs.Handing.{ask_node}
use Rattle.fitting.proofs.LastNode.{last_told}
use Rattle.fitting.proofs.calls.ask_node.Goals as goal
use Rattle.fitting.proofs.calls.ask_node.Goals.{After-last_node}
use Rattle.matrix.specs.Lent.{lent_lists}

-- the questions, where those on the matrix have passed
passed_on : (lists : MatrixLists) (n m : ℕ) (records : List Branch) (v j last : ℕ) → length records ≡ 125
    → ask_matrix lists n m ≡ Ok tt → last ≡ min (last_node n) (2 ^ 64 - 1)
    → ask_node lists n m records v j
    ≡ ask (one_to last v) NotThere (ask (one_to m j) NotThere (ask (lent_branching n records) NotBranching (Ok tt)))
unfolding ask_node
passed_on lists n m records v j last size passed told =
    let is = last_told n last (matrix_passed lists n m passed).taxa told in
    rw (eq-eqb _ _ size, passed, is)

pub returns-in_err-ask : goal.returns-in_err-ask
unfolding ask_node
returns-in_err-ask c =
    let size : length c.args.records.now ≡ 125 = search rules in
    let told = err_from_is_err_and c.from_residual.result c.from_residual.ensures.1 in
    rw (told.1, told.2, eq-eqb _ _ size, sym c.ask.ensures ∙ c.in_err-ask.was)

-- so they are asked here
asked : (c : After-last_node)
    → ask_node (lent_lists c.args.lent.now) c.args.lent.now.n c.args.lent.now.m c.args.records.now c.args.node c.args.character
    ≡ ask (one_to c.last_node.result c.args.node) NotThere
    (ask (one_to c.args.lent.now.m c.args.character) NotThere (ask (lent_branching c.args.lent.now.n c.args.records.now) NotBranching (Ok tt)))
asked c = passed_on _ _ _ _ _ _ _ (search rules) (sym c.ask.ensures ∙ c.in_ok-ask.was) c.last_node.ensures

pub returns-then-not-one_to : goal.returns-then-not-one_to
returns-then-not-one_to c =
    rw (asked (goal.at.returns-then-not-one_to c).After-last_node, sym c.one_to.ensures ∙ c.if-not-one_to.true)

pub returns-then-not-one_to-2 : goal.returns-then-not-one_to-2
returns-then-not-one_to-2 c =
    rw (
      asked (goal.at.returns-then-not-one_to-2 c).After-last_node,
      sym c.one_to.ensures ∙ c.if-not-one_to.false,
      sym c.one_to-2.ensures ∙ c.if-not-one_to-2.true,
    )

pub returns-then-not-lent_branching : goal.returns-then-not-lent_branching
returns-then-not-lent_branching c =
    rw (
      asked (goal.at.returns-then-not-lent_branching c).After-last_node,
      sym c.one_to.ensures ∙ c.if-not-one_to.false,
      sym c.one_to-2.ensures ∙ c.if-not-one_to-2.false,
      sym c.lent_branching.ensures ∙ c.if-not-lent_branching.true,
    )

pub returns : goal.returns
returns c =
    rw (
      asked (goal.at.returns c).After-last_node,
      sym c.one_to.ensures ∙ c.if-not-one_to.false,
      sym c.one_to-2.ensures ∙ c.if-not-one_to-2.false,
      sym c.lent_branching.ensures ∙ c.if-not-lent_branching.false,
    )
