-- `file_lines::branch::ancestor_in` meets its contract: each answer follows from the tests that led to it.
use mathlib.Core.Path.{◌≡◌, sym, ap, ◌∙◌}
use mathlib.Core.Bool.{not}
use Rattle.text_form.specs.Lines.{fields_of}
use native.Mathlib.Omega.{arith}
use Rattle.text_form.specs.Decimal.{number_form, number_of}
use Rattle.file_form.specs.Branches.{branch_form, ancestor_in}
use Rattle.file_form.proofs.File.FirstForm.{fields_count}
use Rattle.file_form.proofs.BranchLines.Form.{other-count, bad_word, bad_third}
use borrow.Author.Tests.{not-true, not-false}
use Rattle.file_text.proofs.ReadAs.{formed_read, formless_read}
use Rattle.file_lines.proofs.BranchLine.{word_told, node_told, other_line, its_line}
use Rattle.file_lines.proofs.branch.ancestor_in.Goals as goal
use Rattle.file_lines.proofs.branch.ancestor_in.Goals.{After-ne-2}

pub returns-then-separators-ne-ANCESTOR : goal.returns-then-separators-ne-ANCESTOR
returns-then-separators-ne-ANCESTOR c =
    other_line _ _
    (other-count _ _ (λ three. c.if-separators-ne-ANCESTOR.true (omega (arith, fields_count _ _ c.separators.ensures, three))))

pub returns-then-ne : goal.returns-then-ne
returns-then-ne c = other_line _ _ (bad_word _ _ (not-true _ (sym (c.ne.ensures ∙ word_told _ _ c.field.ensures) ∙ c.if-ne.true)))

pub returns-in_err-ancestor : goal.returns-in_err-ancestor
returns-in_err-ancestor c =
    c.from_residual.ensures
    ∙ other_line _ _
    (bad_third _ _
    (ap number_form (sym c.field-2.ensures)
    ∙ formless_read number_form number_of c.field-2.result.now (sym c.in_err-ancestor.was ∙ c.number.ensures.said)))

-- the test of the second field, behind the others
node_tested : (c : After-ne-2) → c.ne-2.result ≡ not (branch_form c.args.v (fields_of c.args.line.now))
node_tested c =
    let third = formed_read number_form number_of c.field-2.result.now _ (sym c.in_ok-ancestor.was ∙ c.number.ensures.said) in
    c.ne-2.ensures
    ∙ ap not
    (node_told _ _ (omega (arith, fields_count _ _ c.separators.ensures, c.if-separators-ne-ANCESTOR.false))
    (not-false _ (sym (c.ne.ensures ∙ word_told _ _ c.field.ensures) ∙ c.if-ne.false)) (ap number_form (sym c.field-2.ensures) ∙ third.0) _ _
    c.field-3.ensures c.number-2.ensures.said)

pub returns-then-ne-2 : goal.returns-then-ne-2
returns-then-ne-2 c = other_line _ _ (not-true _ (sym (node_tested (goal.at.returns-then-ne-2 c).After-ne-2) ∙ c.if-ne-2.true))

pub returns : goal.returns
unfolding ancestor_in
returns c =
    its_line _ _ (not-false _ (sym (node_tested (goal.at.returns c).After-ne-2) ∙ c.if-ne-2.false)) _
    ((formed_read number_form number_of c.field-2.result.now _ (sym c.in_ok-ancestor.was ∙ c.number.ensures.said)).1
    ∙ ap number_of c.field-2.ensures)
