-- `file_header::weights::weight` meets its contract: the length decides, and then the only byte.
use mathlib.Core.Path.{refl, sym, ◌∙◌}
use native.Mathlib.Omega.{arith}
use Rattle.file_form.specs.Weights.{weight_form, weight_in}
use Rattle.lists.proofs.Between.{nat_between}
use Rattle.file_text.proofs.ReadAs.{read_formed, read_formless}
use Rattle.file_header.proofs.WeightFields.{not-one, one_byte}
use Rattle.file_header.proofs.weights.weight.Goals as goal

pub returns-in_default : goal.returns-in_default
returns-in_default c = read_formless weight_form weight_in _ (sym (not-one _ (λ same. omega arith)))

pub returns-in_default-2 : goal.returns-in_default-2
returns-in_default-2 c = read_formless weight_form weight_in _ (sym (not-one _ (λ same. omega arith)))

pub returns-then-not-contains : goal.returns-then-not-contains
returns-then-not-contains c =
    read_formless weight_form weight_in _
    (sym (nat_between _ _ _ _ c.new.ensures.start c.new.ensures.end c.new.ensures.exhausted c.contains.ensures.value ∙ one_byte _ c.in-len1.len_at_least c.in-len1.len_below)
    ∙ c.if-not-contains.true)

pub returns : goal.returns
unfolding weight_in
returns c =
    read_formed weight_form weight_in _ _
    (sym (nat_between _ _ _ _ c.new.ensures.start c.new.ensures.end c.new.ensures.exhausted c.contains.ensures.value ∙ one_byte _ c.in-len1.len_at_least c.in-len1.len_below)
    ∙ c.if-not-contains.false)
    refl
