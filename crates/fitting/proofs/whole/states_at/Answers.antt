-- `fitting::whole::states_at` meets its contract. Assumes nothing.
use Rattle.std.proofs.Common.{sym, refl, ◌∙◌, true≢false, arith, rules}
use Rattle.matrix_form.proofs.Passing.{one_to-true}
use Rattle.fitting.specs.Lists.{node_shaped}
use Rattle.fitting.proofs.Columns.{column-own}
use Rattle.fitting.proofs.LastNode.{last_told, last_number}
use Rattle.matrix_form.proofs.Limits.{shaped-limits}
use Rattle.fitting.proofs.Shapes.{not_found}
use Rattle.fitting.proofs.whole.states_at.Goals as goal

pub returns-then-not-is_shaped : goal.returns-then-not-is_shaped
unfolding node_shaped
returns-then-not-is_shaped c =
    not_found _ _ _ _ _ _ _ (rw (sym c.is_shaped.ensures ∙ c.if-not-is_shaped.true) refl) (search rules)

pub returns-then-not-one_to : goal.returns-then-not-one_to
unfolding node_shaped
returns-then-not-one_to c =
    not_found _ _ _ _ _ _ _
    (rw (sym c.is_shaped.ensures ∙ c.if-not-is_shaped.false, sym c.one_to.ensures ∙ c.if-not-one_to.true) refl) (search rules)

pub returns-then-not-one_to-2 : goal.returns-then-not-one_to-2
unfolding node_shaped
returns-then-not-one_to-2 c =
    let right = sym c.is_shaped.ensures ∙ c.if-not-is_shaped.false in
    let last = last_told _ _ (shaped-limits _ _ _ right).taxa c.last_node.ensures in
    let beyond = rw last at (sym c.one_to-2.ensures ∙ c.if-not-one_to-2.true) in
    not_found _ _ _ _ _ _ _ (rw (right, sym c.one_to.ensures ∙ c.if-not-one_to.false, beyond) refl) (search rules)

pub bounds-fit_character-v : goal.bounds-fit_character-v
bounds-fit_character-v c =
    let few = (shaped-limits _ _ _ (sym c.is_shaped.ensures ∙ c.if-not-is_shaped.false)).taxa in
    let node = one_to-true _ _ (sym c.one_to-2.ensures ∙ c.if-not-one_to-2.false) in
    omega (arith, last_number _ _ few c.last_node.ensures, node.1)

pub offset_bounds-fit_character-v : goal.offset_bounds-fit_character-v
offset_bounds-fit_character-v c = omega (arith, bounds-fit_character-v c)

pub returns : goal.returns
unfolding node_shaped
returns c =
    let fits = rw (c.of.ensures.taxa, c.of.ensures.tree) at c.fit_character.ensures in
    let right = sym c.is_shaped.ensures ∙ c.if-not-is_shaped.false in
    let last = last_told _ _ (shaped-limits _ _ _ right).taxa c.last_node.ensures in
    let node = rw last at (sym c.one_to-2.ensures ∙ c.if-not-one_to-2.false) in
    record {
      are = λ branches lent p q l h. fits.are _ _ (column-own _ _ _ lent _ l h _ c.own_sets.ensures) branches _ p q;
      unshaped = λ f. absurd (true≢false (sym (rw (right, sym c.one_to.ensures ∙ c.if-not-one_to.false, node) refl) ∙ f));
    }
