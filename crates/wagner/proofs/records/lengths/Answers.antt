-- `wagner::records::lengths` meets its contract.
use Rattle.std.proofs.Common.{rules, ℕ, List, ◌∙◌, ap, get_or, zero-add, min}
use Rattle.lists.proofs.Numbers.{map-numbers}
use Rattle.matrix_form.specs.Shape.{row}
use Rattle.difference_form.specs.Rows.{difference, node_difference}
use Rattle.tree_form.specs.Ancestors.{ancestor}
use Rattle.branching.specs.Views.{ancestors}
use Rattle.tree_form.proofs.Ranges.{made-map}
use Rattle.wagner.proofs.Lengths.{length_in-first}
use Rattle.wagner.proofs.records.lengths.Goals as goal
use Rattle.matrix.specs.Lent.{lent_lists}

pub returns : goal.returns
returns c =
    let a = c.args.lent.now in
    let tree = ancestors c.args.tree.now in
    let length = λ (v : ℕ). node_difference (difference a.weights.now) (row a.matrix.now (min a.m 128)) v (ancestor tree v) in
    record {
      size = c.from_fn.ensures.items.long;
      each = λ v h.
          ap (λ (lengths : List ℕ). get_or lengths v 0) (made-map _ length _ _ 127 0 c.from_fn.ensures.items (λ v y q k. search rules))
          ∙ map-numbers length 0 0 127 v h
          ∙ ap length (zero-add v)
          ∙ length_in-first (lent_lists a) a.m v (ancestor tree v);
    }
