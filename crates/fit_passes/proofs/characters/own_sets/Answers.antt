-- `fit_passes::characters::own_sets` meets its contract: what stands at a node's place is its own set, if it is a taxon.
use Rattle.std.proofs.Common.{Option, None, ◌∙◌, List, ℕ, get_or, ap, arith, rules, zero-add}
use Rattle.lists.proofs.Numbers.{map-numbers}
use Rattle.tree_form.proofs.Ranges.{made-map}
use Rattle.matrix_form.specs.declared.spans.Span.{Span}
use Rattle.fit_passes.specs.Steps.{taxon_span}
use Rattle.fit_passes.proofs.characters.own_sets.Goals as goal

pub returns : goal.returns
returns c =
    let own : ℕ → Option Span = λ v. taxon_span c.args.matrix.now c.args.n v c.args.j in
    record {
      are = λ v h.
          ap (λ (sets : List (Option Span)). get_or sets v None)
          (made-map _ own _ _ 127 None c.from_fn.ensures.items (λ v y q k. search rules))
          ∙ map-numbers own None 0 127 v (omega arith)
          ∙ ap own (zero-add v);
    }
