-- `consistency::floor::Taxa::ends` meets its contract: the ends of all rows from that of the last. Assumes nothing.
use Rattle.std.proofs.Common.{◌≡◌, ◌+◌, ◌-◌, suc, refl, ap, ◌∙◌, arith, rules, tests}
use borrow.Author.Rules.{sfits_of}
use Rattle.std.specs.List.{range_with_len}
use Rattle.std.proofs.lemmas.Iterator.{YieldsList-from_range}
use Rattle.std.proofs.lemmas.Iterator.Consumers.{fold_from_yields_List}
use Rattle.matrix_form.specs.Spans.{only}
use Rattle.matrix_form.specs.Shape.{state_at}
use Rattle.matrix_form.specs.declared.spans.Span.{Span}
use Rattle.fit_form.proofs.Bits.{of_bit}
use Rattle.consistency.specs.Steps.{column, narrowed, ends_of}
use Rattle.consistency.proofs.Columns.{narrowed_by, ends_folded}
use Rattle.consistency.proofs.floor.Taxa.ends.Goals as goal

pub returns : goal.returns
returns c =
    let matrix = c.args.self.now.nodes.lent.matrix.now in
    let n = c.args.self.now.nodes.lent.n in
    let j = c.args.j in
    let some = c.args.self.now.some in
    let row : n ≡ 1 + (n - 1) = omega arith in
    let all : suc (n - 1) ≡ n = omega arith in
    let last : c.only-last.result ≡ only (state_at matrix n j) =
    of_bit only _ _ (sfits_of c.code_at.type_inv) c.only-last.ensures ∙ ap only c.code_at.ensures in
    record {
      are = fold_from_yields_List _ (λ (e : Span) v. narrowed (only (state_at matrix v j)) e) c.only-last.result c.fold.result c.fold.ensures.ran
          (YieldsList-from_range 1 n (n - 1) refl refl) (λ a x b q k. search (rules, tests))
          ∙ ap (λ (e : Span). narrowed_by matrix j e (range_with_len 1 (n - 1))) (last ∙ ap (λ u. only (state_at matrix u j)) row)
          ∙ ends_folded matrix j (n - 1) 1
          ∙ ap (λ count. ends_of (column matrix j 1 count)) all;
    }
