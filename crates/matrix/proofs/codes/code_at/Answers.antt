-- `matrix::codes::code_at` meets its contract: the code stands at its place, as far as the list goes.
use Rattle.std.proofs.Common.{◌≡◌, ℕ, ◌+◌, ◌-◌, ◌^◌, ◌<◌, min, List, length, get_or, ℤ, pos, ◌∙◌, sym, ap, arith, to_z-of_z, w32, rules, tests}
use Rattle.std.proofs.lemmas.List.{get_or_past}
use mathlib.Core.Logic.{by_cases}
use native.Mathlib.Decide.{dec_le}
use borrow.Author.Rules.{sfits_of}
use Rattle.matrix_form.specs.Shape.{row_start}
use Rattle.matrix.proofs.codes.code_at.Goals as goal

-- what stands at an index, where a list ends before the last number
at_index : (list : List ℤ) (place : ℕ) → length list < 2 ^ 64 → get_or list (min place (2 ^ 64 - 1)) (pos 0) ≡ get_or list place (pos 0)
at_index list place short =
    by_cases
    (dec_le place (2 ^ 64 - 1))
    (λ l. ap (λ (k : ℕ). get_or list k (pos 0)) (omega arith))
    (λ l. get_or_past list (min place (2 ^ 64 - 1)) (pos 0) (omega arith) ∙ sym (get_or_past list place (pos 0) (omega arith)))

pub returns : goal.returns
returns c =
    let list = c.args.matrix.now in
    let found : c.unwrap_or.result ≡ get_or list c.index_of_code.result (pos 0) = search (rules, tests) in
    to_z-of_z {w = w32} (sfits_of c.unwrap_or.type_inv)
    ∙ found
    ∙ ap (λ (k : ℕ). get_or list k (pos 0)) c.index_of_code.ensures
    ∙ at_index list (row_start c.args.v + (c.args.j - 1)) (omega arith)
