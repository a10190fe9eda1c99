-- A walk over the `C` lines of a file: each line's question is that of its node.
use mathlib.Core.Path.{◌≡◌, sym, ap, ◌∙◌}
use mathlib.Core.List.{List, ◌∷◌}
use Prim.Native.Nat.{ℕ, ◌+◌}
use native.Mathlib.Omega.{arith}
use lib.ListN.{length, take, length-take, length-reverse}
use Rattle.std.specs.Prelude.{Ok}
use Rattle.matrix_form.specs.Outcomes.{Asked, ask}
use Rattle.matrix_form.specs.declared.refusal.Refusal.TheVariants.{BranchForm}
use Rattle.text_form.specs.Lines.{lines_of, fields_of}
use Rattle.file_form.specs.Branches.{branch_form, branch_sort}
use Rattle.lists.proofs.Rests.{rest_below}
use Rattle.file_questions.proofs.LinesWalk.{LinesLeft, lines_before}

-- the question put to the next line, of its node, is that of the sort
pub branch_asked : (text : List ℕ) (count first : ℕ) (rest : List ℕ) (done : ℕ) → LinesLeft branch_sort text count first rest done
    → (line behind : List ℕ) → lines_of rest ≡ line ∷ lines_of behind → (answer : Asked)
    → answer ≡ ask (branch_form (done + 2) (fields_of line)) BranchForm (Ok tt) → answer ≡ branch_sort.asks (lines_before text done) line
branch_asked text count first rest done left line behind l answer q =
    let room = rest_below (lines_of text) done line (lines_of behind) (sym left.walk ∙ l) in
    let passed : length (lines_before text done) ≡ done =
    omega (arith, length-reverse (take done (lines_of text)), length-take done (lines_of text), room) in
    q ∙ ap (λ k. ask (branch_form (k + 2) (fields_of line)) BranchForm (Ok tt)) (sym passed)
