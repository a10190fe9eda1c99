-- Lines of one sort, asked one after another: those that pass, and what follows them.
use mathlib.Core.Path.{◌≡◌, refl, ap, ◌∙◌}
use mathlib.Core.List.{List, [], ◌∷◌, ◌++◌}
use Prim.Native.Nat.{ℕ, zero, suc, ◌+◌}
use native.Mathlib.Omega.{arith}
use lib.ListN.{length, take, drop}
use Rattle.std.specs.Prelude.{Ok}
use Rattle.matrix_form.specs.Outcomes.{Outcome, value}
use Rattle.file_form.specs.Lines.{LineSort, ask_lines}
use Rattle.file_form.proofs.File.Outcomes.{line_passed, not-refused}

-- each of some lines passes its questions, behind these earlier ones
abbrev pub AllPass : LineSort → List (List ℕ) → List (List ℕ) → Type 0
AllPass sort earlier [] = Unit
AllPass sort earlier (line ∷ lines) = (sort.asks earlier line ≡ Ok tt) × AllPass sort (line ∷ earlier) lines

-- so many lines stand there, and each passes
pub record LinesPassed (sort : LineSort) (earlier : List (List ℕ)) (left : ℕ) (lines : List (List ℕ)) : Type 0 where
  pub count : length (take left lines) ≡ left
  pub pass : AllPass sort earlier (take left lines)

-- lines whose questions bring a value pass, and what follows them brings it, with the next line's number and the lines left
pub lines_passed : {A : Type 0} (sort : LineSort) (earlier : List (List ℕ)) (number left : ℕ) (lines : List (List ℕ))
    (follow : ℕ → List (List ℕ) → Outcome A) (a : A) → ask_lines sort earlier number left lines follow ≡ value a
    → LinesPassed sort earlier left lines × (follow (number + left) (drop left lines) ≡ value a)
unfolding ask_lines
lines_passed sort earlier number zero lines follow a e =
    let next : number + 0 ≡ number = omega arith in
    (record { count = refl; pass = tt }, ap (λ k. follow k lines) next ∙ e)
lines_passed sort earlier number (suc left) [] follow a e = absurd (not-refused _ number a e)
lines_passed sort earlier number (suc left) (behind ∷ []) follow a e = absurd (not-refused _ number a e)
lines_passed sort earlier number (suc left) (line ∷ next ∷ lines) follow a e =
    let passed = line_passed number (sort.asks earlier line) _ a e in
    let others = lines_passed sort (line ∷ earlier) (suc number) left (next ∷ lines) follow a passed.1 in
    let here : number + suc left ≡ suc number + left = omega arith in (
      record { count = ap suc others.0.count; pass = (passed.0, others.0.pass) },
      ap (λ k. follow k (drop left (next ∷ lines))) here ∙ others.1,
    )

-- the questions of a line that passes leave those of the lines behind it
lines-step : {A : Type 0} (sort : LineSort) (earlier : List (List ℕ)) (number left : ℕ) (line : List ℕ) (lines : List (List ℕ))
    (next : List ℕ) (others : List (List ℕ)) (follow : ℕ → List (List ℕ) → Outcome A) → sort.asks earlier line ≡ Ok tt
    → ask_lines sort earlier number (suc left) (line ∷ lines ++ next ∷ others) follow
    ≡ ask_lines sort (line ∷ earlier) (suc number) left (lines ++ next ∷ others) follow
unfolding ask_lines
lines-step sort earlier number left line [] next others follow e = rw e
lines-step sort earlier number left line (second ∷ lines) next others follow e = rw e

-- lines that pass leave what stands behind them to decide
pub lines_pass : {A : Type 0} (sort : LineSort) (earlier : List (List ℕ)) (number : ℕ) (lines : List (List ℕ)) (next : List ℕ)
    (others : List (List ℕ)) (follow : ℕ → List (List ℕ) → Outcome A) → AllPass sort earlier lines
    → ask_lines sort earlier number (length lines) (lines ++ next ∷ others) follow ≡ follow (number + length lines) (next ∷ others)
unfolding ask_lines
lines_pass sort earlier number [] next others follow pass =
    let same : number ≡ number + 0 = omega arith in ap (λ k. follow k (next ∷ others)) same
lines_pass sort earlier number (line ∷ lines) next others follow pass =
    let here : suc number + length lines ≡ number + suc (length lines) = omega arith in
    lines-step sort earlier number (length lines) line lines next others follow pass.0
    ∙ lines_pass sort (line ∷ earlier) (suc number) lines next others follow pass.1
    ∙ ap (λ k. follow k (next ∷ others)) here
