-- What the call for a build hands back: after a refusal, and where the questions pass. Each theorem uses the contract, so that a weaker
-- one would not prove it.
use Rattle.std.proofs.Common.{◌≡◌, ℕ, Result, Ok, Err, List, ℤ, refl, ap}
use Rattle.matrix_form.specs.Shape.{MatrixLists}
use Rattle.matrix_form.specs.Questions.{ask_matrix}
use Rattle.matrix_form.specs.declared.refusal.Refusal.{Refusal}
use Rattle.tree_form.specs.declared.order.Order.{Order}
use Rattle.wagner.specs.declared.answer.WagnerTree.{WagnerTree}
use Rattle.wagner.specs.Calls.{BuiltFrom, BuildDone}

module _ (order : Order) (lists : MatrixLists) (new : List ℤ) (n m : ℕ) where
  -- after a refusal its answer is the refusal, and the matrix is as before
  pub build_refused : (r : Result WagnerTree Refusal) → BuildDone order lists new n m r → (refusal : Refusal)
      → ask_matrix lists n m ≡ Err refusal
      → (r ≡ Err refusal) × (new ≡ lists.codes)
  build_refused (Ok built) answer refusal e = let passed = answer.passed in cc
  build_refused (Err other) answer refusal e =
      let told = answer.refused in
      let same : other ≡ refusal = cc in
      (ap Err same, answer.matrix)

  -- where the questions pass it is the build
  pub build_passed : (r : Result WagnerTree Refusal) → BuildDone order lists new n m r → ask_matrix lists n m ≡ Ok tt
      → (built : WagnerTree) × (r ≡ Ok built) × BuiltFrom order lists new n m built
  build_passed (Ok built) answer e = (built, refl, answer)
  build_passed (Err other) answer e = let told = answer.refused in cc
