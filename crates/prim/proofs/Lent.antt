-- The Prim Network of a lent matrix by the weights of its characters: how far its taxa can be apart, that no connected network is
-- shorter, and which weights decide it.
use Rattle.std.specs.Prelude.{Result, Ok, Err, IsOkAnd}
use mathlib.Core.Path.{◌≡◌}
use mathlib.Core.List.{List}
use Prim.Native.Nat.{ℕ, ◌≤◌, ◌<◌}
use native.Mathlib.Omega.{arith}
use lib.IntN.{ℤ}
use lib.ListN.{length}
use Rattle.difference_form.specs.Rows.{node_difference, difference, unweighted, most_difference}
use Rattle.matrix_form.specs.Shape.{row, weight_at, MatrixLists}
use Rattle.matrix_form.specs.Questions.{LentMatrix, LentWeights, ask_matrix}
use Rattle.matrix_form.specs.declared.refusal.Refusal.{Refusal}
use Rattle.matrix_form.proofs.Answering.{answers-passed}
use Rattle.matrix_form.proofs.Limits.{many-unshaped}
use Rattle.matrix_form.proofs.Row.{row-most, row-length}
use Rattle.difference_form.proofs.Laws.Rows.{difference-sym, difference_limit}
use Rattle.difference_form.proofs.Laws.Weights.{difference-weights, difference-alike}
use Rattle.lists.specs.Sums.{sum_over}
use Rattle.prim_form.specs.Network.{network, network_length}
use Rattle.prim_form.specs.Rival.{IsTaxon, Connected, Shortest, links_length}
use Rattle.prim.specs.Calls.{Holds, NetworkOf, NetworkAnswer}
use Rattle.prim.specs.Growing.{Near}
use Rattle.prim.specs.declared.answer.Network.{Network}
use Rattle.prim_form.proofs.Shortest.{shortest}
use Rattle.prim_form.proofs.Agreement.{network_agrees}

-- two taxa of a lent matrix differ by at most 2,301,696
pub taxa-most : (lists : MatrixLists) (n m x y : ℕ) → LentMatrix lists.codes n m → LentWeights lists.weights m → IsTaxon n x
    → IsTaxon n y → node_difference (difference lists.weights) (row lists.codes m) x y ≤ most_difference
unfolding node_difference
taxa-most lists n m x y lent weighted tx ty =
    let size = row-length lists.codes m x lent.full lent.characters tx.0 (omega (arith, tx.1, lent.taxa)) in
    difference_limit lists.weights (row lists.codes m x) (row lists.codes m y) (rw size weighted.known) (lent.known x tx.0 tx.1)
    (lent.known y ty.0 ty.1) (omega (arith, size, lent.characters))

-- so none is far from row 1
pub near_row_one : (lists : MatrixLists) (n m : ℕ) → LentMatrix lists.codes n m → LentWeights lists.weights m
    → Near (node_difference (difference lists.weights) (row lists.codes m)) n
near_row_one lists n m lent weighted v low high =
    let some = lent.taxon in taxa-most lists n m v 1 lent weighted (low, high) (omega arith)

-- the difference of two taxa is the same either way round
pub taxa-sym : (lists : MatrixLists) (m x y : ℕ)
    → node_difference (difference lists.weights) (row lists.codes m) x y
    ≡ node_difference (difference lists.weights) (row lists.codes m) y x
unfolding node_difference
taxa-sym lists m x y = difference-sym lists.weights (row lists.codes m x) (row lists.codes m y)

module _ (lists : MatrixLists) (n m : ℕ) where
  -- of any matrix, the Prim Network is a connected network, of length its total, and no connected network is shorter
  pub matrix_shortest : Shortest (node_difference (difference lists.weights) (row lists.codes m)) n
  matrix_shortest = shortest (node_difference (difference lists.weights) (row lists.codes m)) (taxa-sym lists m) n

  -- for more than 64 taxa no link is found
  pub many-unlinked : (r : Network) → NetworkOf lists n m r → 64 < n → (r.links.count ≡ 0) × (r.total ≡ 0)
  unfolding network_length sum_over
  many-unlinked r of more = let none = of.unshaped (many-unshaped (length lists.codes) n m more) in (none.count, none.total)

  -- where the questions pass, a network is handed back that holds the Prim Network
  pub answer_holds : (r : Result Network Refusal) → NetworkAnswer lists n m r → ask_matrix lists n m ≡ Ok tt
      → IsOkAnd r (Holds (network (node_difference (difference lists.weights) (row lists.codes m)) n))
  answer_holds = answers-passed (ask_matrix lists n m) (Holds (network (node_difference (difference lists.weights) (row lists.codes m)) n))

  -- and no connected network of the taxa is shorter than its total
  pub answer_least : (r : Result Network Refusal) → NetworkAnswer lists n m r → ask_matrix lists n m ≡ Ok tt
      → IsOkAnd r (λ found. (links : List (ℕ × ℕ)) → Connected n links
      → found.total ≤ links_length (node_difference (difference lists.weights) (row lists.codes m)) links)
  answer_least (Ok found) a pass = λ links c. rw (a.1).total (matrix_shortest.least links c)
  answer_least (Err refusal) a pass = cc

-- two differences that agree on rows of at most m codes have the same Prim Network
rows_decide : (by by' : List ℤ → List ℤ → ℕ) (codes : List ℤ) (n m : ℕ)
    → ((xs ys : List ℤ) → length xs ≤ m → by xs ys ≡ by' xs ys)
    → network (node_difference by (row codes m)) n ≡ network (node_difference by' (row codes m)) n
unfolding node_difference
rows_decide by by' codes n m agree =
    network_agrees (node_difference by (row codes m)) (node_difference by' (row codes m)) n
    (λ x y tx ty. agree (row codes m x) (row codes m y) (row-most codes m x))

-- the weights of characters 1 to m decide the Prim Network
pub network-weights : (codes : List ℤ) (v w : List ℕ) (n m : ℕ) → ((i : ℕ) → i < m → weight_at v i ≡ weight_at w i)
    → network (node_difference (difference v) (row codes m)) n ≡ network (node_difference (difference w) (row codes m)) n
network-weights codes v w n m same =
    rows_decide (difference v) (difference w) codes n m
    (λ xs ys few. difference-weights v w xs ys (λ i below. same i (omega arith)))

-- where they are all 1 it is document 01's, by the difference without weights
pub network-alike : (lists : MatrixLists) (n m : ℕ) → ((i : ℕ) → i < m → weight_at lists.weights i ≡ 1)
    → network (node_difference (difference lists.weights) (row lists.codes m)) n
    ≡ network (node_difference unweighted (row lists.codes m)) n
network-alike lists n m alike =
    rows_decide (difference lists.weights) unweighted lists.codes n m
    (λ xs ys few. difference-alike lists.weights xs ys (λ i below. alike i (omega arith)))
