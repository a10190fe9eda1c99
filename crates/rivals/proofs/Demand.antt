-- Demand 3 holds for every accepted matrix.
use mathlib.Core.Path.{◌≡◌, refl, subst, subst⁻¹}
use mathlib.Core.Logic.{◌↔◌}
use mathlib.Core.Bool.{true}
use mathlib.Core.List.{List, []}
use Prim.Native.Nat.{ℕ, zero, suc, ◌≤◌}
use lib.IntN.{ℤ}
use Rattle.matrix_form.specs.Shape.{weight_at}
use Rattle.matrix_form.specs.NodeRows.{row_of}
use Rattle.matrix_form.specs.Questions.{within_limits, one_to, are_weights}
use Rattle.lists.specs.Tests.{every}
use Rattle.lists.proofs.Both.{and_left, and_right}
use Rattle.matrix_form.proofs.Passing.{one_to-true}
use Rattle.difference_form.specs.Rows.{difference, weighing, plain, node_difference}
use Rattle.difference_form.proofs.Laws.Rows.{difference-sym}
use Rattle.difference_form.proofs.Laws.Measure.{measure_alike}
use Rattle.prim_form.specs.Rival.{Shortest}
use Rattle.prim_form.proofs.Shortest.{shortest}
use Rattle.tree_form.specs.Growing.{branching}
use Rattle.tree_form.specs.Branches.{named_in_order, lent_branching, ancestors_of}
use Rattle.wagner_form.specs.Build.{wagner}
use Rattle.wagner_form.proofs.Whole.{wagner-branching}
use Rattle.tree_form.proofs.Test.{branching_iff}
use Rattle.matrix_form.specs.Spans.{singles}
use Rattle.fit_form.proofs.Matrix.Proper.{singles_proper}
use Rattle.fit_form.specs.Rival.{FitIsLeast}
use Rattle.fit_form.proofs.Matrix.ThirdRival.{third_rival}
use Rattle.rivals.specs.Accepted.{Accepted}
use Rattle.rivals.specs.Demand.{NoRivalDoesBetter}
use Rattle.rivals.proofs.Rows.{MatrixRows, accepted_rows}
use Rattle.rivals.proofs.Placements.{handed-least, wagner-least}

-- n is from 1 to 64
pub taxa-limits : (n m : ℕ) → within_limits n m ≡ true → (1 ≤ n) × (n ≤ 64)
unfolding within_limits
taxa-limits n m e = one_to-true 64 n (and_left (one_to 64 n) (one_to 128 m) e)

-- the network
network_shortest : (weights : List ℕ) (rows : List (List ℤ)) (n : ℕ) → Shortest (node_difference (difference weights) (row_of rows)) n
unfolding node_difference
network_shortest weights rows n =
    shortest (node_difference (difference weights) (row_of rows)) (λ x y. difference-sym weights (row_of rows x) (row_of rows y)) n

-- the fit
fit-least : (weights : List ℕ) (n m : ℕ) (tree : List ℕ) (rows : List (List ℤ)) → 1 ≤ n → are_weights weights m ≡ true
    → branching n tree ≡ true → FitIsLeast (weighing weights).step tree (singles rows) n m
fit-least weights n m tree rows taxa known b =
    third_rival weights n m tree (singles rows) taxa known (singles_proper rows n m) ((branching_iff tree n taxa).0 b)

-- for n rows of m codes within the limits, by m weights
rows_no_rival : (n m : ℕ) (weights : List ℕ) (rows : List (List ℤ)) → MatrixRows n m weights rows
    → NoRivalDoesBetter (weighing weights) n m rows
unfolding lent_branching
rows_no_rival n m weights rows matrix =
    let limits = taxa-limits n m matrix.limits in
    record {
      network = network_shortest weights rows n;
      placement = handed-least weights n m limits.0 limits.1 rows matrix;
      build = λ order. wagner-least weights n m limits.0 limits.1 order rows matrix;
      whole = λ order.
          (branching_iff (wagner (difference weights) order n rows).tree n limits.0).1
          (wagner-branching (difference weights) order n limits.0 limits.1 rows);
      fit = λ tree b. fit-least weights n m tree rows limits.0 matrix.weighed b;
      lent_fit = λ records b.
          fit-least weights n m (ancestors_of n records) rows limits.0 matrix.weighed (and_right (named_in_order n records) (branching n
          (ancestors_of n records)) b);
    }

-- for every accepted matrix, by its weights
pub no_rival : (n m : ℕ) (weights : List ℕ) (rows : List (List ℤ)) → Accepted n m weights rows
    → NoRivalDoesBetter (weighing weights) n m rows
no_rival n m weights rows a = rows_no_rival n m weights rows (accepted_rows a)

-- no weights are no other weights than 1
none-known : (m : ℕ) → are_weights [] m ≡ true
unfolding are_weights every
none-known zero = refl
none-known (suc m) = refl

-- and for every accepted matrix the claim that document 01 makes of it, without weights
pub no_rival_unweighted : (n m : ℕ) (weights : List ℕ) (rows : List (List ℤ)) → Accepted n m weights rows
    → NoRivalDoesBetter plain n m rows
unfolding weight_at
no_rival_unweighted n m weights rows a =
    let matrix = accepted_rows a in
    subst (λ measure. NoRivalDoesBetter measure n m rows) (measure_alike [] (λ i. refl))
    (rows_no_rival n m [] rows (record {
      limits = matrix.limits;
      weighed = none-known m;
      count = matrix.count;
      codes = matrix.codes;
    }))

-- where every character weighs 1 the claim is document 01's
pub no_rival_alike : (n m : ℕ) (weights : List ℕ) (rows : List (List ℤ)) → ((i : ℕ) → weight_at weights i ≡ 1)
    → NoRivalDoesBetter (weighing weights) n m rows ↔ NoRivalDoesBetter plain n m rows
no_rival_alike n m weights rows alike =
    let same = measure_alike weights alike in (
      λ claim. subst (λ measure. NoRivalDoesBetter measure n m rows) same claim,
      λ claim. subst⁻¹ (λ measure. NoRivalDoesBetter measure n m rows) same claim,
    )
