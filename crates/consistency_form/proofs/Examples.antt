-- Floors and indices computed where a slip would show.
use mathlib.Core.Path.{◌≡◌, refl}
use mathlib.Core.List.{[], ◌∷◌}
use lib.IntN.{pos}
use lib.ListN.{replicate, set}
use native.Mathlib.Omega.{arith}
use Rattle.std.proofs.Common.{Some, None}
use Rattle.lists.specs.Numbers.{numbers}
use Rattle.lists.specs.Sums.{sum_over}
use Rattle.lists.specs.Tests.{every}
use Rattle.matrix_form.specs.Shape.{row, in_range, is_weight, weight_at, weight_of, matrix_of}
use Rattle.matrix_form.specs.NodeRows.{rows_of}
use Rattle.matrix_form.specs.Questions.{one_to, within_limits, ask_code, ask_row_of, ask_rows_of, are_weights, ask_matrix}
use Rattle.matrix_form.specs.Outcomes.{value, ask_each}
use Rattle.matrix_form.proofs.Sample.{rows_abcd}
use Rattle.matrix_form.specs.Spans.{only, singles, spans_of}
use Rattle.difference_form.specs.Rows.{apart, part, lower, higher, weighing}
use Rattle.fit_form.specs.Assignments.{character}
use Rattle.consistency_form.specs.Floor.{left_by, lowest, highest, states_of, character_floor, floor}
use Rattle.consistency_form.specs.Index.{IsIndex, divided, index}
use Rattle.consistency_form.specs.Calls.{floor_answer}

-- the floor of document 01's example A, B, C, D is 3 and 3 and 2; row 1 has the lowest code of characters 2 and 3
example_floor : floor (weighing (1 ∷ 1 ∷ 1 ∷ [])).step (singles rows_abcd) 4 3 ≡ 8
unfolding floor character_floor states_of character singles only numbers sum_over highest lowest left_by higher lower part apart weight_of weight_at
example_floor = refl

-- by the weights 2, 1 and 5 it is 6 and 3 and 10
weighed-floor : floor (weighing (2 ∷ 1 ∷ 5 ∷ [])).step (singles rows_abcd) 4 3 ≡ 19
unfolding floor character_floor states_of character singles only numbers sum_over highest lowest left_by higher lower part apart weight_of weight_at
weighed-floor = refl

-- the call for the floor: one character of two taxa with codes 5 and 0, which counts four times
weighed-answer : floor_answer (matrix_of (set (replicate 16128 (pos 0)) 0 (pos 5)) (4 ∷ replicate 127 1)) 2 1 ≡ value 20
unfolding floor character_floor states_of character singles only numbers sum_over highest lowest left_by higher lower part apart weight_of weight_at
    every row in_range is_weight one_to within_limits ask_each ask_code ask_row_of ask_rows_of are_weights ask_matrix rows_of spans_of floor_answer
weighed-answer = refl

-- the example's total is 9: 888 thousandths, and 8 left over
example_index : index 8 9 ≡ Some (record { quotient = 888; remainder = 8 })
unfolding index
example_index = refl

-- so it is the index by its meaning: 8000 are 888 times 9 and 8
example_divided : IsIndex 8 9 (Some (record { quotient = 888; remainder = 8 }))
example_divided = divided 888 8 refl (omega arith)

-- a total that is its floor makes 1000 thousandths, and nothing is left over
whole-index : index 9 9 ≡ Some (record { quotient = 1000; remainder = 0 })
unfolding index
whole-index = refl

-- a floor of 0 below a total makes none
empty_index : index 0 7 ≡ Some (record { quotient = 0; remainder = 0 })
unfolding index
empty_index = refl

-- with a total of 0 there is no index
no_index : index 0 0 ≡ None
unfolding index
no_index = refl
