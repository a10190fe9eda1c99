-- Orders of placing by number, and the question put to such a number: a rule for a word in a file binds the number handed to a call, by the
-- same refusal and at the file's place in the order of questions.
use Rattle.std.specs.Prelude.{Bool, cond, ◌||◌, ℕ, eqb, Ok}
use Rattle.matrix_form.specs.Shape.{columns, matrix_size}
use Rattle.matrix_form.specs.Outcomes.{Asked, ask}
use Rattle.matrix_form.specs.declared.refusal.Refusal.TheVariants.{ListSize, UnknownOrder}
use Rattle.tree_form.specs.declared.order.Order.{Order}
use Rattle.tree_form.specs.declared.order.Order.TheVariants.{Advance, Closest}
use Rattle.fit_form.specs.Calls.{lists_full}

-- the number of an order: 1 by advancement, 2 the closest first
abbrev pub order_number : Order → ℕ
order_number Advance = 1
order_number Closest = 2

-- it is the number of an order
unfoldable pub is_number : ℕ → Bool
is_number number = eqb number (order_number Advance) || eqb number (order_number Closest)

-- the order with a number; only 1 and 2 pass the question
unfoldable pub order_numbered : ℕ → Order
order_numbered number = cond (eqb number (order_number Closest)) Closest Advance

-- the question put to an order's number, behind those of the sizes of the matrix and of the weights
unfoldable pub ask_order : ℕ → ℕ → ℕ → Asked
ask_order size weights number =
    ask (eqb size matrix_size) ListSize (ask (eqb weights columns) ListSize (ask (is_number number) UnknownOrder (Ok tt)))

-- the same behind the sizes of the three lists of a fit
unfoldable pub ask_fit_order : ℕ → ℕ → ℕ → ℕ → ℕ → ℕ → Asked
ask_fit_order low high chosen size weights number = ask (lists_full low high chosen) ListSize (ask_order size weights number)
