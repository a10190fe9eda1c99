-- Orders of placing by number: each order is read back from its number.
use mathlib.Core.Path.{◌≡◌, refl}
use mathlib.Core.Bool.{true}
use Rattle.tree_form.specs.declared.order.Order.{Order}
use Rattle.tree_form.specs.declared.order.Order.TheVariants.{Advance, Closest}
use Rattle.export_form.specs.Orders.{order_number, is_number, order_numbered}

-- an order is read back from its number, which passes
pub number_back : (order : Order) → (order_numbered (order_number order) ≡ order) × (is_number (order_number order) ≡ true)
unfolding order_numbered is_number
number_back Advance = (refl, refl)
number_back Closest = (refl, refl)
