-- What line 1 says, and what questions put to a line answer.
use mathlib.Core.List.{List, []}
use Rattle.std.specs.Prelude.{ℕ, get_or, Option, Result, Ok, Err}
use Rattle.matrix_form.specs.Outcomes.{Asked, ask}
use Rattle.matrix_form.specs.declared.refusal.Refusal.{Refusal}
use Rattle.matrix_form.specs.declared.refusal.Refusal.TheVariants.{UnknownOrder}
use Rattle.file_form.specs.declared.header.Kind.{Kind}
use Rattle.tree_form.specs.declared.order.Order.{Order}
use Rattle.file_form.specs.declared.answer.Refused.{Refused}
use Rattle.text_form.specs.Decimal.{number_of}
use Rattle.file_form.specs.Kinds.{kind_said}
use Rattle.file_form.specs.Header.{order_known, order_in}

-- the kind, n and m that the fields of line 1 say
abbrev pub first_said : List (List ℕ) → Kind × ℕ × ℕ
first_said fields = (kind_said (get_or fields 0 []), number_of (get_or fields 1 []), number_of (get_or fields 2 []))

-- a value, if questions pass
abbrev pub with_value : {A : Type 0} → Asked → A → Result A Refusal
with_value (Ok _) a = Ok a
with_value (Err refusal) a = Err refusal

-- the word for the order that the fields of line 1 carry, if it is known
abbrev pub order_asked : List (List ℕ) → Result (Option Order) Refusal
order_asked fields = with_value (ask (order_known fields) UnknownOrder (Ok tt)) (order_in fields)

-- an answer, with the line where it refuses
abbrev pub at_line : {A : Type 0} → ℕ → Result A Refusal → Result A Refused
at_line line (Ok a) = Ok a
at_line line (Err refusal) = Err (record { refusal = refusal; line = line })
