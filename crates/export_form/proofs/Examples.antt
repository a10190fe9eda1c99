-- What the exported calls answer, computed: lengths, bytes and reads, and the numbers of orders of placing with the questions before them.
use mathlib.Core.Path.{◌≡◌, refl}
use mathlib.Core.Bool.{true, false}
use mathlib.Core.List.{[], ◌∷◌, map}
use lib.IntN.{pos}
use lib.ListN.{replicate}
use Rattle.std.specs.Prelude.{None, Some, Ok, Err}
use Rattle.matrix_form.specs.Outcomes.{value, refused}
use Rattle.matrix_form.specs.Questions.{one_to, within_limits, ask_matrix}
use Rattle.matrix_form.specs.declared.refusal.Refusal.TheVariants.{ListSize, UnknownOrder, BeyondLimits}
use Rattle.file_form.specs.declared.header.Kind.TheVariants.{Wagner, Own}
use Rattle.tree_form.specs.declared.order.Order.TheVariants.{Advance, Closest}
use Rattle.fit_form.specs.Calls.{lists_full}
use Rattle.export_form.specs.Orders.{is_number, order_numbered, ask_order, ask_fit_order}
use Rattle.export_form.specs.Answers.{listed, file_read, measured, indexed}
use Rattle.export_form.specs.Calls.{ask_build}
use Rattle.matrix_form.specs.Shape.{matrix_of}

-- what comes back
pub record Examples : Type 0 where
  -- how many bytes are written, or the number of the refusal and none
  pub bytes : listed (value 7) ∷ listed (refused 12 0) ∷ [] ≡ record { refusal = 0; length = 7 } ∷ record { refusal = 12; length = 0 } ∷ []
  -- a length, or the number of a refusal
  pub length : measured (value 7) ≡ record { refusal = 0; length = 7 }
  pub no_length : measured (refused 13 0) ≡ record { refusal = 13; length = 0 }
  -- an index, none with a total of 0, or the number of a refusal
  pub index : indexed (value (Some (record { quotient = 888; remainder = 8 })))
      ≡ record { refusal = 0; divided = 1; quotient = 888; remainder = 8 }
  pub no_index : indexed (value None) ≡ record { refusal = 0; divided = 0; quotient = 0; remainder = 0 }
  pub index_refused : indexed (refused 14 0) ≡ record { refusal = 14; divided = 0; quotient = 0; remainder = 0 }
  -- a `W` file of 4 taxa and 3 characters with `closest`, one without a word, which goes by advancement, an `F` file, which has no order,
  -- and a refusal with its line
  pub read : file_read (value (record { kind = Wagner; n = 4; m = 3; order = Some Closest; weighed = true }))
      ≡ record { refusal = 0; line = 0; kind = 1; n = 4; m = 3; order = 2 }
  pub wordless_read : file_read (value (record { kind = Wagner; n = 4; m = 3; order = None; weighed = false }))
      ≡ record { refusal = 0; line = 0; kind = 1; n = 4; m = 3; order = 1 }
  pub own_read : file_read (value (record { kind = Own; n = 5; m = 2; order = None; weighed = false }))
      ≡ record { refusal = 0; line = 0; kind = 2; n = 5; m = 2; order = 0 }
  pub read_refused : file_read (refused 7 4) ≡ record { refusal = 7; line = 4; kind = 0; n = 0; m = 0; order = 0 }

-- they are as said
pub examples : Examples
examples =
    record {
      bytes = refl;
      length = refl;
      no_length = refl;
      index = refl;
      no_index = refl;
      index_refused = refl;
      read = refl;
      wordless_read = refl;
      own_read = refl;
      read_refused = refl;
    }

-- the numbers of orders
pub record OrderExamples : Type 0 where
  -- 1 and 2 are numbers of orders, 0 and 3 are none
  pub known : map is_number (0 ∷ 1 ∷ 2 ∷ 3 ∷ []) ≡ false ∷ true ∷ true ∷ false ∷ []
  pub meant : map order_numbered (1 ∷ 2 ∷ []) ≡ Advance ∷ Closest ∷ []
  -- the sizes of the matrix and of the weights are asked before the number
  pub asked : ask_order 16128 128 2 ∷ ask_order 16128 128 3 ∷ ask_order 16127 128 3 ∷ ask_order 16128 127 3 ∷ []
      ≡ Ok tt ∷ Err UnknownOrder ∷ Err ListSize ∷ Err ListSize ∷ []
  -- and those of the three lists before all
  pub lists : ask_fit_order 16128 16128 16128 16128 128 3
      ∷ ask_fit_order 16127 16128 16128 16128 128 3
      ∷ ask_fit_order 16128 16129 16128 16128 128 3
      ∷ ask_fit_order 16128 16128 0 16128 128 3
      ∷ []
      ≡ Err UnknownOrder ∷ Err ListSize ∷ Err ListSize ∷ Err ListSize ∷ []
  -- the number is asked before n and m: no taxa, and an order that is not known
  pub before_limits : ask_build (matrix_of (replicate 16128 (pos 0)) (replicate 128 1)) 0 1 3 ∷ ask_build
      (matrix_of (replicate 16128 (pos 0)) (replicate 128 1)) 0 1 2 ∷ []
      ≡ Err UnknownOrder ∷ Err BeyondLimits ∷ []

-- they are as said
pub order_examples : OrderExamples
unfolding is_number order_numbered ask_order ask_fit_order lists_full ask_build ask_matrix within_limits one_to
order_examples = record { known = refl; meant = refl; asked = refl; lists = refl; before_limits = refl }
