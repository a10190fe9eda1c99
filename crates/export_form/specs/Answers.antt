-- What the structs that are handed back say of what an input brings.
use Rattle.std.specs.Prelude.{ℕ, Option, None, Some}
use Rattle.matrix_form.specs.Outcomes.{Outcome, value, refused}
use Rattle.file_form.specs.declared.header.Header.{Header}
use Rattle.file_form.specs.declared.header.Kind.{Kind}
use Rattle.file_form.specs.declared.header.Kind.TheVariants.{Wagner, Own}
use Rattle.tree_form.specs.declared.order.Order.{Order}
use Rattle.listing_form.specs.Meant.{order_meant}
use Rattle.export_form.specs.Orders.{order_number}
use Rattle.consistency_form.specs.declared.index.Index.{Index}
use Rattle.export_form.specs.declared.answers.FileRead.{FileRead}
use Rattle.export_form.specs.declared.answers.Indexed.{Indexed}
use Rattle.export_form.specs.declared.answers.Listed.{Listed}
use Rattle.export_form.specs.declared.answers.Measured.{Measured}

-- how many bytes were written, with 0 for the refusal; or the number of the refusal, with 0 for the bytes
abbrev pub listed : Outcome ℕ → Listed
listed (value count) = record { refusal = 0; length = count }
listed (refused number line) = record { refusal = number; length = 0 }

-- the number of a kind of file: 1 for `W`, 2 for `F`
abbrev pub kind_number : Kind → ℕ
kind_number Wagner = 1
kind_number Own = 2

-- the number of the order of placing that a file means: 0 for an `F` file, which brings its branching
abbrev pub order_read : Kind → Option Order → ℕ
order_read Wagner word = order_number (order_meant word)
order_read Own word = 0

-- the header of an accepted file and the order of placing that it means, with 0 for the refusal and its line, and 0 for no order; or the
-- number of the refusal and its line, with 0 for the others
abbrev pub file_read : Outcome Header → FileRead
file_read (value header) =
    record {
      refusal = 0;
      line = 0;
      kind = kind_number header.kind;
      n = header.n;
      m = header.m;
      order = order_read header.kind header.order;
    }
file_read (refused number line) = record { refusal = number; line = line; kind = 0; n = 0; m = 0; order = 0 }

-- a length, with 0 for the refusal; or the number of the refusal, with 0 for the length
abbrev pub measured : Outcome ℕ → Measured
measured (value length) = record { refusal = 0; length = length }
measured (refused number line) = record { refusal = number; length = 0 }

-- an index, with 0 for the refusal: 1, quotient and remainder, or zeros where there is none; or the number of the refusal, with zeros
abbrev pub indexed : Outcome (Option Index) → Indexed
indexed (value (Some index)) = record { refusal = 0; divided = 1; quotient = index.quotient; remainder = index.remainder }
indexed (value None) = record { refusal = 0; divided = 0; quotient = 0; remainder = 0 }
indexed (refused number line) = record { refusal = number; divided = 0; quotient = 0; remainder = 0 }
