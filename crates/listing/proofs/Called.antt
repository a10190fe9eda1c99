-- The answers of the call from a file's bytes to the bytes of its listing.
use mathlib.Core.Path.{◌≡◌, ap}
use mathlib.Core.List.{List}
use Prim.Native.Nat.{ℕ}
use Rattle.std.specs.Prelude.{Ok, Err}
use native.Mathlib.Omega.{arith}
use borrow.Author.Tests.{eq-eqb, ne_eqb}
use lib.ListN.{length}
use Rattle.matrix_form.specs.Outcomes.{value}
use Rattle.matrix_form.specs.declared.refusal.Refusal.TheVariants.{ListSize}
use Rattle.lines.specs.Put.{Put}
use Rattle.listing_form.specs.Listing.{output}
use Rattle.listing_form.specs.Calls.{output_size, ask_output, ListDone}
use Rattle.listing.proofs.PutFront.{put_front}
use Rattle.listing.proofs.Bounds.Output.{output_room}

-- not as many bytes were lent as are asked for: nothing is written
pub list-refused : (file old : List ℕ) → (length old ≡ output_size → ⊥) → ListDone file old old (Err ListSize)
unfolding ask_output
list-refused file old h = record { says = rw (ne_eqb (length old) output_size h); bytes = rw (ne_eqb (length old) output_size h) }

-- what is printed was put into as many: it stands in front, whole
pub list_written : (file old new : List ℕ) (next : ℕ) → length old ≡ output_size → Put (output file) old 0 new next → ListDone file old new (Ok next)
unfolding ask_output
list_written file old new next full put =
    let front = put_front put (omega (arith, output_room file)) in
    record {
      says = rw (eq-eqb (length old) output_size full) (ap value front.1);
      bytes = rw (eq-eqb (length old) output_size full) front.0;
    }
