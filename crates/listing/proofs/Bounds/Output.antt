-- All that is printed for a file, accepted or refused, has room in 1,048,576 bytes, and 733,519 of them are left.
use mathlib.Core.Path.{◌≡◌, refl, ap}
use mathlib.Core.List.{List, [], ◌∷◌}
use Prim.Native.Nat.{ℕ, ◌+◌, ◌≤◌}
use native.Mathlib.Omega.{arith}
use lib.ListN.{length}
use Rattle.text_form.specs.Decimal.{digits_of}
use Rattle.matrix_form.specs.Outcomes.{Outcome, value, refused}
use Rattle.file_form.specs.Job.{Job}
use Rattle.file_form.specs.declared.header.Kind.{Kind}
use Rattle.file_form.specs.declared.header.Kind.TheVariants.{Wagner, Own}
use Rattle.file_form.specs.Reading.{read_answer}
use Rattle.file_form.proofs.File.Numbered.{highest_number, refused_bounds}
use Rattle.text_form.specs.Text.{bytes}
use Rattle.file_form.proofs.File.Accepted.{accepted_exactly}
use Rattle.listing_form.specs.Lines.{joined}
use Rattle.listing_form.specs.Kinds.{refusal_line}
use Rattle.listing_form.specs.Listing.{printed, listing_of, output}
use Rattle.listing_form.specs.Calls.{output_size}
use Rattle.listing_form.proofs.Joined.{joined-one}
use Rattle.listing_form.proofs.LineSizes.{sizes, line-size}
use Rattle.listing.proofs.Bounds.Fields.{number_size}
use Rattle.listing.proofs.Bounds.LineNumbers.{most_lines, LineWithin, none, some, file-line}
use Rattle.listing.proofs.Bounds.Room.{most_listing, room_left, most_and_left, job_room}

-- the line of a refusal
refusal_room : (number at : ℕ) → number ≤ highest_number → at ≤ most_lines → length (joined (refusal_line number at ∷ [])) + room_left ≤ output_size
unfolding refusal_line sizes bytes
refusal_room number at few h =
    omega (
      arith,
      ap length (joined-one (refusal_line number at)),
      line-size (bytes "R") (digits_of number ∷ digits_of at ∷ []),
      number_size number (omega arith),
      number_size at (omega arith),
    )

-- a listing leaves as much, of either kind of file
listing_left : (kind : Kind) (size : ℕ) → size ≤ most_listing kind → size + room_left ≤ output_size
listing_left Wagner size h = omega (arith, h, most_and_left.0)
listing_left Own size h = omega (arith, h, most_and_left.1)

-- every file's output leaves as much
pub output_left : (file : List ℕ) → length (output file) + room_left ≤ output_size
unfolding output listing_of printed
output_left file = by (read_answer file) refl (file-line file)
  where
    by : (outcome : Outcome Job) → read_answer file ≡ outcome → LineWithin most_lines outcome
        → length (joined (printed outcome)) + room_left ≤ output_size
    by (value job) e none = listing_left job.kind _ (job_room job ((accepted_exactly file job).0 e).0)
    by (refused number line) e (some h) = refusal_room number line (refused_bounds file number line e).1 h

-- so it has room
pub output_room : (file : List ℕ) → length (output file) ≤ output_size
output_room file = omega (arith, output_left file)
