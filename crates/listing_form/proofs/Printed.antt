-- What is printed for a file is what its answer says, and no more of the file than its first 45,001 bytes decides it.
use mathlib.Core.Path.{◌≡◌, ap}
use mathlib.Core.List.{List}
use Prim.Native.Nat.{ℕ}
use lib.ListN.{take}
use Rattle.file_form.specs.Job.{Job}
use Rattle.matrix_form.specs.Outcomes.{Outcome}
use Rattle.file_form.specs.Reading.{read_answer}
use Rattle.file_form.proofs.File.Longer.{front-read}
use Rattle.listing_form.specs.Lines.{joined}
use Rattle.listing_form.specs.Listing.{printed, listing_of, output}

-- the output for a file: the lines printed for its answer, joined
pub output-printed : (file : List ℕ) (answer : Outcome Job) → read_answer file ≡ answer → output file ≡ joined (printed answer)
unfolding output listing_of
output-printed file answer e = ap (λ said. joined (printed said)) e

-- for the first 45,001 bytes of a file, and the program reads no more, the same is printed as for all of it
pub front-output : (file : List ℕ) → output (take 45001 file) ≡ output file
unfolding output listing_of
front-output file = ap (λ said. joined (printed said)) (front-read file)
