-- From a file's bytes to the bytes of its listing: what the call answers, and what the lent bytes then hold.
use Rattle.std.specs.Prelude.{◌≡◌, List, ◌++◌, ℕ, eqb, length, drop, Result, Ok, Err}
use Rattle.matrix_form.specs.Refusals.{refusal_number}
use Rattle.matrix_form.specs.Outcomes.{Asked, Outcome, value, refused, ask, answered, asked_says, afterwards}
use Rattle.matrix_form.specs.declared.refusal.Refusal.{Refusal}
use Rattle.matrix_form.specs.declared.refusal.Refusal.TheVariants.{ListSize}
use Rattle.listing_form.specs.Listing.{output}

-- 1,048,576 bytes are lent for what is printed
abbrev pub output_size : ℕ
output_size = 1048576

-- the one question of the call: have the lent bytes their full size?
unfoldable pub ask_output : List ℕ → Asked
ask_output lent = ask (eqb (length lent) output_size) ListSize (Ok tt)

-- what an answer says: how many bytes were written, or the number of the refusal
abbrev pub listed_says : Result ℕ Refusal → Outcome ℕ
listed_says (Ok count) = value count
listed_says (Err refusal) = refused (refusal_number refusal) 0

-- the call says how many bytes are printed for the file; they then stand in front of the lent bytes, all of them, and everything behind
-- them is as before. A refusal leaves the lent bytes as before
pub record ListDone (file old new : List ℕ) (r : Result ℕ Refusal) : Type 0 where
  pub says : listed_says r ≡ answered (ask_output old) (length (output file))
  pub bytes : new ≡ afterwards (asked_says (ask_output old)) (output file ++ drop (length (output file)) old) old
