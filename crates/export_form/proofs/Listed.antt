-- What the exported call for a listing hands back, from what the call below it answers.
use mathlib.Core.Path.{◌≡◌, ap, ◌∙◌}
use mathlib.Core.Logic.{by_cases}
use mathlib.Core.List.{List, ◌++◌}
use Prim.Native.Nat.{ℕ}
use native.Mathlib.Omega.{arith}
use native.Mathlib.Decide.{ℕ_discrete}
use borrow.Author.Tests.{eq-eqb, ne_eqb}
use lib.ListN.{length, drop, length-append}
use Rattle.std.specs.Prelude.{Result, Ok, Err}
use Rattle.matrix_form.specs.Outcomes.{answered}
use Rattle.matrix_form.specs.declared.refusal.Refusal.{Refusal}
use Rattle.matrix_form.specs.declared.refusal.Refusal.TheVariants.{ListSize}
use Rattle.listing_form.specs.Listing.{output}
use Rattle.listing_form.specs.Calls.{output_size, ask_output, listed_says, ListDone}
use Rattle.export_form.specs.Answers.{listed}
use Rattle.export_form.specs.Calls.{ListExported}
use Rattle.export_form.specs.declared.answers.Listed.{Listed}

module _ (file old new : List ℕ) (answer : Result ℕ Refusal) (done : ListDone file old new answer) (r : Listed)
    (says : r ≡ listed (listed_says answer)) where
  -- it says how many bytes are printed, or the refusal
  answers : r ≡ listed (answered (ask_output old) (length (output file)))
  answers = says ∙ ap listed done.says

  -- as many bytes were lent as are asked for
  list_full : length old ≡ output_size → ListExported file old new r
  list_full full =
      let pass : ask_output old ≡ Ok tt = unfold ask_output in rw (eq-eqb (length old) output_size full) in
      let said : r ≡ record { refusal = 0; length = length (output file) } = rw pass at answers in
      let front : new ≡ output file ++ drop (length (output file)) old = rw pass at done.bytes in
      let size : length new ≡ length (output file ++ drop (length (output file)) old) = ap length front in
      let passed : r.refusal ≡ 0 = ap (λ (x : Listed). x.refusal) said in
      let count : r.length ≡ length (output file) = ap (λ (x : Listed). x.length) said in
      record {
        answers = answers;
        bytes = done.bytes;
        refused = (λ twelve. absurd (omega (arith, passed)), λ other. absurd (other full));
        within = omega (arith, size, length-append (output file) (drop (length (output file)) old), count);
      }

  -- another number of them
  list-other : (length old ≡ output_size → ⊥) → ListExported file old new r
  list-other other =
      let refuses : ask_output old ≡ Err ListSize = unfold ask_output in rw (ne_eqb (length old) output_size other) in
      let said : r ≡ record { refusal = 12; length = 0 } = rw refuses at answers in
      let count : r.length ≡ 0 = ap (λ (x : Listed). x.length) said in
      record {
        answers = answers;
        bytes = done.bytes;
        refused = (λ twelve. other, λ kept. ap (λ (x : Listed). x.refusal) said);
        within = omega (arith, count);
      }

  -- what the exported call hands back
  pub list_exported : ListExported file old new r
  list_exported = by_cases (ℕ_discrete (length old) output_size) list_full list-other
