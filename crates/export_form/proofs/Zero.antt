-- The number handed back is 0 exactly if nothing was refused.
use mathlib.Core.Path.{◌≡◌, refl}
use mathlib.Core.Logic.{◌↔◌}
use mathlib.Core.List.{List}
use Prim.Native.Nat.{ℕ, ◌≤◌}
use native.Mathlib.Omega.{arith}
use Rattle.std.specs.Prelude.{Option, None, Some, Ok, Err}
use Rattle.matrix_form.specs.Outcomes.{Asked, Outcome, value, refused, on_line, answered}
use Rattle.matrix_form.specs.Refusals.{refusal_number}
use Rattle.matrix_form.specs.declared.refusal.Refusal.{Refusal}
use Rattle.matrix_form.specs.declared.refusal.Refusal.TheVariants.{FileTooLong, FileEmpty, FirstLine, BeyondLimits, LineMissing}
use Rattle.matrix_form.specs.declared.refusal.Refusal.TheVariants.{NameForm, NameTaken, FieldCount, CodeForm, CodeRange, FileGoesOn}
use Rattle.matrix_form.specs.declared.refusal.Refusal.TheVariants.{ListSize, NotThere, NotBranching, UnknownOrder, WeightForm, BranchForm}
use Rattle.file_form.specs.Job.{Job}
use Rattle.file_form.specs.Reading.{read_answer}
use Rattle.file_form.specs.Calls.{ask_size, read_outcome, with_header}
use Rattle.file_form.specs.Written.{LentLists}
use Rattle.file_form.proofs.File.Numbered.{refused_bounds}
use Rattle.consistency_form.specs.declared.index.Index.{Index}
use Rattle.export_form.specs.Answers.{file_read, measured, indexed}

-- no refusal has the number 0
pub numbered : (refusal : Refusal) → 1 ≤ refusal_number refusal
numbered FileTooLong = omega arith
numbered FileEmpty = omega arith
numbered FirstLine = omega arith
numbered BeyondLimits = omega arith
numbered LineMissing = omega arith
numbered NameForm = omega arith
numbered NameTaken = omega arith
numbered FieldCount = omega arith
numbered CodeForm = omega arith
numbered CodeRange = omega arith
numbered FileGoesOn = omega arith
numbered ListSize = omega arith
numbered NotThere = omega arith
numbered NotBranching = omega arith
numbered UnknownOrder = omega arith
numbered WeightForm = omega arith
numbered BranchForm = omega arith

-- a call on a lent matrix hands back 0 exactly if its questions passed
pub zero_passed : (asked : Asked) (length : ℕ) → ((measured (answered asked length)).refusal ≡ 0) ↔ (asked ≡ Ok tt)
zero_passed (Ok _) length = (λ e. refl, λ e. refl)
zero_passed (Err refusal) length =
    (λ e. absurd (omega (arith, numbered refusal)), λ e. absurd (let z : ◌≡◌ {A = ℕ} 0 1 = cc in omega arith))

-- so does the call for an index
pub zero-indexed : (asked : Asked) (index : Option Index) → ((indexed (answered asked index)).refusal ≡ 0) ↔ (asked ≡ Ok tt)
zero-indexed (Ok _) (Some found) = (λ e. refl, λ e. refl)
zero-indexed (Ok _) None = (λ e. refl, λ e. refl)
zero-indexed (Err refusal) index =
    (λ e. absurd (omega (arith, numbered refusal)), λ e. absurd (let z : ◌≡◌ {A = ℕ} 0 1 = cc in omega arith))

-- which hands back 1 for divided exactly if there is an index
pub one-divided : (outcome : Outcome (Option Index)) → ((indexed outcome).divided ≡ 1) ↔ ((index : Index) × (outcome ≡ value (Some index)))
one-divided (value (Some found)) = (λ e. (found, refl), λ is. refl)
one-divided (value None) = (λ e. absurd (omega arith), λ is. let same = is.1 in absurd (let z : ◌≡◌ {A = ℕ} 0 1 = cc in omega arith))
one-divided (refused number line) = (λ e. absurd (omega arith), λ is. let same = is.1 in absurd (let z : ◌≡◌ {A = ℕ} 0 1 = cc in omega arith))

-- nor has any refusal of a read
read_numbered : (file : List ℕ) (lists : LentLists) (number line : ℕ) → read_outcome file lists ≡ refused number line → 1 ≤ number
unfolding read_outcome
read_numbered file lists number line e = go (ask_size lists) e
  where
    go : (asked : Asked) → on_line 0 asked (read_answer file) ≡ refused number line → 1 ≤ number
    go (Ok _) e = (refused_bounds file number line e).0
    go (Err refusal) e = let same : refusal_number refusal ≡ number = cc in omega (arith, numbered refusal)

-- what a file brings is a job, or it is refused by a number that is not 0
zero-value : (outcome : Outcome Job) → ((number line : ℕ) → outcome ≡ refused number line → 1 ≤ number)
    → ((file_read (with_header outcome)).refusal ≡ 0) ↔ ((job : Job) × (outcome ≡ value job))
zero-value (value job) counts = (λ e. (job, refl), λ e. refl)
zero-value (refused number line) counts =
    (λ e. absurd (omega (arith, counts number line refl)), λ e. absurd (let same = e.1 in let z : ◌≡◌ {A = ℕ} 0 1 = cc in omega arith))

-- a read hands back 0 exactly if the file was accepted
pub zero_accepted : (file : List ℕ) (lists : LentLists)
    → ((file_read (with_header (read_outcome file lists))).refusal ≡ 0) ↔ ((job : Job) × (read_outcome file lists ≡ value job))
zero_accepted file lists = zero-value (read_outcome file lists) (read_numbered file lists)
