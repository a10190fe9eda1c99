-- The number of each refusal (document 01, "The questions put to an input"; 15 and those above it, document 02).
use Rattle.std.specs.Prelude.{ℕ}
use Rattle.matrix_form.specs.declared.refusal.Refusal.{Refusal}
use Rattle.matrix_form.specs.declared.refusal.Refusal.TheVariants.{FileTooLong, FileEmpty, FirstLine, BeyondLimits, LineMissing}
use Rattle.matrix_form.specs.declared.refusal.Refusal.TheVariants.{NameForm, NameTaken, FieldCount, CodeForm, CodeRange, FileGoesOn}
use Rattle.matrix_form.specs.declared.refusal.Refusal.TheVariants.{ListSize, NotThere, NotBranching, UnknownOrder, WeightForm, BranchForm}

-- the number of a refusal
abbrev pub refusal_number : Refusal → ℕ
refusal_number FileTooLong = 1
refusal_number FileEmpty = 2
refusal_number FirstLine = 3
refusal_number BeyondLimits = 4
refusal_number LineMissing = 5
refusal_number NameForm = 6
refusal_number NameTaken = 7
refusal_number FieldCount = 8
refusal_number CodeForm = 9
refusal_number CodeRange = 10
refusal_number FileGoesOn = 11
refusal_number ListSize = 12
refusal_number NotThere = 13
refusal_number NotBranching = 14
refusal_number UnknownOrder = 15
refusal_number WeightForm = 16
refusal_number BranchForm = 17
