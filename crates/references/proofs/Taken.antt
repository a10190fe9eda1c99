-- A branching that is lent as a list of branch records of another size than 125 is refused.
use Rattle.std.specs.Prelude.{Err}
use mathlib.Core.Path.{◌≡◌, refl}
use mathlib.Core.Bool.{Bool, true, false}
use mathlib.Core.List.{List}
use Prim.Native.Nat.{ℕ}
use lib.IntN.{ℤ}
use lib.ListN.{length}
use borrow.Author.Tests.{ne_eqb}
use Rattle.matrix_form.specs.Outcomes.{ask}
use Rattle.matrix_form.specs.declared.refusal.Refusal.TheVariants.{ListSize}
use Rattle.tree_form.specs.declared.branch.Branch.{Branch}
use Rattle.tree_form.specs.Asking.{branches_size, ask_branching}
use Rattle.fit_form.specs.Calls.{lists_full, ask_fit}
use Rattle.matrix_form.specs.Shape.{MatrixLists}

-- whichever of two sizes is wrong, it is 12
either_size : (full : Bool) → ask full ListSize (Err ListSize) ≡ Err ListSize
either_size true = refl
either_size false = refl

-- a list of another size than 125 is 12
pub other-size : (lists : MatrixLists) (n m : ℕ) (lent : List Branch) (low high chosen : List ℤ)
    → (length lent ≡ branches_size → ⊥) → ask_fit lists n m lent low high chosen ≡ Err ListSize
unfolding ask_fit ask_branching
other-size lists n m lent low high chosen other =
    rw (ne_eqb _ _ other) (either_size (lists_full (length low) (length high) (length chosen)))
