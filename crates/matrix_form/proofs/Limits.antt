-- Numbers of taxa and characters within their limits, and a matrix of its shape: what the questions tell of them, and that a lent matrix
-- passes them.
use mathlib.Core.Path.{◌≡◌}
use mathlib.Core.Bool.{true, false, and-eq-true_iff}
use mathlib.Core.List.{List}
use Prim.Native.Nat.{ℕ, ◌≤◌, ◌<◌}
use lib.IntN.{ℤ}
use lib.ListN.{length}
use borrow.Author.Tests.{eq-eqb, le-leb, lt-leb}
use native.Mathlib.Omega.{arith}
use Rattle.matrix_form.specs.Shape.{matrix_size}
use Rattle.matrix_form.specs.Questions.{LentMatrix, one_to, within_limits, matrix_shaped}
use Rattle.matrix_form.proofs.Passing.{true-one_to, limits_passed}

-- the limits of n and m, from the question that asks for them
pub record Limits (n m : ℕ) : Type 0 where
  pub taxon : 1 ≤ n
  pub taxa : n ≤ 64
  pub character : 1 ≤ m
  pub characters : m ≤ 128

-- what passes the question is within the limits
pub limits : (n m : ℕ) → within_limits n m ≡ true → Limits n m
limits n m e =
    let told = limits_passed n m e in
    record { taxon = told.0; taxa = told.1; character = told.2; characters = told.3 }

-- the numbers of a lent matrix pass it
pub lent_within : (codes : List ℤ) (n m : ℕ) → LentMatrix codes n m → within_limits n m ≡ true
unfolding within_limits
lent_within codes n m lent = rw (true-one_to 64 n lent.taxon lent.taxa, true-one_to 128 m lent.character lent.characters)

-- what is known of n and m where a matrix has its shape
pub shaped-limits : (size n m : ℕ) → matrix_shaped size n m ≡ true → Limits n m
unfolding matrix_shaped
shaped-limits size n m e = limits n m ((and-eq-true_iff (within_limits n m) _).0 e).0

-- a lent matrix has its shape
pub lent_shaped : (codes : List ℤ) (n m : ℕ) → LentMatrix codes n m → matrix_shaped (length codes) n m ≡ true
unfolding matrix_shaped
lent_shaped codes n m lent = rw (lent_within codes n m lent, eq-eqb (length codes) matrix_size lent.full)

-- for more than 64 taxa none has
pub many-unshaped : (size n m : ℕ) → 64 < n → matrix_shaped size n m ≡ false
unfolding matrix_shaped within_limits one_to
many-unshaped size n m more = let some : 1 ≤ n = omega arith in rw (le-leb 1 n some, lt-leb n 64 more)
