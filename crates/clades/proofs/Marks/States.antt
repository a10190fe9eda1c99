-- The states of an unordered character: an assignment may give an inner node any whole number, but one of least length gives every node a
-- state from 0 to 31.
use mathlib.Core.Path.{◌≡◌, ap}
use mathlib.Core.Logic.{by_cases}
use mathlib.Core.Bool.{false}
use Prim.Native.Nat.{ℕ, ◌/◌, ◌%◌, ◌^◌, zero-le}
use native.Mathlib.Nat.{div-eq_of_lt, lt_of_lt_of_le}
use native.Mathlib.Omega.{arith}
use native.Mathlib.Decide.{dec_le}
use lib.Dec.{le→leb}
use lib.IntN.{ℤ, pos, negsuc}
use lib.Pow.{pow_mono}
use lib.Signed.{◌≤ℤ◌, le_z_yes}
use Rattle.clades.specs.Clades.{Clade}
use Rattle.clades.specs.Marks.{mark, ProperMarks, unordered}
use Rattle.clades.proofs.Clades.Nodes.{has, Distinct}
use Rattle.clades.proofs.OneCharacter.Basic.{EachProper}
use Rattle.clades.proofs.OneCharacter.CharacterFit.{Node}
use Rattle.clades.proofs.OneCharacter.Row1.{IsLeast, range_sound, range_proper}
use Rattle.clades.proofs.Marks.IsKind.{unordered_laws}

-- a state from 0 to 31
pub record OneOf32 (s : ℤ) : Type 0 where
  pub from_low : pos 0 ≤ℤ s
  pub to_high : s ≤ℤ pos 31

-- a state with its mark set is one of them
pub marked_32 : (s : ℤ) (a : ℕ) → ProperMarks a → mark s a ≡ 1 → OneOf32 s
unfolding mark
marked_32 (pos k) a p e = by_cases (dec_le 32 k)
    (λ h.
    let none : a / 2 ^ k ≡ 0 = div-eq_of_lt (lt_of_lt_of_le p.fits (pow_mono h)) in
    let even : a / 2 ^ k % 2 ≡ 0 = ap (λ n. n % 2) none in
    absurd (omega arith))
    (λ h. record { from_low = le_z_yes (le→leb 0 k zero-le); to_high = le_z_yes (le→leb k 31 (omega arith)) })
marked_32 (negsuc k) a p e = absurd (omega arith)

-- in an assignment of least length of an unordered character every node has a state from 0 to 31
pub least_32 : (own : ℕ → ℕ) (t : Clade) (p : EachProper unordered own t) (q : ProperMarks (own 1)) (d : Distinct t) (off : has t 1 ≡ false)
    (f : ℕ → ℤ) → IsLeast unordered unordered_laws own t p q d off f → (v : ℕ) → Node t v → OneOf32 (f v)
least_32 own t p q d off f h v node =
    marked_32 (f v) _ (range_proper unordered unordered_laws own t p q d off v node)
    (range_sound unordered unordered_laws own t p q d off f h v node)
