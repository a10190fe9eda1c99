-- The pieces of a text that its first part's length pieces off.
use mathlib.Core.Path.{◌≡◌, ap, ◌∙◌}
use mathlib.Core.List.{List}
use Prim.Native.Nat.{ℕ, ◌+◌, suc}
use native.Mathlib.Omega.{arith}
use lib.ListN.{length, drop, take, length-take}
use Rattle.text_form.specs.Bytes.{piece_length, first_piece, behind_piece}
use Rattle.text_form.proofs.FirstPart.{piece-within}
use native.Mathlib.Numerals.{add-one}

-- the bytes up to the first separator are that many
pub counts : (s k : ℕ) (text : List ℕ) → k ≡ piece_length s text → k ≡ length (take k text)
counts s k text e = omega (arith, length-take k text, piece-within s text)

-- and they are the first piece
pub first : (s k : ℕ) (text : List ℕ) → k ≡ piece_length s text → take k text ≡ first_piece s text
unfolding first_piece
first s k text e = ap (λ n. take n text) e

-- what stands one index behind the first piece
pub behind : (s k : ℕ) (text rest : List ℕ) → k ≡ piece_length s text → rest ≡ drop (k + 1) text → rest ≡ behind_piece s text
unfolding behind_piece
behind s k text rest e r = r ∙ ap (λ n. drop n text) (add-one k ∙ ap suc e)
