-- Bytes put into a lent list one after another: what the list holds, and the index reached.
use Rattle.std.specs.Prelude.{◌≡◌, true, false, List, [], ◌∷◌, ℕ, suc, ltb, length, set}

-- a list and an index in it: one byte more, if there is room for it
unfoldable pub put_byte : ℕ → List ℕ × ℕ → List ℕ × ℕ
put_byte byte (out, at) = elim (ltb at (length out)) [ true ↦ (set out at byte, suc at) | false ↦ (out, at) ]

-- a text, byte by byte
unfoldable pub put_text : List ℕ → List ℕ × ℕ → List ℕ × ℕ
put_text [] state = state
put_text (byte ∷ bytes) state = put_text bytes (put_byte byte state)

-- a text was put into a list at an index: what the list then holds, and the index behind it
pub record Put (text old : List ℕ) (at : ℕ) (new : List ℕ) (next : ℕ) : Type 0 where
  pub is : ◌≡◌ {A = List ℕ × ℕ} (new, next) (put_text text (old, at))
