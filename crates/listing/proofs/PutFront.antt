-- A text put in front of a lent list that has room for it.
use mathlib.Core.Path.{◌≡◌, ap, ◌∙◌}
use mathlib.Core.List.{List, [], ◌∷◌, ◌++◌}
use Prim.Native.Nat.{ℕ, suc, ◌+◌, ◌≤◌, ◌<◌}
use native.Mathlib.Omega.{arith}
use borrow.Author.Tests.{lt-ltb}
use lib.ListN.{length, drop, set, length-set}
use lib.Seq.{sets, sets-eq}
use Rattle.lines.specs.Put.{put_byte, put_text, Put}

-- a byte where there is room
put_here : (byte : ℕ) (old : List ℕ) (at : ℕ) → at < length old → put_byte byte (old, at) ≡ (set old at byte, suc at)
unfolding put_byte
put_here byte old at h = rw (lt-ltb at (length old) h, put_byte)

-- where there is room for all of it, the text stands from the place on, and all else is as before
put_fits : (text old : List ℕ) (at : ℕ) → at + length text ≤ length old
    → ◌≡◌ {A = List ℕ × ℕ} (put_text text (old, at)) (sets old at text, at + length text)
unfolding put_text put_byte
put_fits [] old at h = ap (λ k. (old, k)) (omega arith)
put_fits (byte ∷ bytes) old at h =
    let room : at < length old = omega arith in
    let rest : suc at + length bytes ≤ length (set old at byte) = omega (arith, length-set old at byte) in
    ap (put_text bytes) (put_here byte old at room)
    ∙ put_fits bytes (set old at byte) (suc at) rest
    ∙ ap (λ k. (sets old at (byte ∷ bytes), k)) (omega arith)

-- a text that fits in front of a list
pub put_front : {text old new : List ℕ} {next : ℕ} → Put text old 0 new next → length text ≤ length old
    → (new ≡ text ++ drop (length text) old) × (next ≡ length text)
put_front {text} {old} p h =
    let e = p.is ∙ put_fits text old 0 (omega arith) in
    let size : 0 + length text ≡ length text = omega arith in (
      ap (λ state. state.0) e ∙ sets-eq text old 0 (omega arith) ∙ ap (λ k. text ++ drop k old) size,
      ap (λ state. state.1) e ∙ size,
    )
