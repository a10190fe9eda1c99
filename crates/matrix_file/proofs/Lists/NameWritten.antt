-- A padded name over the front of a list: the name, and zeros behind it.
use mathlib.Core.Path.{◌≡◌, refl, sym, ap, ap₂, ◌∙◌}
use mathlib.Core.List.{List, ◌++◌, append_assoc}
use Prim.Native.Nat.{ℕ, ◌+◌, ◌-◌, ◌≤◌}
use native.Mathlib.Nat.{zero-add}
use native.Mathlib.Omega.{arith}
use borrow.Rule.Slice.PartMut.{put_mid}
use lib.ListN.{length, take, drop, replicate, length-append, length-drop}
use lib.Seq.{take_at, drop_at, length-take-le}
use Rattle.std.proofs.lemmas.List.{drop-drop}
use Rattle.lists.specs.Filled.{filled}
use Rattle.lists.specs.Over.{over}
use Rattle.lists.proofs.Filled.{length-filled}
use Rattle.lists.proofs.Over.{over-fits}
use Rattle.file_form.specs.Written.{padded}
use Rattle.file_form.specs.Job.{name_size}

-- a name written, and zeros behind it up to the size
pub name_put : (out name front zeros : List ℕ) → length name ≤ name_size → name_size ≤ length out → front ≡ name
    → zeros ≡ replicate (name_size - length name) 0
    → put_mid (length name) (name_size - length name) (front ++ drop (length name) out) zeros ≡ over 0 (padded name) out
unfolding filled
name_put out name front zeros short room f z =
    let left : ℕ = name_size - length name in
    let whole : length name + left ≡ name_size = omega arith in
    let size : length (padded name) ≡ name_size = length-filled 0 name_size name short in
    ap₂ (λ xs ys. put_mid (length name) left (xs ++ drop (length name) out) ys) f z
    ∙ ap₂ (λ xs ys. xs ++ (replicate left 0 ++ ys)) (take_at name (drop (length name) out) (length name) refl)
    (ap (drop left) (drop_at name (drop (length name) out) (length name) refl) ∙ drop-drop left (length name) out)
    ∙ sym (append_assoc name (replicate left 0) (drop (length name + left) out))
    ∙ ap (λ k. padded name ++ drop k out) (whole ∙ sym size ∙ sym (zero-add (length (padded name))))
    ∙ sym (over-fits 0 (padded name) out (omega arith))

-- the piece behind the name has room for so many zeros
pub zeros_room : (out name front : List ℕ) → length name ≤ name_size → name_size ≤ length out → front ≡ name
    → length (take (name_size - length name) (drop (length name) (front ++ drop (length name) out))) ≡ name_size - length name
zeros_room out name front short room f =
    length-take-le (name_size - length name) (drop (length name) (front ++ drop (length name) out))
    (omega (
      arith,
      length-drop (length name) (front ++ drop (length name) out),
      length-append front (drop (length name) out),
      length-drop (length name) out,
      ap length f,
    ))
