-- The order that line 1 means, the question of the call for a listing, and what it leaves of the lent bytes.
use mathlib.Core.Path.{◌≡◌, refl, ap, ◌∙◌}
use mathlib.Core.List.{List, [], ◌∷◌, ◌++◌, map}
use Prim.Native.Nat.{ℕ}
use lib.ListN.{length, drop}
use Rattle.std.proofs.Math.Seq.{drop-append_seam}
use Rattle.std.specs.Prelude.{Result, None, Some, Ok, Err}
use Rattle.matrix_form.specs.declared.refusal.Refusal.{Refusal}
use Rattle.matrix_form.specs.declared.refusal.Refusal.TheVariants.{ListSize}
use Rattle.tree_form.specs.declared.order.Order.TheVariants.{Advance, Closest}
use Rattle.listing_form.specs.Listing.{output}
use Rattle.listing_form.specs.Calls.{ask_output, ListDone}
use Rattle.listing_form.specs.Meant.{order_meant}

-- no word means by advancement, and a word its order
orders_meant : map order_meant (None ∷ Some Advance ∷ Some Closest ∷ []) ≡ Advance ∷ Advance ∷ Closest ∷ []
orders_meant = refl

-- 1,048,576 lent bytes pass
full_output : (lent : List ℕ) → length lent ≡ 1048576 → ask_output lent ≡ Ok tt
unfolding ask_output
full_output lent e = rw e

-- one less is 12
less_output : (lent : List ℕ) → length lent ≡ 1048575 → ask_output lent ≡ Err ListSize
unfolding ask_output
less_output lent e = rw e

-- behind the bytes that are printed all of 1,048,576 lent bytes are as before
behind_unchanged : (file old new : List ℕ) (r : Result ℕ Refusal) → ListDone file old new r → length old ≡ 1048576
    → drop (length (output file)) new ≡ drop (length (output file)) old
behind_unchanged file old new r done full =
    let pass : ask_output old ≡ Ok tt = full_output old full in
    let front : new ≡ output file ++ drop (length (output file)) old = rw pass at done.bytes in
    ap (λ (bytes : List ℕ). drop (length (output file)) bytes) front ∙ drop-append_seam (output file) (drop (length (output file)) old)
