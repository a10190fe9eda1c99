-- The fields of a line behind its first one, as a chain over what `split` gives goes through them.
use mathlib.Core.Path.{◌≡◌}
use mathlib.Core.Bool.{Bool, false}
use mathlib.Core.List.{List}
use Prim.Native.Nat.{ℕ}
use lib.Dec.{eqb}
use lib.ListN.{drop}
use denote.Ref.{Bor}
use denote.Param.Members.{Mut}
use Rattle.std.specs.Fn.{CalledAt}
use Rattle.std.specs.List.{slice_split}
use Rattle.std.specs.Slice.Iter as slice
use Rattle.std.specs.Iterator.Adapters.{skip_source, skip_count, skip_steps}
use Rattle.std.proofs.lemmas.Iterator.{YieldsList}
use Rattle.std.proofs.lemmas.Iterator.Consumers.{YieldsList-at}
use Rattle.std.proofs.lemmas.Iterator.Splits.{YieldsList-from_slice_split}
use Rattle.std.proofs.lemmas.Iterator.Adapters.{YieldsList-from_skip}
use Rattle.text_form.specs.Bytes.{tab}

-- what a chain over the fields of a line behind its first one yields
pub fields_yielded : {F : Type 0} {g : Mut F (Bor ℕ × Unit {0}) Bool} {f : F} {s : _} {t : _} (line : List ℕ)
    → skip_source s ≡ t → skip_count s ≡ 1 → slice.split_rest t ≡ line → slice.split_done t ≡ false → slice.split_callee t ≡ f
    → ((x : ℕ) (b : Bool) (q : F) → CalledAt g f x b q → (q ≡ f) × (b ≡ eqb x tab))
    → YieldsList (skip_steps (slice.split_steps g)) (λ x. x.now) s (drop 1 (slice_split (λ byte. eqb byte tab) line))
fields_yielded line source one rest done closure tests =
    YieldsList-from_skip 1 (YieldsList-at source (YieldsList-from_slice_split _ (λ byte. eqb byte tab) line rest done closure tests)) one
