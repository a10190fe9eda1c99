-- The form of a name, test by test, in std's words on bytes.
use mathlib.Core.Path.{◌≡◌, refl, sym, ap, ap₂, ◌∙◌}
use mathlib.Core.Bool.{Bool, true, false, ◌&&◌}
use mathlib.Core.List.{List, [], ◌∷◌}
use Prim.Native.Nat.{ℕ, ◌≤◌, ◌<◌}
use native.Mathlib.Omega.{arith}
use borrow.Author.Tests.{le-leb, lt-leb}
use lib.Dec.{leb}
use lib.ListN.{length, get_or, drop}
use Rattle.std.specs.Char.{is_ascii_alphabetic}
use Rattle.std.specs.List.{list_all}
use Rattle.text_form.specs.Bytes.{is_letter, in_name}
use Rattle.file_form.specs.Job.{name_size, name_form}
use Rattle.text_form.proofs.Slices.{every_all}

-- an empty name is not well formed
pub empty : (name : List ℕ) → length name < 1 → false ≡ name_form name
unfolding name_form
empty [] h = refl
empty (byte ∷ bytes) h = absurd (omega arith)

-- any other one is if it is not too long, its first byte is a letter, and the others may stand in a name
some : (name : List ℕ) → 1 ≤ length name
    → name_form name ≡ is_ascii_alphabetic (get_or name 0 0) && (list_all in_name (drop 1 name) && leb (length name) name_size)
unfolding name_form is_letter
some [] h = absurd (omega arith)
some (byte ∷ bytes) h = ap (λ t. is_letter byte && (t && leb (length (byte ∷ bytes)) name_size)) (sym (every_all in_name bytes))

-- a test that fails behind two others
both_false : (a b : Bool) → a && (b && false) ≡ false
both_false true true = refl
both_false true false = refl
both_false false b = refl

-- a test that passes behind two others
both_true : (a b : Bool) → a && (b && true) ≡ a && b
both_true true true = refl
both_true true false = refl
both_true false b = refl

module _ (name : List ℕ) (h : 1 ≤ length name) where
  -- more than 16 bytes
  pub long : name_size < length name → false ≡ name_form name
  long l =
      sym (some name h ∙ ap (λ t. is_ascii_alphabetic (get_or name 0 0) && (list_all in_name (drop 1 name) && t)) (lt-leb (length name) name_size l)
      ∙ both_false (is_ascii_alphabetic (get_or name 0 0)) (list_all in_name (drop 1 name)))

  module _ (l : length name ≤ name_size) (first : Bool) (f : first ≡ is_ascii_alphabetic (get_or name 0 0)) where
    -- not too long: the bytes decide
    bytes_decide : name_form name ≡ first && list_all in_name (drop 1 name)
    bytes_decide =
        some name h
        ∙ ap₂ (λ x t. x && (list_all in_name (drop 1 name) && t)) (sym f) (le-leb (length name) name_size l)
        ∙ both_true first (list_all in_name (drop 1 name))

    -- another first byte than a letter
    pub no_letter : first ≡ false → first ≡ name_form name
    no_letter t = t ∙ sym (bytes_decide ∙ ap (λ x. x && list_all in_name (drop 1 name)) t)

    -- behind a letter the other bytes decide
    pub others_decide : first ≡ true → (others : Bool) → others ≡ list_all in_name (drop 1 name) → others ≡ name_form name
    others_decide t others o = o ∙ sym (bytes_decide ∙ ap (λ x. x && list_all in_name (drop 1 name)) t)
