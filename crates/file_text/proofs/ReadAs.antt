-- A text that is read as what it has the form of.
use mathlib.Core.Path.{◌≡◌, refl, sym, ap, ◌∙◌}
use mathlib.Core.Bool.{Bool, true, false, cond}
use Rattle.std.specs.Prelude.{Option, None, Some}
use Rattle.std.specs.Option.{unwrap_or}
use Rattle.file_text.specs.Steps.{read_as}

-- what a text says that has the form
pub read_formed : {T A : Type 0} (form : T → Bool) (says : T → A) (text : T) (a : A) → form text ≡ true → a ≡ says text
    → Some a ≡ read_as form says text
read_formed form says text a e s = ap Some s ∙ sym (ap (λ b. cond b (Some (says text)) None) e)

-- so it is, whatever stands for a text that has it not
pub read_or : {T A : Type 0} (form : T → Bool) (says : T → A) (text : T) (r : Option A) (none : A) → r ≡ read_as form says text
    → form text ≡ true → unwrap_or r none ≡ says text
read_or form says text r none e f = ap (λ x. unwrap_or x none) (e ∙ sym (read_formed form says text (says text) f refl))

-- and what one says that has not
pub read_formless : {T A : Type 0} (form : T → Bool) (says : T → A) (text : T) → form text ≡ false → None ≡ read_as form says text
read_formless form says text e = sym (ap (λ b. cond b (Some (says text)) None) e)

-- a text that says something has the form, and says that
pub formed_read : {T A : Type 0} (form : T → Bool) (says : T → A) (text : T) (a : A) → Some a ≡ read_as form says text
    → (form text ≡ true) × (a ≡ says text)
formed_read form says text a e = by (form text) refl e
  where
    by : (b : Bool) → form text ≡ b → Some a ≡ cond b (Some (says text)) None → (form text ≡ true) × (a ≡ says text)
    by true t same = (t, cc)
    by false t same = cc

-- a text that says nothing has not the form
pub formless_read : {T A : Type 0} (form : T → Bool) (says : T → A) (text : T) → None ≡ read_as form says text → form text ≡ false
formless_read form says text e = by (form text) refl e
  where
    by : (b : Bool) → form text ≡ b → None ≡ cond b (Some (says text)) None → form text ≡ false
    by true t same = cc
    by false t same = t
