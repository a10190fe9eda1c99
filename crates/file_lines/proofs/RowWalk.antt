-- The questions put to a row's line, one after another.
use mathlib.Core.Path.{◌≡◌, refl, sym, ap, ap₂, ◌∙◌}
use mathlib.Core.Bool.{Bool, true, false, not, ◌&&◌, ◌||◌, and-true}
use mathlib.Core.List.{List, [], ◌∷◌, ◌++◌, map, reverse-cons}
use denote.Ref.{Bor}
use Prim.Native.Nat.{ℕ, suc, ◌+◌}
use native.Mathlib.Omega.{arith}
use borrow.Author.Tests.{eq-eqb, ne_eqb}
use lib.Dec.{eqb}
use lib.ListN.{length, drop}
use Rattle.std.specs.Prelude.{Err}
use Rattle.std.specs.Cmp.Lexicographic.{pointwise}
use Rattle.std.specs.List.{list_any}
use Rattle.lists.specs.Tests.{same_numbers as same_text}
use Rattle.text_form.specs.Bytes.{tab, first_piece}
use Rattle.text_form.specs.Lines.{fields_of}
use Rattle.file_form.specs.Rows.{ask_codes, ask_row}
use Rattle.file_form.proofs.Rows.Names.{name_first}
use Rattle.text_form.proofs.Slices.{same_pointwise, same_turned}
use Rattle.file_form.specs.Job.{name_form, differs_from_all}
use Rattle.matrix_form.specs.declared.refusal.Refusal.TheVariants.{FieldCount, NameForm, NameTaken}
use Rattle.matrix_form.specs.Outcomes.{Asked, ask}
use Rattle.file_form.specs.declared.header.Header.{Header}
use Rattle.file_lines.specs.Steps.{names_passed}

-- a name differs from those of two lists if it differs from those of each
differs_append : (name : List ℕ) (xs ys : List (List ℕ))
    → differs_from_all name (xs ++ ys) ≡ differs_from_all name xs && differs_from_all name ys
unfolding differs_from_all
differs_append name [] ys = refl
differs_append name (x ∷ xs) ys =
    ap (λ b. not (same_text name x) && b) (differs_append name xs ys)
    ∙ by (not (same_text name x)) (differs_from_all name xs) (differs_from_all name ys)
  where
    by : (a b c : Bool) → a && (b && c) ≡ (a && b) && c
    by true b c = refl
    by false b c = refl

-- a name differs from those passed exactly if they do not contain it
pub differs_passed : (names : List (Bor (List ℕ))) (name : List ℕ)
    → differs_from_all name (names_passed names) ≡ not (list_any (λ other. pointwise eqb other.now name) names)
unfolding differs_from_all
differs_passed [] name = refl
differs_passed (other ∷ names) name =
    ap (differs_from_all name) (reverse-cons other.now (map (λ x. x.now) names))
    ∙ differs_append name (names_passed names) (other.now ∷ [])
    ∙ ap₂ ◌&&◌ (differs_passed names name)
    (and-true (not (same_text name other.now)) ∙ ap not (same_turned name other.now ∙ sym (same_pointwise other.now name)))
    ∙ by (pointwise eqb other.now name) (list_any (λ x. pointwise eqb x.now name) names)
  where
    by : (a b : Bool) → not b && not a ≡ not (a || b)
    by true true = refl
    by true false = refl
    by false true = refl
    by false false = refl

-- the questions on a row's line that has so many tabs
module _ (header : Header) (earlier : List (List ℕ)) (line : List ℕ) (count : ℕ) (e : count + 1 ≡ length (fields_of line)) where
  -- the questions on its codes
  abbrev codes_asked : Asked
  codes_asked = ask_codes (drop 1 (fields_of line))

  -- another number of fields than m + 1
  pub bad_count : (count ≡ header.m → ⊥) → Err FieldCount ≡ ask_row header earlier line
  unfolding ask_row
  bad_count h = sym (rw (ne_eqb (length (fields_of line)) (suc header.m) (λ same. h (omega arith))))

  -- as many, and a name
  module _ (name : List ℕ) (first : name ≡ first_piece tab line) (h : count ≡ header.m) (formed : Bool) (f : formed ≡ name_form name) where
    -- in order: the name's form, whether it is taken, the codes
    in_order : ask_row header earlier line ≡ ask formed NameForm (ask (differs_from_all name earlier) NameTaken codes_asked)
    unfolding ask_row
    in_order = rw (eq-eqb (length (fields_of line)) (suc header.m) (omega arith), name_first, sym first, sym f)

    -- the name is not well formed
    pub bad_name : formed ≡ false → Err NameForm ≡ ask_row header earlier line
    bad_name t = sym (in_order ∙ rw t)

    module _ (t : formed ≡ true) (taken : Bool) (d : differs_from_all name earlier ≡ not taken) where
      -- the name is well formed
      named : ask_row header earlier line ≡ ask (not taken) NameTaken codes_asked
      named = in_order ∙ rw (t, d)

      -- it is taken
      pub name_taken : taken ≡ true → Err NameTaken ≡ ask_row header earlier line
      name_taken u = sym (named ∙ rw u)

      -- it differs from every earlier one: the codes decide
      pub codes_decide : taken ≡ false → (answer : Asked) → answer ≡ ask_codes (drop 1 (fields_of line)) → answer ≡ ask_row header earlier line
      codes_decide u answer a = a ∙ sym (named ∙ rw u)
