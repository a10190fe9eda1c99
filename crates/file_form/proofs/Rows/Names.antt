-- How long a name is, and where it stands in its line; names that all differ, and names that each differ from every earlier one.
use mathlib.Core.Path.{◌≡◌, refl, sym, ap, ap₂, ◌∙◌}
use mathlib.Core.List.{List, [], ◌∷◌}
use mathlib.Core.Bool.{Bool, true, not, true≢false, false≢true, ◌&&◌}
use Prim.Native.Nat.{ℕ, zero, suc, ◌≤◌, ◌<◌}
use native.Mathlib.Omega.{arith}
use borrow.Author.Tests.{not-true, leb-true}
use lib.Dec.{leb, ltb}
use lib.ListN.{length, get_or}
use Rattle.lists.specs.Tests.{every, same_numbers as same_text}
use Rattle.text_form.specs.Bytes.{tab, line_feed, is_letter, in_name, first_piece}
use Rattle.text_form.specs.Lines.{fields_of}
use Rattle.file_form.specs.Job.{name_size, name_form, differs_from_all, all_differ}
use Rattle.file_form.specs.Rows.{name_in}
use Rattle.lists.proofs.Every.{same_numbers_iff, every-cons, every_weaker}
use Rattle.lists.proofs.Both.{and_left, and_right, and_both, eqb-sym}
use Rattle.text_form.proofs.FirstPart.{first_of_pieces}
use Rattle.text_form.proofs.Plain.{plain, letter_plain, in_name-plain}

-- a name has at most 16 bytes
pub name_length : (name : List ℕ) → name_form name ≡ true → length name ≤ name_size
unfolding name_form
name_length [] e = absurd (false≢true e)
name_length (byte ∷ bytes) e =
    leb-true (length (byte ∷ bytes)) name_size
    (and_right (every in_name bytes) (leb (length (byte ∷ bytes)) name_size) (and_right (is_letter byte) _ e))

-- whether two texts are the same does not depend on their order
same-sym : (a b : List ℕ) → same_text a b ≡ same_text b a
unfolding same_text
same-sym [] [] = refl
same-sym [] (y ∷ ys) = refl
same-sym (x ∷ xs) [] = refl
same-sym (x ∷ xs) (y ∷ ys) = ap₂ ◌&&◌ (eqb-sym x y) (same-sym xs ys)

-- each of some names differs from every earlier one
abbrev pub apart_from : List (List ℕ) → List (List ℕ) → Bool
apart_from earlier = every (λ name. differs_from_all name earlier)

-- one more earlier name: the others differ from it if it differs from them
pub apart_more : (name : List ℕ) (earlier names : List (List ℕ)) → differs_from_all name names ≡ true
    → apart_from earlier names ≡ true → apart_from (name ∷ earlier) names ≡ true
unfolding differs_from_all every
apart_more name earlier [] d e = refl
apart_more name earlier (next ∷ names) d e =
    and_both
    (and_both (ap not (same-sym next name) ∙ and_left (not (same_text name next)) _ d) (and_left (differs_from_all next earlier) _ e))
    (apart_more name earlier names (and_right (not (same_text name next)) _ d) (and_right (differs_from_all next earlier) _ e))

-- one earlier name less: it differs from the others, and they differ from the rest
pub apart_fewer : (name : List ℕ) (earlier names : List (List ℕ)) → apart_from (name ∷ earlier) names ≡ true
    → (differs_from_all name names ≡ true) × (apart_from earlier names ≡ true)
unfolding differs_from_all every
apart_fewer name earlier [] e = (refl, refl)
apart_fewer name earlier (next ∷ names) e =
    let first = and_left (differs_from_all next (name ∷ earlier)) _ e in
    let others = apart_fewer name earlier names (and_right (differs_from_all next (name ∷ earlier)) _ e) in (
      and_both (ap not (same-sym name next) ∙ and_left (not (same_text next name)) _ first) others.0,
      and_both (and_right (not (same_text next name)) _ first) others.1,
    )

-- all names differ from no earlier name
pub apart_none : (names : List (List ℕ)) → apart_from [] names ≡ true
unfolding differs_from_all every
apart_none [] = refl
apart_none (name ∷ names) = apart_none names

-- a name that differs from all of a list is at no place of it
differs_at : (name : List ℕ) (names : List (List ℕ)) → differs_from_all name names ≡ true
    → (j : ℕ) → j < length names → name ≡ get_or names j [] → ⊥
unfolding differs_from_all
differs_at name [] e j h same = omega arith
differs_at name (next ∷ names) e zero h same =
    true≢false (sym ((same_numbers_iff name name).1 refl) ∙ ap (same_text name) same
    ∙ not-true (same_text name next) (and_left (not (same_text name next)) _ e))
differs_at name (next ∷ names) e (suc j) h same =
    differs_at name names (and_right (not (same_text name next)) _ e) j (omega arith) same

-- where all names differ, two rows never have the same name
pub all_differ_at : (names : List (List ℕ)) → all_differ names ≡ true
    → (i j : ℕ) → i < j → j < length names → get_or names i [] ≡ get_or names j [] → ⊥
unfolding all_differ
all_differ_at [] e i j before h same = omega arith
all_differ_at (name ∷ names) e i zero before h same = omega arith
all_differ_at (name ∷ names) e zero (suc j) before h same =
    differs_at name names (and_left (differs_from_all name names) (all_differ names) e) j (omega arith) same
all_differ_at (name ∷ names) e (suc i) (suc j) before h same =
    all_differ_at names (and_right (differs_from_all name names) (all_differ names) e) i j (omega arith) (omega arith) same

-- a line's name is its first piece
pub name_first : (line : List ℕ) → name_in line ≡ first_piece tab line
unfolding name_in fields_of
name_first line = first_of_pieces tab line

-- a name is plain
pub name_plain : (name : List ℕ) → name_form name ≡ true → plain name ≡ true
unfolding name_form
name_plain [] e = absurd (false≢true e)
name_plain (byte ∷ bytes) e =
    every-cons (ltb line_feed) byte bytes (letter_plain byte (and_left (is_letter byte) _ e))
    (every_weaker in_name (ltb line_feed) in_name-plain bytes
    (and_left (every in_name bytes) _ (and_right (is_letter byte) _ e)))
