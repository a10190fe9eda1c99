-- An optional line, by its letter: one that is read is written in the one way, and one that is written is found again.
use mathlib.Core.Path.{◌≡◌, refl, sym, ap, ◌∙◌}
use mathlib.Core.List.{List, [], ◌∷◌, ◌++◌}
use mathlib.Core.Bool.{Bool, true, false, ◌&&◌, false≢true}
use Prim.Native.Nat.{ℕ, suc, ◌≤◌}
use native.Mathlib.Omega.{arith}
use borrow.Author.Tests.{leb-true, le-leb}
use lib.Dec.{leb}
use lib.ListN.{length, get_or, drop}
use Rattle.lists.specs.Tests.{every, same_numbers as same_text}
use Rattle.lists.proofs.Both.{and_left, and_right}
use Rattle.lists.proofs.Every.{every-cons, same_numbers_iff}
use Rattle.matrix_form.specs.declared.refusal.Refusal.{Refusal}
use Rattle.std.specs.Prelude.{Ok}
use Rattle.matrix_form.proofs.Passing.{ask_passed}
use Rattle.text_form.specs.Bytes.{tab, line_feed, joined_by}
use Rattle.text_form.specs.Lines.{fields_of}
use Rattle.file_form.specs.Optional.{optional_there, optional_fields, ask_optional, lines_taken, optional_line}
use Rattle.text_form.proofs.Parts.{lacks, pieces_some, joined_pieces}
use Rattle.text_form.proofs.Plain.{plain, line_fields, line_lacks}

-- a line that is there and whose question passes is ended by a line feed and has the right fields
pub optional_passed : (there formed : Bool) (refusal : Refusal) (lines : List (List ℕ)) → ask_optional there formed refusal lines ≡ Ok tt
    → there ≡ true → (2 ≤ length lines) × (formed ≡ true)
unfolding ask_optional
optional_passed false formed refusal lines e there = absurd (false≢true there)
optional_passed true formed refusal lines e there =
    let both = (ask_passed (leb 2 (length lines) && formed) refusal (Ok tt) e).0 in
    (leb-true 2 (length lines) (and_left (leb 2 (length lines)) formed both), and_right (leb 2 (length lines)) formed both)

-- so many lines are left behind it
pub optional_left : (there formed : Bool) (refusal : Refusal) (lines : List (List ℕ)) → ask_optional there formed refusal lines ≡ Ok tt
    → 1 ≤ length lines → suc (lines_taken there) ≤ length lines
optional_left true formed refusal lines e some = (optional_passed true formed refusal lines e refl).0
optional_left false formed refusal lines e some = some

-- a line that begins with the letter is the letter and the fields behind it
letter_line : (letter : ℕ) (line : List ℕ) → same_text (get_or (fields_of line) 0 []) (letter ∷ []) ≡ true
    → line ≡ joined_by tab ((letter ∷ []) ∷ drop 1 (fields_of line))
unfolding fields_of
letter_line letter line e =
    let found = pieces_some tab line in
    let first : get_or (fields_of line) 0 [] ≡ letter ∷ [] = (same_numbers_iff (get_or (fields_of line) 0 []) (letter ∷ [])).0 e in
    let split : fields_of line ≡ get_or (fields_of line) 0 [] ∷ drop 1 (fields_of line) = rw found.2 in
    sym (joined_pieces tab line) ∙ ap (joined_by tab) (split ∙ ap (λ field. field ∷ drop 1 (fields_of line)) first)

-- lines whose optional line passes are that line, if it is there, and those behind it
pub optional_split : (letter : ℕ) (there formed : Bool) (refusal : Refusal) (lines : List (List ℕ)) → there ≡ optional_there letter lines
    → ask_optional there formed refusal lines ≡ Ok tt
    → lines ≡ optional_line there letter (optional_fields lines) ++ drop (lines_taken there) lines
unfolding optional_line optional_there optional_fields
optional_split letter true formed refusal [] found e = absurd (omega (arith, (optional_passed true formed refusal [] e refl).0))
optional_split letter true formed refusal (line ∷ lines) found e = ap (λ first. first ∷ lines) (letter_line letter line (sym found))
optional_split letter false formed refusal lines found e = refl

-- a line that is written in front of others, of plain fields
module _ (letter : ℕ) (fields : List (List ℕ)) (e : every plain ((letter ∷ []) ∷ fields) ≡ true) (rest : List (List ℕ)) where
  -- it is found
  pub optional_found : optional_there letter (optional_line true letter fields ++ rest) ≡ true
  unfolding optional_there optional_line
  optional_found =
      ap (λ found. same_text (get_or found 0 []) (letter ∷ [])) (line_fields (letter ∷ []) fields e)
      ∙ (same_numbers_iff (letter ∷ []) (letter ∷ [])).1 refl

  -- its fields are read back
  pub optional_fields_lem : optional_fields (optional_line true letter fields ++ rest) ≡ fields
  unfolding optional_fields optional_line
  optional_fields_lem = ap (drop 1) (line_fields (letter ∷ []) fields e)

-- the lines behind it are read back
pub optional_behind : (there : Bool) (letter : ℕ) (fields rest : List (List ℕ))
    → drop (lines_taken there) (optional_line there letter fields ++ rest) ≡ rest
unfolding optional_line
optional_behind true letter fields rest = refl
optional_behind false letter fields rest = refl

-- its question passes, with the right fields and a line behind it
pub optional_passes : (there formed : Bool) (refusal : Refusal) (letter : ℕ) (fields rest : List (List ℕ)) → 1 ≤ length rest
    → (there ≡ true → formed ≡ true) → ask_optional there formed refusal (optional_line there letter fields ++ rest) ≡ Ok tt
unfolding ask_optional optional_line
optional_passes true formed refusal letter fields rest some right = rw (right refl, le-leb 2 (suc (length rest)) (omega arith))
optional_passes false formed refusal letter fields rest some right = refl

-- it holds no line feed
pub optional_lacks : (there : Bool) (letter : ℕ) (fields : List (List ℕ)) → every plain ((letter ∷ []) ∷ fields) ≡ true
    → every (lacks line_feed) (optional_line there letter fields) ≡ true
unfolding optional_line every
optional_lacks true letter fields e =
    every-cons (lacks line_feed) (joined_by tab ((letter ∷ []) ∷ fields)) [] (line_lacks (letter ∷ []) fields e) refl
optional_lacks false letter fields e = refl
