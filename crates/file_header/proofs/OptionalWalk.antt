-- An optional line, as it is found in a text, and the `V` line, as it is asked.
use mathlib.Core.Path.{◌≡◌, sym, ap, ap₂, ◌∙◌}
use mathlib.Core.List.{List, [], ◌∷◌}
use mathlib.Core.Bool.{Bool, true, false, ◌&&◌}
use Prim.Native.Nat.{ℕ, ◌≤◌}
use native.Mathlib.Omega.{arith}
use borrow.Author.Tests.{le-leb}
use lib.ListN.{length, get_or, drop}
use Rattle.std.specs.Prelude.{Ok, Err}
use Rattle.lists.specs.Tests.{same_numbers as same_text}
use Rattle.matrix_form.specs.Outcomes.{ask}
use Rattle.matrix_form.specs.declared.refusal.Refusal.TheVariants.{WeightForm}
use Rattle.file_form.specs.declared.header.Header.{Header}
use Rattle.text_form.specs.Bytes.{line_feed, first_piece}
use Rattle.text_form.specs.Lines.{lines_of, fields_of}
use Rattle.file_form.specs.Optional.{optional_there, optional_fields, ask_optional, lines_taken}
use Rattle.file_form.specs.Weights.{weights_form}
use Rattle.file_form.specs.Formed.{ask_weights}
use Rattle.text_form.proofs.Parts.{pieces_some, lines_some}
use Rattle.text_form.proofs.FirstPart.{first_of_pieces}

-- the first line of a text is its first piece at a line feed
pub first-line : (text line : List ℕ) → line ≡ first_piece line_feed text → get_or (lines_of text) 0 [] ≡ line
unfolding lines_of
first-line text line l = first_of_pieces line_feed text ∙ sym l

-- the fields behind the letter, by the first line of a text
pub line_fields : (text line : List ℕ) → line ≡ first_piece line_feed text → optional_fields (lines_of text) ≡ drop 1 (fields_of line)
unfolding optional_fields
line_fields text line l = ap (λ first. drop 1 (fields_of first)) (first-line text line l)

-- whether the line is there, by the first field of the first line
pub word_decides : (letter : ℕ) (text line word : List ℕ) → line ≡ first_piece line_feed text → word ≡ get_or (fields_of line) 0 []
    → same_text word (letter ∷ []) ≡ optional_there letter (lines_of text)
unfolding optional_there
word_decides letter text line word l w =
    ap (λ first. same_text first (letter ∷ [])) (w ∙ ap (λ first. get_or (fields_of first) 0 []) (sym (first-line text line l)))

-- a header takes at most one line for it
pub taken_most : (there : Bool) → lines_taken there ≤ 1
taken_most true = omega arith
taken_most false = omega arith

-- the question put to it
module _ (header : Header) (text : List ℕ) where
  -- it is not there
  pub absent : header.weighed ≡ false → Ok tt ≡ ask_weights header (lines_of text)
  unfolding ask_weights ask_optional
  absent e = sym (ap (λ there. ask_optional there (weights_form header.m (optional_fields (lines_of text))) WeightForm (lines_of text)) e)

  -- it is there, but no line feed ends it
  pub unended : header.weighed ≡ true → lines_of text ≡ text ∷ [] → Err WeightForm ≡ ask_weights header (lines_of text)
  unfolding ask_weights ask_optional
  unended e l = sym (ap₂ (λ there lines. ask_optional there (weights_form header.m (optional_fields lines)) WeightForm lines) e l)

  -- it is there, and another line behind it: its fields decide
  pub fields_decide : (line behind : List ℕ) (formed : Bool) → header.weighed ≡ true → lines_of text ≡ line ∷ lines_of behind
      → formed ≡ weights_form header.m (drop 1 (fields_of line)) → ask formed WeightForm (Ok tt) ≡ ask_weights header (lines_of text)
  unfolding ask_weights ask_optional optional_fields
  fields_decide line behind formed e l f =
      let more : lines_of behind ≡ (pieces_some line_feed behind).0 ∷ (pieces_some line_feed behind).1 = lines_some behind in
      let several : 2 ≤ length (line ∷ lines_of behind) = omega (arith, ap length more) in
      ap (λ b. ask b WeightForm (Ok tt)) f
      ∙ sym (ap₂ (λ there lines. ask_optional there (weights_form header.m (optional_fields lines)) WeightForm lines) e l
      ∙ ap (λ b. ask (b && weights_form header.m (drop 1 (fields_of line))) WeightForm (Ok tt)) (le-leb 2 (length (line ∷ lines_of behind)) several))
