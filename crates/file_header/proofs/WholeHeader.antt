-- The questions put to a whole header: line 1, and then the weights.
use mathlib.Core.Path.{◌≡◌, sym, ap, ap₂, ◌∙◌}
use mathlib.Core.List.{List}
use Prim.Native.Nat.{ℕ}
use lib.ListN.{drop}
use Rattle.std.specs.Prelude.{Ok, Err}
use Rattle.matrix_form.specs.Refusals.{refusal_number}
use Rattle.matrix_form.specs.declared.refusal.Refusal.TheVariants.{FirstLine}
use Rattle.matrix_form.specs.Outcomes.{Asked, value, refused, on_line}
use Rattle.matrix_form.proofs.Passing.{ask_passed}
use Rattle.file_form.specs.declared.header.Header.{Header}
use Rattle.text_form.specs.Bytes.{line_feed, behind_piece}
use Rattle.text_form.specs.Lines.{lines_of}
use Rattle.file_form.specs.Header.{header_in, first_line_form, ask_first_line, ask_header}
use Rattle.file_form.specs.Formed.{ask_weights}
use Rattle.file_form.proofs.File.HeaderRead.{several-lines}
use Rattle.text_form.proofs.FirstPart.{pieces_several}
use Rattle.file_form.specs.declared.answer.Refused.{Refused}
use Rattle.file_header.specs.Steps.{at_line}
use Rattle.file_header.proofs.Answering.{line_refused, line_passed, asked_refused, asked_passed}
use Rattle.file_header.proofs.HeaderWalk.{first_asked}

-- what stands behind line 1, once its questions passed
behind_first : (file : List ℕ) → ask_first_line (lines_of file) ≡ Ok tt → lines_of (behind_piece line_feed file) ≡ drop 1 (lines_of file)
unfolding ask_first_line lines_of
behind_first file e =
    let form = (ask_passed (first_line_form (lines_of file)) FirstLine _ e).0 in
    sym (ap (drop 1) (pieces_several line_feed file (several-lines (lines_of file) form)))

-- the header of a file, once line 1 has been asked
module _ (file : List ℕ) where
  -- line 1 is refused
  pub first_refused : (e : Refused) → at_line 1 (first_asked (lines_of file)) ≡ Err e
      → refused (refusal_number e.refusal) e.line ≡ ask_header (lines_of file)
  unfolding ask_header ask_weights
  first_refused e h = line_refused 1 (ask_first_line (lines_of file)) (header_in (lines_of file)) _ e h

  -- it passes: the weights decide
  module _ (header : Header) (h : at_line 1 (first_asked (lines_of file)) ≡ Ok header) (behind : List ℕ)
      (b : behind ≡ behind_piece line_feed file) where
    -- what then is asked
    weights_decide : ask_header (lines_of file) ≡ on_line 2 (ask_weights header (lines_of behind)) (value header)
    unfolding ask_header ask_weights
    weights_decide =
        let passed = line_passed 1 (ask_first_line (lines_of file)) (header_in (lines_of file)) header h in
        ap
        (λ asked. on_line 1 asked (on_line 2 (ask_weights (header_in (lines_of file)) (drop 1 (lines_of file))) (value (header_in (lines_of file)))))
        passed.0
        ∙ ap₂ (λ said lines. on_line 2 (ask_weights said lines) (value said)) (sym passed.1)
        (sym (ap lines_of b ∙ behind_first file passed.0))

    -- they are refused
    pub weights-refused : (asked : Asked) → asked ≡ ask_weights header (lines_of behind) → (e : Refused) → at_line 2 asked ≡ Err e
        → refused (refusal_number e.refusal) e.line ≡ ask_header (lines_of file)
    weights-refused asked a e r =
        asked_refused 2 asked (value header) e r ∙ ap (λ x. on_line 2 x (value header)) a ∙ sym weights_decide

    -- they pass
    pub weights_passed : (asked : Asked) → asked ≡ ask_weights header (lines_of behind) → {yes : Unit {0}} → at_line 2 asked ≡ Ok yes
        → value header ≡ ask_header (lines_of file)
    weights_passed asked a {yes} r =
        sym (weights_decide ∙ ap (λ x. on_line 2 x (value header)) (sym a ∙ asked_passed 2 asked {yes = yes} r))
