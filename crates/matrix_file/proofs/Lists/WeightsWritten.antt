-- The weights of a `V` line, written field by field.
use mathlib.Core.Path.{◌≡◌, sym, ap, ◌∙◌}
use mathlib.Core.List.{List, [], ◌++◌, map}
use mathlib.Core.Bool.{Bool, true, false, ◌||◌, not}
use mathlib.Core.Logic.Iff
use Prim.Native.Nat.{ℕ, ◌≤◌, ◌<◌}
use native.Mathlib.Omega.{arith}
use borrow.Author.Tests.{eqb-true}
use lib.Dec.{eqb}
use lib.ListN.{length, get_or, drop, replicate, length-replicate}
use native.Mathlib.Nat.{zero-add}
use Rattle.lists.specs.Over.{over}
use Rattle.lists.specs.Tests.{every}
use Rattle.lists.proofs.Both.{and_left, and_right, implies_iff}
use Rattle.lists.proofs.Every.{every_at}
use Rattle.text_form.specs.Bytes.{line_feed, first_piece}
use Rattle.text_form.specs.Lines.{lines_of, fields_of}
use Rattle.file_form.specs.Optional.{optional_fields}
use Rattle.file_form.specs.Weights.{weight_form, weight_in, weights_form, weights_said}
use Rattle.file_header.proofs.OptionalWalk.{line_fields}
use Rattle.lists.proofs.Over.{over-fits}

-- what is required of a line that is there
pub required : (there formed : Bool) → (not there || formed) ≡ true → there ≡ true → formed ≡ true
required there formed = (implies_iff Iff.rfl Iff.rfl).0

-- a text that may begin with a `V` line, whose fields are then m weights
module _ (text : List ℕ) (m : ℕ) (weighed : Bool) (given : (not weighed || weights_form m (optional_fields (lines_of text))) ≡ true) where
  -- without the line all weights are 1
  pub ones_written : (old new : List ℕ) → weighed ≡ false → new ≡ replicate m 1 → m ≤ length old
      → new ++ drop m old ≡ over 0 (weights_said weighed m (optional_fields (lines_of text))) old
  unfolding weights_said
  ones_written old new none o room =
      let ones : List ℕ = replicate m 1 in
      let size : length ones ≡ m = length-replicate m 1 in
      ap (λ xs. xs ++ drop m old) o
      ∙ sym (over-fits 0 ones old (omega (arith, size)) ∙ ap (λ k. ones ++ drop k old) (zero-add (length ones) ∙ size))
      ∙ ap (λ b. over 0 (weights_said b m (optional_fields (lines_of text))) old) (sym none)

  -- with it they are those of its fields
  module _ (line : List ℕ) (l : line ≡ first_piece line_feed text) (there : weighed ≡ true) where
    -- the fields are m weights
    formed : weights_form m (drop 1 (fields_of line)) ≡ true
    formed = ap (weights_form m) (sym (line_fields text line l)) ∙ required weighed (weights_form m (optional_fields (lines_of text))) given there

    -- so many
    pub weights_count : length (drop 1 (fields_of line)) ≡ m
    unfolding weights_form
    weights_count = eqb-true _ m (and_left (eqb (length (drop 1 (fields_of line))) m) (every weight_form (drop 1 (fields_of line))) formed)

    -- the field of each character says a weight
    pub weight_given : (j : ℕ) → j < length (drop 1 (fields_of line)) → weight_form (get_or (drop 1 (fields_of line)) j []) ≡ true
    unfolding weights_form
    weight_given j h =
        let fields = drop 1 (fields_of line) in
        let each = and_right (eqb (length fields) m) (every weight_form fields) formed in
        every_at weight_form fields each j [] h

    -- what they say is written
    pub weights_written : (old : List ℕ) → over 0 (map weight_in (drop 1 (fields_of line))) old
        ≡ over 0 (weights_said weighed m (optional_fields (lines_of text))) old
    unfolding weights_said
    weights_written old =
        ap (λ fields. over 0 (map weight_in fields) old) (sym (line_fields text line l))
        ∙ ap (λ b. over 0 (weights_said b m (optional_fields (lines_of text))) old) (sym there)
