-- `C` lines that are written as document 02 wants them say what was written, and pass their questions.
use mathlib.Core.Path.{◌≡◌, refl, sym, ap, ap₂, ◌∙◌}
use mathlib.Core.List.{List, [], ◌∷◌, map, zip_with}
use mathlib.Core.Bool.{true}
use Prim.Native.Nat.{ℕ, suc, ◌+◌, ◌^◌, ◌≤◌, ◌<◌}
use native.Mathlib.Omega.{arith}
use borrow.Author.Tests.{eq-eqb}
use lib.ListN.{length, get_or}
use Rattle.lists.specs.Numbers.{numbers}
use Rattle.lists.specs.Tests.{every, same_numbers as same_text}
use Rattle.lists.proofs.Both.{and_both}
use Rattle.lists.proofs.Every.{every-cons}
use Rattle.matrix_form.specs.Shape.{most_taxa}
use Rattle.matrix_form.specs.Outcomes.{ask}
use Rattle.matrix_form.specs.declared.refusal.Refusal.TheVariants.{BranchForm}
use Rattle.std.specs.Prelude.{Ok}
use Rattle.lists.proofs.Filled.{filled_at}
use Rattle.tree_form.specs.Ancestors.{ancestor, tree_with, tree_size}
use Rattle.tree_form.specs.Growing.{branching}
use Rattle.tree_form.specs.LentNumbers.{record_numbers}
use Rattle.tree_form.proofs.Test.{branching_iff}
use Rattle.tree_form.proofs.Whole.{growing_ancestor_le}
use Rattle.text_form.specs.Bytes.{line_feed}
use Rattle.file_form.specs.Words.{word_c}
use Rattle.text_form.specs.Decimal.{digits_of, number_of}
use Rattle.text_form.specs.Lines.{fields_of}
use Rattle.file_form.specs.Branches.{branch_form, ancestor_in, branch_text, branch_sort}
use Rattle.file_form.specs.Formed.{record_in}
use Rattle.text_form.proofs.Digits.{number_of_digits, digits_form}
use Rattle.file_form.proofs.File.InTurn.{AllPass}
use Rattle.text_form.proofs.Parts.{lacks}
use Rattle.text_form.proofs.Plain.{plain, digits_plain, line_fields, line_lacks}

-- the `C` line of a node and its ancestor
module _ (v above : ℕ) where
  -- its fields hold neither a tab nor a line feed
  fields_plain : every plain (word_c ∷ digits_of v ∷ digits_of above ∷ []) ≡ true
  unfolding every
  fields_plain = and_both (digits_plain v) (and_both (digits_plain above) refl)

  -- its fields are read back
  branch_fields : fields_of (branch_text v above) ≡ word_c ∷ digits_of v ∷ digits_of above ∷ []
  unfolding branch_text
  branch_fields = line_fields word_c (digits_of v ∷ digits_of above ∷ []) fields_plain

  -- it holds no line feed
  branch_lacks : lacks line_feed (branch_text v above) ≡ true
  unfolding branch_text
  branch_lacks = line_lacks word_c (digits_of v ∷ digits_of above ∷ []) fields_plain

  -- its ancestor is read back
  branch_back : ancestor_in (branch_text v above) ≡ above
  unfolding ancestor_in
  branch_back = rw branch_fields (number_of_digits above)

  -- and so is its record
  record_back : record_in (branch_text v above) ≡ record_numbers v above
  record_back = ap₂ record_numbers (rw branch_fields (number_of_digits v)) branch_back

  -- it has the right form
  branch_formed : v < 10 ^ 6 → above < 10 ^ 6 → branch_form v (fields_of (branch_text v above)) ≡ true
  unfolding branch_form same_text
  branch_formed low small =
      rw branch_fields
      (and_both (and_both (digits_form v low) (eq-eqb (number_of (digits_of v)) v (number_of_digits v))) (digits_form above small))

-- each of some ancestors is an index of a tree
abbrev pub AreNodes : List ℕ → Type 0
AreNodes above = (k : ℕ) → get_or above k 0 < tree_size

-- the ancestors of a branching of at most 64 taxa are
pub branched_nodes : (n : ℕ) (above : List ℕ) → 1 ≤ n → n ≤ most_taxa → branching n (tree_with above) ≡ true → AreNodes above
unfolding ancestor
branched_nodes n above some most e k =
    omega (
      arith,
      growing_ancestor_le n (tree_with above) ((branching_iff (tree_with above) n some).0 e) (suc (suc k)),
      filled_at 0 127 (0 ∷ (0 ∷ above)) (suc (suc k)),
    )

-- `C` lines of nodes from v on pass their questions
pub branches_pass : (v : ℕ) (earlier : List (List ℕ)) (above : List ℕ) → v ≡ length earlier + 2 → v + length above ≤ 10 ^ 6 → AreNodes above
    → AllPass branch_sort earlier (zip_with branch_text (numbers v (length above)) above)
unfolding zip_with numbers
branches_pass v earlier [] turn few nodes = tt
branches_pass v earlier (a ∷ above) turn few nodes = (
  ap (λ b. ask b BranchForm (Ok tt))
      (ap (λ u. branch_form u (fields_of (branch_text v a))) (sym turn) ∙ branch_formed v a (omega arith) (omega (arith, nodes 0))),
  branches_pass (suc v) (branch_text v a ∷ earlier) above (omega (arith, turn)) (omega arith) (λ k. nodes (suc k)),
)

-- the ancestors are read back from the lines
pub branches_back : (v : ℕ) (above : List ℕ) → map ancestor_in (zip_with branch_text (numbers v (length above)) above) ≡ above
unfolding zip_with numbers
branches_back v [] = refl
branches_back v (a ∷ above) = ap₂ ◌∷◌ (branch_back v a) (branches_back (suc v) above)

-- and so are the records
pub records_back : (v : ℕ) (above : List ℕ)
    → map record_in (zip_with branch_text (numbers v (length above)) above) ≡ zip_with record_numbers (numbers v (length above)) above
unfolding zip_with numbers
records_back v [] = refl
records_back v (a ∷ above) = ap₂ ◌∷◌ (record_back v a) (records_back (suc v) above)

-- the lines hold no line feed
pub branches_lack : (v : ℕ) (above : List ℕ) → every (lacks line_feed) (zip_with branch_text (numbers v (length above)) above) ≡ true
unfolding zip_with numbers every
branches_lack v [] = refl
branches_lack v (a ∷ above) =
    every-cons (lacks line_feed) (branch_text v a) (zip_with branch_text (numbers (suc v) (length above)) above) (branch_lacks v a)
    (branches_lack (suc v) above)
