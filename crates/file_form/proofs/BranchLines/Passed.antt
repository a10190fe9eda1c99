-- `C` lines that pass their questions are written in the one way.
use mathlib.Core.Path.{◌≡◌, refl, sym, ap, ap₂, ◌∙◌}
use mathlib.Core.Bool.{true}
use mathlib.Core.List.{List, [], ◌∷◌, map, zip_with}
use Prim.Native.Nat.{ℕ, zero, suc, ◌+◌, ◌<◌}
use native.Mathlib.Nat.{zero-add}
use native.Mathlib.Omega.{arith}
use lib.ListN.{length, get_or, take}
use Rattle.lists.specs.Numbers.{numbers}
use Rattle.matrix_form.specs.declared.refusal.Refusal.TheVariants.{BranchForm}
use Rattle.std.specs.Prelude.{Ok}
use Rattle.matrix_form.proofs.Passing.{ask_passed}
use Rattle.text_form.specs.Bytes.{tab, joined_by}
use Rattle.text_form.specs.Decimal.{digits_of}
use Rattle.text_form.specs.Lines.{fields_of}
use Rattle.file_form.specs.Branches.{branch_form, ancestor_in, branch_text, branch_sort}
use Rattle.text_form.proofs.Digits.{digits_of_number}
use Rattle.text_form.proofs.Parts.{joined_pieces}
use Rattle.file_form.proofs.File.InTurn.{AllPass}
use Rattle.file_form.proofs.BranchLines.Form.{form_tells}

-- a list of three items is these three
three_items : (fields : List (List ℕ)) → length fields ≡ 3 → get_or fields 0 [] ∷ get_or fields 1 [] ∷ get_or fields 2 [] ∷ [] ≡ fields
three_items [] h = absurd (omega arith)
three_items (a ∷ []) h = absurd (omega arith)
three_items (a ∷ b ∷ []) h = absurd (omega arith)
three_items (a ∷ b ∷ c ∷ []) h = refl
three_items (a ∷ b ∷ c ∷ d ∷ fields) h = absurd (omega arith)

-- a `C` line of the right form is written in the one way
branch_written : (v : ℕ) (line : List ℕ) → branch_form v (fields_of line) ≡ true → branch_text v (ancestor_in line) ≡ line
unfolding branch_text ancestor_in fields_of
branch_written v line e =
    let told = form_tells v (fields_of line) e in
    let node : digits_of v ≡ get_or (fields_of line) 1 [] = ap digits_of (sym told.turn) ∙ digits_of_number (get_or (fields_of line) 1 []) told.node in
    ap₂ (λ word second. joined_by tab (word ∷ second ∷ digits_of (ancestor_in line) ∷ [])) (sym told.word) node
    ∙ ap (λ third. joined_by tab (get_or (fields_of line) 0 [] ∷ get_or (fields_of line) 1 [] ∷ third ∷ []))
    (digits_of_number (get_or (fields_of line) 2 []) told.above)
    ∙ ap (joined_by tab) (three_items (fields_of line) told.three)
    ∙ joined_pieces tab line

-- some lines and what they say: `C` lines of the nodes from v on, written in the one way
pub record BranchesRead (v left : ℕ) (lines : List (List ℕ)) : Type 0 where
  pub count : length (take left lines) ≡ left
  pub formed : (k : ℕ) → k < left → branch_form (k + v) (fields_of (get_or lines k [])) ≡ true
  pub written : zip_with branch_text (numbers v left) (map ancestor_in (take left lines)) ≡ take left lines

-- `C` lines that pass were read so
pub branches_read_lem : (v left : ℕ) (earlier lines : List (List ℕ)) → v ≡ length earlier + 2 → length (take left lines) ≡ left
    → AllPass branch_sort earlier (take left lines) → BranchesRead v left lines
unfolding zip_with numbers
branches_read_lem v zero earlier lines turn count pass = record { count = refl; formed = λ k h. absurd (omega arith); written = refl }
branches_read_lem v (suc left) earlier [] turn count pass = absurd (omega arith)
branches_read_lem v (suc left) earlier (line ∷ lines) turn count pass =
    let formed : branch_form v (fields_of line) ≡ true =
    ap (λ u. branch_form u (fields_of line)) turn
    ∙ (ask_passed (branch_form (length earlier + 2) (fields_of line)) BranchForm (Ok tt) pass.0).0 in
    let others = branches_read_lem (suc v) left (line ∷ earlier) lines (omega (arith, turn)) (omega arith) pass.1 in
    record {
      count = count;
      formed = each formed others.formed;
      written = ap₂ ◌∷◌ (branch_written v line formed) others.written;
    }
  where
    -- the first line has the form of its node, and the others have that of theirs
    each : branch_form v (fields_of line) ≡ true → ((k : ℕ) → k < left → branch_form (k + suc v) (fields_of (get_or lines k [])) ≡ true)
        → (k : ℕ) → k < suc left → branch_form (k + v) (fields_of (get_or (line ∷ lines) k [])) ≡ true
    each first behind zero h = rw zero-add first
    each first behind (suc k) h =
        let node : k + suc v ≡ suc k + v = omega arith in
        ap (λ u. branch_form u (fields_of (get_or lines k []))) (sym node) ∙ behind k (omega arith)
