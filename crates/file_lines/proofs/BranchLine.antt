-- The form of a `C` line, as its fields are read, and the ancestor that it says.
use mathlib.Core.Path.{◌≡◌, refl, sym, ap, ◌∙◌}
use mathlib.Core.Bool.{Bool, true, false, ◌&&◌, not, cond}
use mathlib.Core.List.{List, []}
use Prim.Native.Nat.{ℕ}
use lib.Dec.{eqb}
use lib.ListN.{length, get_or}
use Rattle.std.specs.Prelude.{Option, None, Some, Ok}
use Rattle.std.specs.Cmp.Lexicographic.{pointwise}
use Rattle.text_form.proofs.Slices.{same_pointwise}
use Rattle.std.specs.Option.{option_eq, ok_or}
use Rattle.lists.specs.Tests.{same_numbers as same_text}
use Rattle.file_form.specs.Words.{word_c}
use Rattle.text_form.specs.Decimal.{number_form, number_of}
use Rattle.text_form.specs.Lines.{fields_of}
use Rattle.matrix_form.specs.Outcomes.{ask}
use Rattle.matrix_form.specs.declared.refusal.Refusal.TheVariants.{BranchForm}
use Rattle.file_form.specs.Branches.{branch_form, ancestor_in}
use Rattle.file_form.proofs.BranchLines.Form.{node_decides}
use Rattle.file_text.specs.Steps.{read_as}
use Rattle.file_text.proofs.ReadAs.{read_formed, read_formless}
use Rattle.file_header.specs.Steps.{with_value}

-- whether the first field is another word than `C`
pub word_told : (line word : List ℕ) → word ≡ get_or (fields_of line) 0 []
    → not (pointwise eqb word word_c) ≡ not (same_text (get_or (fields_of line) 0 []) word_c)
word_told line word f = ap not (same_pointwise word word_c ∙ ap (λ field. same_text field word_c) f)

-- the second field tells the node, where the others are right
pub node_told : (v : ℕ) (fields : List (List ℕ)) → length fields ≡ 3 → same_text (get_or fields 0 []) word_c ≡ true
    → number_form (get_or fields 2 []) ≡ true → (field : List ℕ) (r : Option ℕ) → field ≡ get_or fields 1 []
    → r ≡ read_as number_form number_of field → option_eq eqb r (Some v) ≡ branch_form v fields
node_told v fields three word third field r f e =
    ap (λ x. option_eq eqb x (Some v)) e
    ∙ by (number_form field)
    ∙ ap (λ x. number_form x && eqb (number_of x) v) f
    ∙ sym (node_decides v fields three word third)
  where
    by : (b : Bool) → option_eq eqb (cond b (Some (number_of field)) None) (Some v) ≡ b && eqb (number_of field) v
    by true = refl
    by false = refl

-- a line, which may be the `C` line of node v
module _ (line : List ℕ) (v : ℕ) where
  -- whether it is
  abbrev formed : List ℕ → Bool
  formed text = branch_form v (fields_of text)

  -- another line says no ancestor
  pub other_line : formed line ≡ false → None ≡ read_as formed ancestor_in line
  other_line e = read_formless formed ancestor_in line e

  -- it says one
  pub its_line : formed line ≡ true → (ancestor : ℕ) → ancestor ≡ ancestor_in line → Some ancestor ≡ read_as formed ancestor_in line
  its_line e ancestor a = read_formed formed ancestor_in line ancestor e a

  -- what it says decides the question put to it
  pub line_asked : (said : Option ℕ) → said ≡ read_as formed ancestor_in line
      → ok_or said BranchForm ≡ with_value (ask (branch_form v (fields_of line)) BranchForm (Ok tt)) (ancestor_in line)
  line_asked said e = ap (λ x. ok_or x BranchForm) e ∙ by (formed line)
    where
      by : (b : Bool) → ok_or (cond b (Some (ancestor_in line)) None) BranchForm ≡ with_value (ask b BranchForm (Ok tt)) (ancestor_in line)
      by true = refl
      by false = refl
