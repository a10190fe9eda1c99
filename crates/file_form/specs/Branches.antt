-- The branching of a file (document 02, M-103): how many `C` lines there are, how they are written, which form is right, what they say,
-- and the questions put to them (17 of each line, and 14 of the branching).
use mathlib.Core.List.{List, [], ◌∷◌, zip_with}
use Rattle.std.specs.Prelude.{Bool, true, ◌&&◌, cond, ℕ, ◌+◌, ◌-◌, ◌*◌, eqb, length, get_or}
use Rattle.lists.specs.Numbers.{numbers}
use Rattle.lists.specs.Tests.{same_numbers as same_text}
use Rattle.matrix_form.specs.Outcomes.{ask}
use Rattle.matrix_form.specs.declared.refusal.Refusal.TheVariants.{NotBranching, BranchForm}
use Rattle.matrix_form.specs.Outcomes.{Asked}
use Rattle.std.specs.Prelude.{Ok}
use Rattle.tree_form.specs.Ancestors.{tree_with}
use Rattle.tree_form.specs.Growing.{branching}
use Rattle.file_form.specs.declared.header.Kind.{Kind}
use Rattle.text_form.specs.Bytes.{tab, joined_by}
use Rattle.file_form.specs.Words.{word_c}
use Rattle.text_form.specs.Decimal.{digits_of, number_form, number_of}
use Rattle.file_form.specs.Kinds.{kind_form}
use Rattle.text_form.specs.Lines.{fields_of}
use Rattle.file_form.specs.Lines.{LineSort}

-- how many `C` lines there are: in a file with a branching of its own one for each node from 2 to 2n-2, else none
abbrev pub branch_count : Kind → ℕ → ℕ
branch_count kind n = cond (kind_form kind).branched (2 * n - 3) 0

-- the `C` line of node v has three fields: `C`, the number v, and a number
unfoldable pub branch_form : ℕ → List (List ℕ) → Bool
branch_form v fields =
    (eqb (length fields) 3 && same_text (get_or fields 0 []) word_c)
    && ((number_form (get_or fields 1 []) && eqb (number_of (get_or fields 1 [])) v) && number_form (get_or fields 2 []))

-- the immediate ancestor that a `C` line says
unfoldable pub ancestor_in : List ℕ → ℕ
ancestor_in line = number_of (get_or (fields_of line) 2 [])

-- the `C` line of node v, by its immediate ancestor
unfoldable pub branch_text : ℕ → ℕ → List ℕ
branch_text v above = joined_by tab (word_c ∷ digits_of v ∷ digits_of above ∷ [])

-- the `C` lines of nodes 2, 3, .., by their immediate ancestors
unfoldable pub branch_texts : List ℕ → List (List ℕ)
branch_texts ancestors = zip_with branch_text (numbers 2 (length ancestors)) ancestors

-- the `C` lines of nodes 2, 3, ..: each is that of its node
abbrev pub branch_sort : LineSort
branch_sort =
    record {
      missing = BranchForm;
      asks = λ earlier line. ask (branch_form (length earlier + 2) (fields_of line)) BranchForm (Ok tt);
    }

-- the immediate ancestors of nodes 2, 3, .. are a branching of n taxa; where a file brings none there is none to ask for
abbrev pub branched : Kind → ℕ → List ℕ → Bool
branched kind n ancestors = cond (kind_form kind).branched (branching n (tree_with ancestors)) true

-- the question whether they are
abbrev pub ask_tree : Kind → ℕ → List ℕ → Asked
ask_tree kind n ancestors = ask (branched kind n ancestors) NotBranching (Ok tt)
