-- The form of a `C` line, test by test, and what it tells.
use mathlib.Core.Path.{◌≡◌, ap, ◌∙◌}
use mathlib.Core.Logic.{◌≢◌}
use mathlib.Core.Bool.{Bool, true, false, ◌&&◌, and-true}
use mathlib.Core.List.{List, []}
use Prim.Native.Nat.{ℕ}
use borrow.Author.Tests.{eq-eqb, ne_eqb, eqb-true}
use lib.Dec.{eqb}
use lib.ListN.{length, get_or}
use Rattle.lists.specs.Tests.{same_numbers as same_text}
use Rattle.lists.proofs.Both.{and_left, and_right, and_both}
use Rattle.lists.proofs.Every.{same_numbers_iff}
use Rattle.file_form.specs.Words.{word_c}
use Rattle.text_form.specs.Decimal.{number_form, number_of}
use Rattle.file_form.specs.Branches.{branch_form}
use Rattle.file_form.proofs.File.FirstForm.{and-false}

-- the fields of the line of node v, test by test
module _ (v : ℕ) (fields : List (List ℕ)) where
  -- whether their number and the first are right
  abbrev fronted : Bool
  fronted = eqb (length fields) 3 && same_text (get_or fields 0 []) word_c

  -- whether the second says the node
  abbrev turned : Bool
  turned = number_form (get_or fields 1 []) && eqb (number_of (get_or fields 1 [])) v

  -- there are not three
  pub other-count : length fields ≢ 3 → branch_form v fields ≡ false
  unfolding branch_form
  other-count h = rw (ne_eqb (length fields) 3 h)

  -- the first is not `C`
  pub bad_word : same_text (get_or fields 0 []) word_c ≡ false → branch_form v fields ≡ false
  unfolding branch_form
  bad_word e =
      ap (λ b. (eqb (length fields) 3 && b) && (turned && number_form (get_or fields 2 []))) e
      ∙ ap (λ b. b && (turned && number_form (get_or fields 2 []))) (and-false (eqb (length fields) 3))

  -- the third is no number
  pub bad_third : number_form (get_or fields 2 []) ≡ false → branch_form v fields ≡ false
  unfolding branch_form
  bad_third e = ap (λ b. fronted && (turned && b)) e ∙ ap (λ b. fronted && b) (and-false turned) ∙ and-false fronted

  -- all these are right: the second decides
  pub node_decides : length fields ≡ 3 → same_text (get_or fields 0 []) word_c ≡ true → number_form (get_or fields 2 []) ≡ true
      → branch_form v fields ≡ number_form (get_or fields 1 []) && eqb (number_of (get_or fields 1 [])) v
  unfolding branch_form
  node_decides three word third =
      ap (λ b. b && (turned && number_form (get_or fields 2 []))) (and_both (eq-eqb (length fields) 3 three) word)
      ∙ ap (λ b. turned && b) third
      ∙ and-true turned

-- what fields of the right form tell
pub record BranchFormed (v : ℕ) (fields : List (List ℕ)) : Type 0 where
  pub three : length fields ≡ 3
  pub word : get_or fields 0 [] ≡ word_c
  pub node : number_form (get_or fields 1 []) ≡ true
  pub turn : number_of (get_or fields 1 []) ≡ v
  pub above : number_form (get_or fields 2 []) ≡ true

-- fields of the right form tell so
pub form_tells : (v : ℕ) (fields : List (List ℕ)) → branch_form v fields ≡ true → BranchFormed v fields
unfolding branch_form
form_tells v fields e =
    let front = and_left (eqb (length fields) 3 && same_text (get_or fields 0 []) word_c) _ e in
    let numbers = and_right (eqb (length fields) 3 && same_text (get_or fields 0 []) word_c) _ e in
    let second = and_left (number_form (get_or fields 1 []) && eqb (number_of (get_or fields 1 [])) v) _ numbers in
    record {
      three = eqb-true (length fields) 3 (and_left (eqb (length fields) 3) _ front);
      word = (same_numbers_iff (get_or fields 0 []) word_c).0 (and_right (eqb (length fields) 3) _ front);
      node = and_left (number_form (get_or fields 1 [])) _ second;
      turn = eqb-true (number_of (get_or fields 1 [])) v (and_right (number_form (get_or fields 1 [])) _ second);
      above = and_right (number_form (get_or fields 1 []) && eqb (number_of (get_or fields 1 [])) v) _ numbers;
    }
