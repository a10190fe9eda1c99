-- The word for the order of placing: a field that passes its question is what is written for the word that it says; the field of each word
-- passes and says it; and the tests that find the word.
use mathlib.Core.Path.{◌≡◌, refl, sym, ap, ◌∙◌, subst⁻¹}
use mathlib.Core.Bool.{Bool, true, false, cond, ◌||◌, and-true}
use mathlib.Core.List.{List, [], ◌∷◌}
use Prim.Native.Nat.{ℕ, ◌+◌, ◌≤◌, ◌<◌}
use native.Mathlib.Omega.{arith}
use lib.ListN.{length, get_or, drop, drop_of_length-le}
use lib.Seq.{drop-cons}
use Rattle.std.specs.Prelude.{Option, None, Some, is_some}
use Rattle.lists.specs.Tests.{every, same_numbers as same_text}
use Rattle.lists.proofs.Both.{or_cases}
use Rattle.lists.proofs.Every.{every-head, same_numbers_iff}
use Rattle.tree_form.specs.declared.order.Order.{Order}
use Rattle.tree_form.specs.declared.order.Order.TheVariants.{Advance, Closest}
use Rattle.file_form.specs.Words.{word_advance, word_closest}
use Rattle.file_form.specs.Job.{order_fields}
use Rattle.file_form.specs.Header.{order_word, order_said, order_in, is_order, order_known}
use Rattle.text_form.proofs.Plain.{plain}

-- a word that passes is what is written for the order that it says
word_written : (word : List ℕ) → is_order word ≡ true → order_fields (order_said (word ∷ [])) ≡ word ∷ []
unfolding is_order same_text
word_written word e =
    or_cases (same_text word word_advance) (same_text word word_closest) e (λ same. written word_advance same refl)
    (λ same. written word_closest same refl)
  where
    -- it is so of a text that is the same
    written : (text : List ℕ) → same_text word text ≡ true → order_fields (order_said (text ∷ [])) ≡ text ∷ []
        → order_fields (order_said (word ∷ [])) ≡ word ∷ []
    written text same = subst⁻¹ (λ x. order_fields (order_said (x ∷ [])) ≡ x ∷ []) ((same_numbers_iff word text).0 same)

-- and so are at most one such field
pub order_written : (fields : List (List ℕ)) → length fields ≤ 1 → every is_order fields ≡ true → order_fields (order_said fields) ≡ fields
order_written [] h e = refl
order_written (word ∷ []) h e = word_written word (every-head is_order word [] e)
order_written (word ∷ next ∷ fields) h e = absurd (omega arith)

-- the field of each word says it
pub order_back : (order : Option Order) → order_said (order_fields order) ≡ order
unfolding same_text
order_back None = refl
order_back (Some Advance) = refl
order_back (Some Closest) = refl

-- it passes its question
pub order_passes : (order : Option Order) → every is_order (order_fields order) ≡ true
unfolding every is_order same_text
order_passes None = refl
order_passes (Some Advance) = refl
order_passes (Some Closest) = refl

-- it holds neither a tab nor a line feed
pub order-plain : (order : Option Order) → every plain (order_fields order) ≡ true
unfolding every
order-plain None = refl
order-plain (Some Advance) = refl
order-plain (Some Closest) = refl

-- there is at most one
pub order_single : (order : Option Order) → length (order_fields order) ≤ 1
order_single None = omega arith
order_single (Some Advance) = omega arith
order_single (Some Closest) = omega arith

-- fields that `count` tabs piece
module _ (fields : List (List ℕ)) (count : ℕ) (e : count + 1 ≡ length fields) where
  -- no fourth field
  none : count < 3 → drop 3 fields ≡ []
  none h = let past : length fields ≤ 3 = omega arith in drop_of_length-le fields past

  -- so there is none that is no word
  pub none-known : count < 3 → true ≡ order_known fields
  unfolding order_known every
  none-known h = sym (ap (every is_order) (none h))

  -- and no word is said
  pub none_said : count < 3 → None ≡ order_in fields
  unfolding order_in
  none_said h = sym (ap order_said (none h))

  -- a fourth field
  module _ (h : 3 ≤ count) (word : List ℕ) (w : word ≡ get_or fields 3 []) where
    -- it stands behind the third
    fourth : drop 3 fields ≡ word ∷ drop 4 fields
    fourth = drop-cons fields 3 [] (omega arith) ∙ ap (λ x. x ∷ drop 4 fields) (sym w)

    -- what it says is what is said
    pub fourth_said : order_word word ≡ order_in fields
    unfolding order_in
    fourth_said = sym (ap order_said fourth)

    -- and where no fifth follows, it decides whether a word is known
    pub fourth_known : length fields ≤ 4 → order_known fields ≡ is_some (order_word word)
    unfolding order_known is_order every
    fourth_known few =
        ap (every is_order) (fourth ∙ ap (◌∷◌ word) (drop_of_length-le fields few))
        ∙ and-true (is_order word)
        ∙ by (same_text word word_advance) (same_text word word_closest)
      where
        by : (a c : Bool) → a || c ≡ is_some (cond a (Some Advance) (cond c (Some Closest) None))
        by true c = refl
        by false true = refl
        by false false = refl
