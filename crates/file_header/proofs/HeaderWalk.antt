-- The header of a file, as it is read and asked.
use mathlib.Core.Path.{◌≡◌, refl, sym, ap, ap₂, ◌∙◌}
use mathlib.Core.List.{List, [], ◌∷◌}
use mathlib.Core.Bool.{Bool, true, false, false≢true, ◌&&◌}
use mathlib.Core.Logic.{by_cases}
use native.Mathlib.Decide.{dec_le}
use Prim.Native.Nat.{ℕ, ◌+◌, ◌≤◌}
use native.Mathlib.Omega.{arith}
use borrow.Author.Tests.{le-leb, leb-true}
use lib.Dec.{leb}
use lib.ListN.{length, get_or}
use Rattle.std.specs.Prelude.{Option, None, Some, Result, Ok, Err}
use Rattle.lists.proofs.Both.{and_left, and_right, and_both}
use Rattle.matrix_form.specs.Outcomes.{ask}
use Rattle.matrix_form.specs.Questions.{within_limits}
use Rattle.matrix_form.specs.declared.refusal.Refusal.{Refusal}
use Rattle.matrix_form.specs.declared.refusal.Refusal.TheVariants.{FirstLine, UnknownOrder, BeyondLimits}
use Rattle.file_form.specs.declared.header.Header.{Header}
use Rattle.file_form.specs.declared.header.Kind.{Kind}
use Rattle.tree_form.specs.declared.order.Order.{Order}
use Rattle.text_form.specs.Bytes.{line_feed}
use Rattle.text_form.specs.Decimal.{number_form, number_of}
use Rattle.text_form.specs.Lines.{lines_of, fields_of}
use Rattle.file_form.specs.Kinds.{kind_form, is_kind, kind_said}
use Rattle.file_form.specs.Header.{first_form, first_line_form, order_known, order_in, header_from, header_in}
use Rattle.file_form.specs.Header.{ask_first_line}
use Rattle.file_form.specs.Optional.{optional_there}
use Rattle.file_form.specs.Weights.{letter_v}
use Rattle.file_form.proofs.File.FirstForm.{too_few, too_many, no_kind, no_taxa, no_characters, all_right}
use Rattle.text_form.proofs.Parts.{pieces_some}
use Rattle.file_header.specs.Steps.{first_said, with_value, order_asked}
use Rattle.file_text.specs.Steps.{read_as}
use Rattle.file_text.proofs.ReadAs.{read_formed, read_formless, formed_read, formless_read}

-- the fields of line 1, and the first of them
module _ (fields : List (List ℕ)) (word : List ℕ) (w : word ≡ get_or fields 0 []) where
  -- it says no kind
  pub kind_none : None ≡ read_as is_kind kind_said word → None ≡ read_as first_form first_said fields
  kind_none e =
      read_formless first_form first_said fields (no_kind fields (ap is_kind (sym w) ∙ formless_read is_kind kind_said word e))

  -- it says a kind
  module _ (kind : Kind) (k : Some kind ≡ read_as is_kind kind_said word) where
    -- that of the definition
    kind_is : kind ≡ kind_said (get_or fields 0 [])
    kind_is = (formed_read is_kind kind_said word kind k).1 ∙ ap kind_said w

    -- too few fields, or too many
    pub no_count : (count most : ℕ) → count + 1 ≡ length fields → most + 1 ≡ (kind_form kind).most_fields → (within : Bool)
        → within ≡ leb 2 count && leb count most → within ≡ false → None ≡ read_as first_form first_said fields
    no_count count most e m within d h =
        read_formless first_form first_said fields
        (by_cases (dec_le 2 count)
        (λ some.
        by_cases (dec_le count most)
        (λ low. absurd (false≢true (sym h ∙ d ∙ and_both (le-leb 2 count some) (le-leb count most low))))
        (λ high. too_many fields (omega (arith, e, m, high, ap (λ k. (kind_form k).most_fields) kind_is))))
        (λ few. too_few fields (omega (arith, e, few))))

    -- the second is no number
    pub taxa_none : (field : List ℕ) → field ≡ get_or fields 1 [] → None ≡ read_as number_form number_of field
        → None ≡ read_as first_form first_said fields
    taxa_none field f e =
        read_formless first_form first_said fields
        (no_taxa fields (ap number_form (sym f) ∙ formless_read number_form number_of field e))

    -- the third is no number
    pub characters_none : (field : List ℕ) → field ≡ get_or fields 2 [] → None ≡ read_as number_form number_of field
        → None ≡ read_as first_form first_said fields
    characters_none field f e =
        read_formless first_form first_said fields
        (no_characters fields (ap number_form (sym f) ∙ formless_read number_form number_of field e))

    -- all are right
    pub all_said : (count most : ℕ) → count + 1 ≡ length fields → most + 1 ≡ (kind_form kind).most_fields → (within : Bool)
        → within ≡ leb 2 count && leb count most → within ≡ true → (second third : List ℕ) → second ≡ get_or fields 1 [] → third ≡ get_or fields 2 [] → (n m : ℕ)
        → Some n ≡ read_as number_form number_of second → Some m ≡ read_as number_form number_of third
        → Some (kind, n, m) ≡ read_as first_form first_said fields
    all_said count most e q within d h second third s t n m a b =
        let low : 2 ≤ count = leb-true 2 count (and_left (leb 2 count) (leb count most) (sym d ∙ h)) in
        let high : count ≤ most = leb-true count most (and_right (leb 2 count) (leb count most) (sym d ∙ h)) in
        let taxa = formed_read number_form number_of second n a in
        let characters = formed_read number_form number_of third m b in
        read_formed first_form first_said fields (kind, n, m)
        (all_right fields (omega arith) (omega (arith, e, q, ap (λ k. (kind_form k).most_fields) kind_is))
        (ap is_kind (sym w) ∙ (formed_read is_kind kind_said word kind k).0)
        (ap number_form (sym s) ∙ taxa.0)
        (ap number_form (sym t) ∙ characters.0))
        (λ i. (kind_is i, (taxa.1 ∙ ap number_of s) i, (characters.1 ∙ ap number_of t) i))

-- the word for the order that fields carry
module _ (fields : List (List ℕ)) where
  -- it is known
  pub order_is : (order : Option Order) → true ≡ order_known fields → order ≡ order_in fields → Ok order ≡ order_asked fields
  order_is order k o = ap₂ (λ known said. with_value (ask known UnknownOrder (Ok tt)) said) k o

  -- it is not
  pub order_unknown : order_known fields ≡ false → Err UnknownOrder ≡ order_asked fields
  order_unknown e = sym (ap (λ known. with_value (ask known UnknownOrder (Ok tt)) (order_in fields)) e)

  -- what an answer tells
  pub order_refused : (refusal : Refusal) → order_asked fields ≡ Err refusal → (order_known fields ≡ false) × (refusal ≡ UnknownOrder)
  order_refused refusal e = by (order_known fields) refl e
    where
      by : (b : Bool) → order_known fields ≡ b → with_value (ask b UnknownOrder (Ok tt)) (order_in fields) ≡ Err refusal
          → (order_known fields ≡ false) × (refusal ≡ UnknownOrder)
      by true k same = cc
      by false k same = (k, cc)

  -- and where it passes
  pub order_passed : (order : Option Order) → order_asked fields ≡ Ok order → (order_known fields ≡ true) × (order ≡ order_in fields)
  order_passed order e = by (order_known fields) refl e
    where
      by : (b : Bool) → order_known fields ≡ b → with_value (ask b UnknownOrder (Ok tt)) (order_in fields) ≡ Ok order
          → (order_known fields ≡ true) × (order ≡ order_in fields)
      by true k same = (k, cc)
      by false k same = cc

-- what the questions on line 1 of these lines bring
abbrev pub first_asked : List (List ℕ) → Result Header Refusal
first_asked lines = with_value (ask_first_line lines) (header_in lines)

-- what they bring, by the fields of line 1 and the lines behind it
abbrev fields_asked : List (List ℕ) → List (List ℕ) → Result Header Refusal
fields_asked fields behind =
    with_value
    (ask (first_form fields) FirstLine
    (ask (order_known fields) UnknownOrder
    (ask (within_limits (header_from fields behind).n (header_from fields behind).m) BeyondLimits (Ok tt))))
    (header_from fields behind)

-- a file whose line 1 no line feed ends
pub no_feed : (file : List ℕ) → lines_of file ≡ file ∷ [] → Err FirstLine ≡ first_asked (lines_of file)
unfolding ask_first_line first_line_form
no_feed file l = sym (ap first_asked l)

-- a file with line 1
module _ (file line behind : List ℕ) (l : lines_of file ≡ line ∷ lines_of behind) where
  -- its fields and the lines behind it decide
  fields_decide : first_asked (lines_of file) ≡ fields_asked (fields_of line) (lines_of behind)
  unfolding ask_first_line first_line_form header_in lines_of
  fields_decide =
      let more = pieces_some line_feed behind in
      ap first_asked (l ∙ ap (◌∷◌ line) more.2) ∙ ap (fields_asked (fields_of line)) (sym more.2)

  -- its form is not right
  pub bad_first : None ≡ read_as first_form first_said (fields_of line) → Err FirstLine ≡ first_asked (lines_of file)
  bad_first e = sym (fields_decide ∙ rw (formless_read first_form first_said (fields_of line) e))

  module _ (said : Kind × ℕ × ℕ) (s : Some said ≡ read_as first_form first_said (fields_of line)) where
    -- its form is right
    form : first_form (fields_of line) ≡ true
    form = (formed_read first_form first_said (fields_of line) said s).0

    -- what it says is
    is : said ≡ first_said (fields_of line)
    is = (formed_read first_form first_said (fields_of line) said s).1

    -- a fourth field is no word for the order
    pub bad_order : (refusal : Refusal) → order_asked (fields_of line) ≡ Err refusal → Err refusal ≡ first_asked (lines_of file)
    bad_order refusal e =
        let told = order_refused (fields_of line) refusal e in
        ap (λ r. Err r) told.1 ∙ sym (fields_decide ∙ rw (form, told.0))

    module _ (order : Option Order) (o : order_asked (fields_of line) ≡ Ok order) where
      -- the limits decide
      limits_decide : first_asked (lines_of file)
          ≡ with_value (ask (within_limits said.1 said.2) BeyondLimits (Ok tt)) (header_from (fields_of line) (lines_of behind))
      limits_decide =
          fields_decide
          ∙ rw (form, (order_passed (fields_of line) order o).0)
          (ap (λ (p : Kind × ℕ × ℕ). with_value (ask (within_limits p.1 p.2) BeyondLimits (Ok tt)) (header_from (fields_of line) (lines_of behind))) (sym is))

      -- n or m is beyond its limits
      pub beyond : within_limits said.1 said.2 ≡ false → Err BeyondLimits ≡ first_asked (lines_of file)
      beyond e = sym (limits_decide ∙ rw e)

      -- both are within them
      pub header_said : within_limits said.1 said.2 ≡ true → (weighed : Bool) → weighed ≡ optional_there letter_v (lines_of behind)
          → Ok (record { kind = said.0; n = said.1; m = said.2; order = order; weighed = weighed }) ≡ first_asked (lines_of file)
      header_said e weighed w =
          let header : record { kind = said.0; n = said.1; m = said.2; order = order; weighed = weighed }
          ≡ header_from (fields_of line) (lines_of behind) =
          λ i.
          record {
            kind = (is i).0;
            n = (is i).1;
            m = (is i).2;
            order = (order_passed (fields_of line) order o).1 i;
            weighed = w i;
          } in
          ap (λ x. Ok x) header ∙ sym (limits_decide ∙ rw e)
