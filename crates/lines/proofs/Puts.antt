-- Texts put one after another into a listing.
use mathlib.Core.Path.{◌≡◌, refl, sym, ap, ◌∙◌}
use mathlib.Core.List.{List, [], ◌∷◌, ◌++◌, map, map-append}
use Prim.Native.Nat.{ℕ}
use Rattle.text_form.specs.Bytes.{tab, line_feed}
use Rattle.listing_form.specs.Lines.{line}
use Rattle.listing_form.proofs.LineFields.{behind, line_fields}
use Rattle.lines.specs.declared.put.Listing.{Listing}
use Rattle.lines.specs.Put.{put_byte, put_text}
use Rattle.lines.specs.Puts.{Puts}

-- a text and one behind it
pub put_append : (xs ys : List ℕ) (state : List ℕ × ℕ) → put_text (xs ++ ys) state ≡ put_text ys (put_text xs state)
unfolding put_text
put_append [] ys state = refl
put_append (x ∷ xs) ys state = put_append xs ys (put_byte x state)

-- one text, and another behind it
pub put_then : {xs ys : List ℕ} {old mid new : Listing} → Puts xs old mid → Puts ys mid new → Puts (xs ++ ys) old new
put_then {xs} {ys} {old} p q =
    record {
      put = record { is = q.put.is ∙ ap (put_text ys) p.put.is ∙ sym (put_append xs ys (old.out.now, old.at)) };
      same = q.same ∙ p.same;
    }

-- the same text, said in other words
pub put_same : {xs ys : List ℕ} {old new : Listing} → xs ≡ ys → Puts xs old new → Puts ys old new
put_same {old = old} e p = record { put = record { is = p.put.is ∙ ap (λ text. put_text text (old.out.now, old.at)) e }; same = p.same }

-- no text
pub put_none : (old : Listing) → Puts [] old old
unfolding put_text
put_none old = record { put = record { is = refl }; same = refl }

-- the texts of some things, and that of one more behind them
pub put_more : {A : Type 0} (f : A → ℕ) (xs : List A) (x : A) {old mid new : Listing} → Puts (map f xs) old mid → Puts (f x ∷ []) mid new
    → Puts (map f (xs ++ (x ∷ []))) old new
put_more f xs x p q = put_same (sym (map-append f xs (x ∷ []))) (put_then p q)

-- a byte, and a text behind it
pub put_head : (byte : ℕ) (text : List ℕ) (state : List ℕ × ℕ) → put_text (byte ∷ text) state ≡ put_text text (put_text (byte ∷ []) state)
unfolding put_text
put_head byte text state = refl

-- a line is put by its first field and what stands behind it
pub put_line : (field : List ℕ) (fields : List (List ℕ)) (state : List ℕ × ℕ)
    → put_text (line (field ∷ fields)) state ≡ put_text (behind fields) (put_text field state)
put_line field fields state = ap (λ text. put_text text state) (line_fields field fields) ∙ put_append field (behind fields) state

-- what stands behind it, field by field
pub put_next : (field : List ℕ) (fields : List (List ℕ)) (state : List ℕ × ℕ)
    → put_text (behind (field ∷ fields)) state ≡ put_text (behind fields) (put_text (tab ∷ field) state)
unfolding behind
put_next field fields state = put_append (tab ∷ field) (behind fields) state

-- and at last the line feed
pub put_end : (state : List ℕ × ℕ) → put_text (behind []) state ≡ put_text (line_feed ∷ []) state
unfolding behind
put_end state = refl

-- what is still to be put so that in all `whole` is put
pub record Left (whole : List ℕ) (old : Listing) (rest : List ℕ) (now : Listing) : Type 0 where
  pub is : put_text rest (now.out.now, now.at) ≡ put_text whole (old.out.now, old.at)
  pub same : now.out.ghost_name ≡ old.out.ghost_name

-- at first all of it
pub left_start : (whole : List ℕ) (old : Listing) → Left whole old whole old
left_start whole old = record { is = refl; same = refl }

-- when nothing is left it is put
pub left_end : {whole : List ℕ} {old now : Listing} → Left whole old [] now → Puts whole old now
unfolding put_text
left_end l = record { put = record { is = l.is }; same = l.same }

-- a part of what is left is put
pub left_put : {whole text rest : List ℕ} {old now new : Listing} → Left whole old (text ++ rest) now → Puts text now new → Left whole old rest new
left_put {text = text} {rest} {now = now} l p =
    record { is = ap (put_text rest) p.put.is ∙ sym (put_append text rest (now.out.now, now.at)) ∙ l.is; same = p.same ∙ l.same }

-- what is left, said in other words
pub left_same : {whole rest said : List ℕ} {old now : Listing} → rest ≡ said → Left whole old rest now → Left whole old said now
left_same {now = now} e l = record { is = ap (λ text. put_text text (now.out.now, now.at)) (sym e) ∙ l.is; same = l.same }
