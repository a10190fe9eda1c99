-- The fields of a line: codes, names up to their first zero, and nodes, by the bytes that are put for them.
use mathlib.Core.Path.{◌≡◌, refl, sym, ap, ◌∙◌}
use mathlib.Core.Bool.{true, false, true≢false}
use mathlib.Core.List.{List, [], ◌∷◌}
use Prim.Native.Nat.{ℕ, zero, suc, ◌+◌, ◌-◌, ◌≤◌, ◌<◌}
use native.Mathlib.Omega.{arith}
use mir.Facts.{to_z-of_z}
use mir.Syntax.{w32}
use mir.Val.{SFits, of_z, to_z}
use borrow.Author.Tests.{le-leb, lt-leb, ltb-true}
use lib.IntN.{ℤ, pos, negsuc}
use lib.ListN.{get_or}
use lib.Signed.{lt_z}
use Rattle.std.specs.Prelude.{Option, Some, None}
use Rattle.std.specs.Option.{option_map}
use Rattle.consistency_form.specs.declared.index.Index.{Index}
use Rattle.lists.proofs.Numbers.{map-numbers}
use Rattle.difference_form.specs.Rows.{apart}
use Rattle.difference_form.proofs.Laws.Codes.{apart_from_zero}
use Rattle.text_form.specs.Bytes.{minus, first_piece}
use Rattle.text_form.specs.Decimal.{digits_of, decimal}
use Rattle.text_form.specs.Text.{bytes}
use Rattle.listing_form.specs.Lines.{line, hyphen, htu_name, node_name}
use Rattle.listing_form.specs.Kinds.{index_line}
use Rattle.lines.specs.Fields.{or_hyphen}
use Rattle.lines.proofs.Puts.{put_head, put_line, put_next, put_end}
use Rattle.file_form.specs.Written.{name_bytes, names_in}

-- a code below zero
pub code_below : (z : ℤ) → lt_z z (pos 0) ≡ true → minus ∷ digits_of (apart z (pos 0)) ≡ decimal z
unfolding decimal
code_below (pos n) h = absurd (omega (arith, ltb-true n 0 h))
code_below (negsuc n) h = ap (λ size. minus ∷ digits_of size) (apart_from_zero (negsuc n))

-- any other code
pub code-above : (z : ℤ) → lt_z z (pos 0) ≡ false → digits_of (apart z (pos 0)) ≡ decimal z
unfolding decimal
code-above (pos n) h = ap digits_of (apart_from_zero (pos n))
code-above (negsuc n) h = absurd (true≢false h)

-- a code handed on is the code
pub same_code : {z : ℤ} → SFits w32 z → decimal (to_z w32 (of_z w32 z)) ≡ decimal z
same_code f = rw (to_z-of_z f)

module _ (n : ℕ) (names : List (List ℕ)) where
  -- an HTU is printed by its number
  pub node_htu : (v : ℕ) → n < v → node_name n names v ≡ htu_name (v - n)
  unfolding node_name
  node_htu zero h = absurd (omega arith)
  node_htu (suc v) h = rw (lt-leb (suc v) n h, node_name)

  -- a taxon is printed by its name
  pub node_taxon : (v : ℕ) → 1 ≤ v → v ≤ n → node_name n names v ≡ get_or names (v - 1) []
  unfolding node_name
  node_taxon zero p h = absurd (omega arith)
  node_taxon (suc v) p h =
      let place : v ≡ suc v - 1 = omega arith in
      rw (le-leb (suc v) n h, node_name) (ap (λ k. get_or names k []) place)

  -- no node is printed as a hyphen
  pub node_none : (v : ℕ) → v ≡ 0 → minus ∷ [] ≡ node_name n names v
  unfolding node_name hyphen bytes
  node_none zero e = refl
  node_none (suc v) e = absurd (omega arith)

-- a taxon is printed by the name that lent bytes hold for it
pub node_lent : (n : ℕ) (lent : List ℕ) (v : ℕ) → (v ≡ 0 → ⊥) → v ≤ n → first_piece 0 (name_bytes lent (v - 1)) ≡ node_name n (names_in n lent) v
unfolding names_in
node_lent n lent v some h =
    let place : v - 1 < n = omega arith in
    let first : 1 ≤ v = omega arith in
    let same : v - 1 ≡ 0 + (v - 1) = omega arith in
    ap (λ k. first_piece 0 (name_bytes lent k)) same
    ∙ sym (map-numbers (λ k. first_piece 0 (name_bytes lent k)) [] 0 n (v - 1) place)
    ∙ sym (node_taxon n (names_in n lent) v first h)

-- the line `c` by its two fields, each of them a hyphen where there is no index
pub index_fields : (index : Option Index)
    → index_line index
    ≡ line (bytes "c" ∷ or_hyphen digits_of (option_map (λ (found : Index). found.quotient) index) ∷ or_hyphen digits_of (option_map (λ (found : Index). found.remainder) index) ∷ [])
unfolding or_hyphen index_line
index_fields (Some index) = refl
index_fields None = refl

-- the steps by which the check puts a line together from its fields
pub ruleset line_steps = (put_line, put_next, put_end, same_code, index_fields)

-- and those by which it puts one field
pub ruleset field_steps = (put_head, same_code, code_below, code-above, node_none, node_htu, node_lent)
