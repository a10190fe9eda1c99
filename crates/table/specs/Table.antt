-- The table of document 01, "Conditions of acceptance": the median of -1, 2 and 0; the three joins; the three sums of document 003; and
-- the listing of the example, from the bytes of its file.
use Rattle.std.specs.Prelude.{◌≡◌, ℕ, ℤ, pos, negsuc, replicate}
use mathlib.Core.List.{List, [], ◌∷◌, flat_map}
use Prim.Native.String.{String}
use Rattle.text_form.specs.Text.{bytes}
use Rattle.difference_form.specs.Rows.{difference, median, interval_difference}
use Rattle.fit_form.specs.Sets.{join}
use Rattle.matrix_form.specs.declared.spans.Span.{Span}
use Rattle.listing_form.specs.Listing.{output}

-- the set of the states from a to b
abbrev pub span : ℕ → ℕ → Span
span a b = record { low = pos a; high = pos b }

-- rows with the differences of document 003's handout, whose own data sheet is not in the paper: 12 characters of code 0 or 1
abbrev pub anc : List ℤ
anc = pos 0 ∷ pos 0 ∷ pos 0 ∷ pos 0 ∷ pos 0 ∷ pos 0 ∷ pos 0 ∷ pos 0 ∷ pos 0 ∷ pos 0 ∷ pos 0 ∷ pos 0 ∷ []

-- C of the handout
abbrev pub taxon_c : List ℤ
taxon_c = pos 1 ∷ pos 1 ∷ pos 1 ∷ pos 1 ∷ pos 0 ∷ pos 0 ∷ pos 0 ∷ pos 0 ∷ pos 0 ∷ pos 0 ∷ pos 0 ∷ pos 0 ∷ []

-- A of the handout
abbrev pub taxon_a : List ℤ
taxon_a = pos 0 ∷ pos 0 ∷ pos 0 ∷ pos 0 ∷ pos 1 ∷ pos 1 ∷ pos 1 ∷ pos 1 ∷ pos 1 ∷ pos 1 ∷ pos 1 ∷ pos 0 ∷ []

-- B of the handout
abbrev pub taxon_b : List ℤ
taxon_b = pos 1 ∷ pos 0 ∷ pos 0 ∷ pos 0 ∷ pos 1 ∷ pos 1 ∷ pos 1 ∷ pos 1 ∷ pos 1 ∷ pos 1 ∷ pos 1 ∷ pos 1 ∷ []

-- D of the handout
abbrev pub taxon_d : List ℤ
taxon_d = pos 1 ∷ pos 0 ∷ pos 0 ∷ pos 0 ∷ pos 1 ∷ pos 1 ∷ pos 1 ∷ pos 1 ∷ pos 1 ∷ pos 0 ∷ pos 0 ∷ pos 0 ∷ []

-- the handout knows no weights: each of the 12 characters has weight 1
abbrev pub alike : List ℕ
alike = replicate 12 1

-- one sum of the handout: a taxon's differences from the ancestor and from C, and its interval difference
pub record Sum (taxon : List ℤ) (from_ancestor from_c interval : ℕ) : Type 0 where
  pub ancestor : difference alike taxon anc ≡ from_ancestor
  pub other : difference alike taxon taxon_c ≡ from_c
  pub across : difference alike anc taxon_c ≡ 4
  pub half : interval_difference alike taxon taxon_c anc ≡ interval

-- the bytes of some lines
unfoldable pub text : List String → List ℕ
text lines = flat_map bytes lines

-- the example's file
abbrev pub file : List String
file =
    "W\t4\t3\n"
    ∷ "A\t0\t0\t0\n"
    ∷ "B\t2\t1\t0\n"
    ∷ "C\t2\t3\t1\n"
    ∷ "D\t-1\t1\t2\n"
    ∷ []

-- its listing, with the line `c` of document 02's M-102
abbrev pub listed : List String
listed =
    "P\tB\tA\t3\n"
    ∷ "P\tC\tB\t3\n"
    ∷ "P\tD\tA\t4\n"
    ∷ "p\t10\n"
    ∷ "W\tB\t-\tA\t-\t3\n"
    ∷ "W\tD\tB\tA\t#1\t3\n"
    ∷ "W\tC\tB\t#1\t#2\t3\n"
    ∷ "w\t9\n"
    ∷ "T\tB\t#2\t1\t+\n"
    ∷ "T\tC\t#2\t2\t+\n"
    ∷ "T\tD\t#1\t2\t+\n"
    ∷ "T\t#1\tA\t2\t+\n"
    ∷ "T\t#2\t#1\t2\t+\n"
    ∷ "t\t9\n"
    ∷ "c\t888\t8\n"
    ∷ "H\t#1\t1\t0\t0\t0\n"
    ∷ "H\t#1\t2\t1\t1\t1\n"
    ∷ "H\t#1\t3\t0\t1\t1\n"
    ∷ "H\t#2\t1\t2\t2\t2\n"
    ∷ "H\t#2\t2\t1\t1\t1\n"
    ∷ "H\t#2\t3\t0\t1\t1\n"
    ∷ []

-- the worked examples of document 01 that are proved together
pub record Table : Type 0 where
  pub median : median (negsuc 0) (pos 2) (pos 0) ≡ pos 0
  pub apart_sets : join (span 0 1) (span 2 2) ≡ span 1 2
  pub common : join (span 0 3) (span 1 5) ≡ span 1 3
  pub touching : join (span 0 1) (span 1 2) ≡ span 1 1
  pub first_sum : Sum taxon_a 7 11 7
  pub second_sum : Sum taxon_b 9 11 8
  pub third_sum : Sum taxon_d 6 8 5
  pub listing : output (text file) ≡ text listed
