-- Rows in which each taxon has a state in each character; rows of single codes are such.
use Rattle.std.proofs.Common.{◌≡◌, ℕ, ◌-◌, ◌≤◌, List, [], map, get_or, ℤ, pos, sym, ap, ◌∙◌, subst}
use lib.ListN.{get_or-map}
use Rattle.matrix_form.specs.Shape.{MatrixLists}
use Rattle.matrix_form.specs.NodeRows.{row_of, rows_of}
use Rattle.matrix_form.specs.Spans.{only, singles, spans_of}
use Rattle.matrix_form.specs.declared.spans.Span.{Span}
use Rattle.fit_form.specs.Sets.{Nonempty}
use Rattle.fit_form.specs.Assignments.{character}
use Rattle.fit_form.proofs.Sets.Distance.{only_nonempty}

-- each of n taxa has a state in each of m characters: its low end is not above its high end
pub record RowsProper (rows : List (List Span)) (n m : ℕ) : Type 0 where
  pub proper : (v j : ℕ) → 1 ≤ v → v ≤ n → 1 ≤ j → j ≤ m → Nonempty (character rows j v)

-- the code of taxon v in character j
abbrev pub code_of : List (List ℤ) → ℕ → ℕ → ℤ
code_of rows j v = get_or (row_of rows v) (j - 1) (pos 0)

-- of rows of codes a taxon has its code alone
pub character-single : (rows : List (List ℤ)) (j v : ℕ) → character (singles rows) j v ≡ only (code_of rows j v)
unfolding character singles row_of
character-single rows j v =
    ap (λ (row : List Span). get_or row (j - 1) (only (pos 0))) (get_or-map (λ codes. map only codes) rows (v - 1) [])
    ∙ get_or-map only (get_or rows (v - 1) []) (j - 1) (pos 0)

-- so each has a state
pub singles_proper : (rows : List (List ℤ)) (n m : ℕ) → RowsProper (singles rows) n m
singles_proper rows n m = record {
  proper = λ v j p q r l. subst Nonempty (sym (character-single rows j v)) (only_nonempty (code_of rows j v));
}

-- and so are those of a lent matrix
pub spans_proper : (lists : MatrixLists) (n m : ℕ) → RowsProper (spans_of lists m n) n m
unfolding spans_of
spans_proper lists n m = singles_proper (rows_of lists.codes m n) n m
