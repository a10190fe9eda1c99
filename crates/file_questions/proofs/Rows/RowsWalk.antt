-- A walk over the rows of a file keeps their names, which are handed to each row's questions.
use mathlib.Core.Path.{◌≡◌, refl, sym, ap, ◌∙◌}
use mathlib.Core.List.{List, [], ◌∷◌, map, map-append, reverse, reverse-append}
use denote.Ref.{Bor}
use Prim.Native.Nat.{ℕ, ◌+◌, ◌≤◌, ◌<◌}
use native.Mathlib.Omega.{arith}
use lib.ListN.{length, take, set, length-set, length-replicate}
use Rattle.filled.specs.declared.Filled.{Filled}
use Rattle.filled.specs.Filling.{NoneFilled, Pushed}
use Rattle.std.specs.Prelude.{Ok}
use Rattle.std.proofs.lemmas.Grind.{take-set_at}
use Rattle.matrix_form.specs.Outcomes.{Asked}
use Rattle.file_form.specs.declared.header.Header.{Header}
use Rattle.text_form.specs.Bytes.{tab, first_piece}
use Rattle.text_form.specs.Lines.{lines_of}
use Rattle.file_form.specs.Rows.{name_in, ask_row, row_sort}
use Rattle.file_form.proofs.Rows.Names.{name_first}
use Rattle.file_lines.specs.Steps.{names_passed}
use Rattle.file_header.specs.Steps.{at_line}
use Rattle.file_questions.proofs.LinesWalk.{LinesLeft, lines_before, lines-start, before_more, line_passed}

-- the names of the rows passed
abbrev Names : Type 0
Names = Filled (Bor (List ℕ)) 64

-- what the walk knows when it has passed `done` rows and keeps the rest: the lines that are left decide, and the names are those of the
-- rows passed
pub record RowsLeft (rows : List ℕ) (header : Header) (first : ℕ) (names : Names) (rest : List ℕ) (done : ℕ) : Type 0 where
  pub sized : length names.items ≡ 64
  pub counted : names.count ≡ done
  pub named : names_passed (take done names.items) ≡ map name_in (lines_before rows done)
  pub lines : LinesLeft (row_sort header) rows header.n first rest done

-- at the start
pub rows-start : (rows : List ℕ) (header : Header) (first : ℕ) (none : Bor (List ℕ)) (names : Names) → NoneFilled none names
    → RowsLeft rows header first names rows 0
rows-start rows header first none names e =
    record {
      sized = ap length e.items ∙ length-replicate 64 none;
      counted = e.count;
      named = refl;
      lines = lines-start (row_sort header) rows header.n first;
    }

-- one name more
name_more : (names : List (Bor (List ℕ))) (done : ℕ) (name : Bor (List ℕ)) → done < length names
    → names_passed (take (done + 1) (set names done name)) ≡ name.now ∷ names_passed (take done names)
name_more names done name h =
    ap names_passed (take-set_at names done (done + 1) name refl h)
    ∙ ap reverse (map-append (λ x. x.now) (take done names) (name ∷ []))
    ∙ reverse-append (map (λ x. x.now) (take done names)) (name.now ∷ [])

-- one row of the walk
module _ (rows : List ℕ) (header : Header) (first : ℕ) (names : Names) (rest : List ℕ) (done : ℕ)
    (left : RowsLeft rows header first names rest done) (h : done < header.n) where
  -- its question was put of the names as they are lent
  pub row_asked : (line : List ℕ) (answer : Asked) (lent : List (Bor (List ℕ))) → lent ≡ take names.count names.items
      → answer ≡ ask_row header (names_passed lent) line → answer ≡ (row_sort header).asks (lines_before rows done) line
  row_asked line answer lent e q =
      q
      ∙ ap (λ earlier. ask_row header earlier line) (ap names_passed (e ∙ ap (λ k. take k names.items) left.counted) ∙ left.named)

  -- it passes: the walk goes on behind it, with its name
  pub row_passed : (line behind : List ℕ) (l : lines_of rest ≡ line ∷ lines_of behind) (answer : Asked)
      → answer ≡ (row_sort header).asks (lines_before rows done) line → {yes : Unit {0}} → at_line (first + done) answer ≡ Ok yes
      → header.n ≤ 64 → (name : Bor (List ℕ)) → name.now ≡ first_piece tab line → (new : Names) → Pushed names name new
      → RowsLeft rows header first new behind (done + 1)
  row_passed line behind l answer q {yes} e most name n new p =
      let more : new.items ≡ set names.items done name = p.items ∙ ap (λ k. set names.items k name) left.counted in
      let room : done < length names.items = let full = left.sized in omega arith in
      record {
        sized = ap length more ∙ length-set names.items done name ∙ left.sized;
        counted = let here = left.counted in omega (arith, p.count);
        named =
            ap (λ items. names_passed (take (done + 1) items)) more
            ∙ name_more names.items done name room
            ∙ ap (λ x. x ∷ names_passed (take done names.items)) (n ∙ sym (name_first line))
            ∙ ap (◌∷◌ (name_in line)) left.named
            ∙ sym (ap (map name_in) (before_more (row_sort header) rows header.n first rest done left.lines h line behind l));
        lines = line_passed (row_sort header) rows header.n first rest done left.lines h line behind l answer q {yes = yes} e;
      }
