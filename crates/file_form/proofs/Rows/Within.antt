-- Rows within the limits, one after another: the first of them and those behind it.
use mathlib.Core.Path.{◌≡◌, refl, sym, ◌∙◌}
use mathlib.Core.List.{List, [], ◌∷◌}
use mathlib.Core.Bool.{true}
use Prim.Native.Nat.{ℕ, ◌≤◌}
use native.Mathlib.Omega.{arith}
use lib.IntN.{ℤ}
use lib.ListN.{length}
use Rattle.matrix_form.specs.Questions.{all_in_range, within_limits}
use Rattle.matrix_form.specs.Shape.{most_taxa, most_characters}
use Rattle.lists.specs.Tests.{every}
use Rattle.file_form.specs.Job.{Job, name_form, differs_from_all, all_differ, has_codes, JobFormed, JobWithinLimits}
use Rattle.matrix_form.proofs.Passing.{limits_passed}
use Rattle.lists.proofs.Both.{and_left, and_right, and_both}
use Rattle.lists.proofs.Every.{every-head, every-tail, every-cons}
use Rattle.file_form.proofs.Rows.Names.{apart_from, apart_more, apart_fewer, apart_none}

-- names that are well formed and differ from each other and from every earlier name, with a row of m codes for each
pub record RowsWithin (m : ℕ) (earlier names : List (List ℕ)) (rows : List (List ℤ)) : Type 0 where
  pub count : length rows ≡ length names
  pub formed : every name_form names ≡ true
  pub apart : apart_from earlier names ≡ true
  pub differ : all_differ names ≡ true
  pub full : every (has_codes m) rows ≡ true
  pub near : every all_in_range rows ≡ true

-- one row: its name is well formed and differs from every earlier one, and it has m codes from -999 to 999
pub record RowWithin (m : ℕ) (earlier : List (List ℕ)) (name : List ℕ) (codes : List ℤ) : Type 0 where
  pub formed : name_form name ≡ true
  pub apart : differs_from_all name earlier ≡ true
  pub full : has_codes m codes ≡ true
  pub near : all_in_range codes ≡ true

-- no rows
pub rows_none : (m : ℕ) (earlier : List (List ℕ)) → RowsWithin m earlier [] []
unfolding every all_differ
rows_none m earlier = record { count = refl; formed = refl; apart = refl; differ = refl; full = refl; near = refl }

module _ {m : ℕ} {earlier : List (List ℕ)} {name : List ℕ} {names : List (List ℕ)} {codes : List ℤ} {rows : List (List ℤ)} where
  -- the first row is within the limits
  pub rows-first : RowsWithin m earlier (name ∷ names) (codes ∷ rows) → RowWithin m earlier name codes
  rows-first within =
      record {
        formed = every-head name_form name names within.formed;
        apart = every-head (λ other. differs_from_all other earlier) name names within.apart;
        full = every-head (has_codes m) codes rows within.full;
        near = every-head all_in_range codes rows within.near;
      }

  -- so are the others, behind its name
  pub rows-others : RowsWithin m earlier (name ∷ names) (codes ∷ rows) → RowsWithin m (name ∷ earlier) names rows
  unfolding all_differ
  rows-others within =
      record {
        count = let count = within.count in omega arith;
        formed = every-tail name_form name names within.formed;
        apart =
            apart_more name earlier names (and_left (differs_from_all name names) (all_differ names) within.differ)
            (every-tail (λ other. differs_from_all other earlier) name names within.apart);
        differ = and_right (differs_from_all name names) (all_differ names) within.differ;
        full = every-tail (has_codes m) codes rows within.full;
        near = every-tail all_in_range codes rows within.near;
      }

  -- a row, and others behind its name
  pub rows_more : RowWithin m earlier name codes → RowsWithin m (name ∷ earlier) names rows
      → RowsWithin m earlier (name ∷ names) (codes ∷ rows)
  unfolding all_differ
  rows_more first others =
      let differs = apart_fewer name earlier names others.apart in
      record {
        count = let count = others.count in omega arith;
        formed = every-cons name_form name names first.formed others.formed;
        apart = every-cons (λ other. differs_from_all other earlier) name names first.apart differs.1;
        differ = and_both differs.0 others.differ;
        full = every-cons (has_codes m) codes rows first.full others.full;
        near = every-cons all_in_range codes rows first.near others.near;
      }

-- the rows of a job that is formed, with no name before them
pub formed_rows : (job : Job) → JobFormed job → RowsWithin job.m [] job.names job.rows
formed_rows job formed =
    record {
      count = formed.row_count ∙ sym formed.name_count;
      formed = formed.names_formed;
      apart = apart_none job.names;
      differ = formed.names_differ;
      full = formed.rows_full;
      near = formed.codes_in_range;
    }

-- so are those of a job within the limits
pub job_rows : (job : Job) → JobWithinLimits job → RowsWithin job.m [] job.names job.rows
job_rows job within = formed_rows job within.formed

-- n is at most 64, and m at most 128
pub limits-high : (n m : ℕ) → within_limits n m ≡ true → (n ≤ most_taxa) × (m ≤ most_characters)
limits-high n m e = let told = limits_passed n m e in (told.1, told.3)
