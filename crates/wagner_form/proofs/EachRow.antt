-- What is true of every row that a build starts from is true of every row that it makes, where medians keep it.
use mathlib.Core.Path.{◌≡◌, refl}
use mathlib.Core.Logic.{by_cases}
use mathlib.Core.Bool.{Bool, true}
use mathlib.Core.List.{List, [], ◌++◌, append-nil}
use Prim.Native.Nat.{ℕ, zero, suc, ◌-◌}
use native.Mathlib.Omega.{arith}
use native.Mathlib.Decide.{dec_le}
use lib.IntN.{ℤ}
use lib.ListN.{length, get_or-eq_default}
use Rattle.lists.specs.Tests.{every}
use Rattle.lists.proofs.Every.{every_at, every-cons, every_append}
use Rattle.matrix_form.specs.NodeRows.{row_of}
use Rattle.difference_form.specs.Rows.{medians}
use Rattle.tree_form.specs.Ancestors.{ancestor}
use Rattle.tree_form.specs.Placing.{median_row, nearest_interval, link_first, hang, place_on, place}
use Rattle.wagner_form.specs.Build.{build_on}

-- a test that the row of no codes passes
module _ (test : List ℤ → Bool) (empty : test [] ≡ true) where
  -- if every row passes it, that of every node does, also that of a node beyond them, which has none
  pub row_passes : (rows : List (List ℤ)) → every test rows ≡ true → (v : ℕ) → test (row_of rows v) ≡ true
  unfolding row_of
  row_passes rows all v =
      by_cases
      (dec_le (length rows) (v - 1))
      (λ past. rw (get_or-eq_default rows [] past) empty)
      (λ inside. every_at test rows all (v - 1) [] (omega arith))

  module _ (kept : (xs ys zs : List ℤ) → test xs ≡ true → test ys ≡ true → test zs ≡ true → test (medians xs ys zs) ≡ true)
      (d : List ℤ → List ℤ → ℕ) (n : ℕ) where
    -- after a placement every row passes
    pub placed_passes : (tree : List ℕ) (rows : List (List ℤ)) (b c : ℕ) → every test rows ≡ true
        → every test (rows ++ (place_on d (row_of rows) n tree b c).made) ≡ true
    unfolding place_on link_first hang median_row every
    placed_passes tree rows b zero all = rw (append-nil rows) all
    placed_passes tree rows b (suc c) all =
        every_append test rows _ all
        (every-cons test (median_row (row_of rows) b (suc c) (ancestor tree (suc c))) []
        (kept _ _ _ (row_passes rows all b) (row_passes rows all (suc c)) (row_passes rows all (ancestor tree (suc c)))) refl)

    -- and after a build
    pub rows_pass : (next : ℕ → List ℕ → List (List ℤ) → ℕ) (count : ℕ) (tree : List ℕ) (rows : List (List ℤ))
        → every test rows ≡ true → every test (build_on d next n count tree rows).rows ≡ true
    unfolding build_on place
    rows_pass next zero tree rows all = all
    rows_pass next (suc count) tree rows all =
        rows_pass next count (place d (row_of rows) n tree (next n tree rows)).tree (rows ++ (place d (row_of rows) n tree (next n tree rows)).made)
        (placed_passes tree rows (next n tree rows) (nearest_interval d (row_of rows) n tree (next n tree rows)) all)
