-- The Prim Network computed: document 01's example, without weights and with them, one and two taxa, and a tie of each kind.
use mathlib.Core.Path.{◌≡◌, refl}
use mathlib.Core.List.{List, [], ◌∷◌, ◌++◌}
use Prim.Native.Nat.{ℕ, ◌-◌}
use lib.IntN.{ℤ, pos, negsuc}
use lib.ListN.{length, replicate}
use Rattle.matrix_form.specs.Shape.{row, columns}
use Rattle.matrix_form.proofs.Sample.{rows_abcd}
use Rattle.difference_form.specs.Rows.{node_difference, difference}
use Rattle.difference_form.specs.Rows
use Rattle.lists.specs.Filters
use Rattle.lists.specs.Least
use Rattle.lists.specs.Numbers
use Rattle.lists.specs.Tests
use Rattle.lists.specs.Sums
use Rattle.matrix_form.specs.Shape
use Rattle.prim_form.specs.Network.{Link, network, network_length}
use Rattle.prim_form.specs.Network

-- a lent matrix's codes, from its rows
abbrev lent : List (List ℤ) → List ℤ
lent [] = []
lent (r ∷ rs) = r ++ replicate (128 - length r) (pos 0) ++ lent rs

-- the Prim Network of n rows of m codes, by weights
abbrev by : List ℕ → ℕ → ℕ → List (List ℤ) → List Link
by weights n m rows = network (node_difference (difference weights) (row (lent rows) m)) n

-- and with every weight 1
abbrev of : ℕ → ℕ → List (List ℤ) → List Link
of n m rows = by (replicate columns 1) n m rows

-- taxon v joins taxon x at a difference
abbrev joins : ℕ → ℕ → ℕ → Link
joins v x l = record { taxon = v; joined = x; length = l }

-- rows of one code
abbrev ones : List (List ℤ)
ones = (pos 0 ∷ []) ∷ (pos 1 ∷ []) ∷ (negsuc 0 ∷ []) ∷ []

-- rows of two codes
abbrev twos : List (List ℤ)
twos = (pos 0 ∷ pos 0 ∷ []) ∷ (pos 4 ∷ pos 0 ∷ []) ∷ (pos 2 ∷ pos 0 ∷ []) ∷ (pos 3 ∷ pos 5 ∷ []) ∷ []

-- networks with a tie of each kind
pub record Examples : Type 0 where
  -- document 01: B joins A at 3, C joins B at 3, D joins A at 4; the total is 10
  pub document : of 4 3 rows_abcd ≡ joins 2 1 3 ∷ joins 3 2 3 ∷ joins 4 1 4 ∷ []
  pub sum : network_length (of 4 3 rows_abcd) ≡ 10
  -- with weights 1, 3 and 2: B joins A at 5, D joins B at 7, C joins B at 8; the total is 20
  pub weighted : by (1 ∷ 3 ∷ 2 ∷ []) 4 3 rows_abcd ≡ joins 2 1 5 ∷ joins 4 2 7 ∷ joins 3 2 8 ∷ []
  pub heavier : network_length (by (1 ∷ 3 ∷ 2 ∷ []) 4 3 rows_abcd) ≡ 20
  -- one taxon has no link, two have one
  pub one : of 1 3 rows_abcd ≡ []
  pub two : of 2 3 rows_abcd ≡ joins 2 1 3 ∷ []
  -- rows 2 and 3 are equally near to row 1: row 2 is placed first
  pub lowest : of 3 1 ones ≡ joins 2 1 1 ∷ joins 3 1 1 ∷ []
  -- row 4 is equally near to rows 2 and 3: it joins row 3, which was placed before row 2
  pub earliest : of 4 2 twos ≡ joins 3 1 2 ∷ joins 2 3 2 ∷ joins 4 3 6 ∷ []

-- they are as said
pub examples : Examples
unfolding Network.network Network.grow Network.next Network.link Network.distance Network.nearest_placed Network.unplaced
    Filters.without Filters.keep Tests.among Network.taxa Network.network_length Rows.node_difference Sums.sum_over
    Least.first_least Numbers.numbers Shape.row Shape.weight_at Rows.difference Rows.part Rows.apart
examples = record { document = refl; sum = refl; weighted = refl; heavier = refl; one = refl; two = refl; lowest = refl; earliest = refl }
