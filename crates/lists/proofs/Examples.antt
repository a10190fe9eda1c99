-- The definitions of this crate, computed: a slip in one of them gives another list or another number.
use mathlib.Core.Path.{◌≡◌, refl}
use mathlib.Core.List.{[], ◌∷◌, flat_map}
use Prim.Native.Nat.{ℕ, ◌*◌}
use lib.Dec.{leb}
use Rattle.lists.specs.Filled.{filled}
use Rattle.lists.specs.Filters.{keep, without}
use Rattle.lists.specs.Least.{first_least}
use Rattle.lists.specs.Numbers.{numbers}
use Rattle.lists.specs.Over.{over, stripes}
use Rattle.lists.specs.Pairs.{pairs}
use Rattle.lists.specs.Sums.{sum_over}
use Rattle.lists.specs.Tests.{among}

-- of three items with equal keys the first is chosen
first_of_equals : first_least (λ (item : ℕ). 7) 1 (2 ∷ 3 ∷ []) ≡ 1
unfolding first_least
first_of_equals = refl

-- four numbers rise from 3
four_numbers : numbers 3 4 ≡ 3 ∷ 4 ∷ 5 ∷ 6 ∷ []
unfolding numbers
four_numbers = refl

-- the sum of the squares of 1 to 3 is 14
squares_summed : sum_over (λ (v : ℕ). v * v) (1 ∷ 2 ∷ 3 ∷ []) ≡ 14
unfolding sum_over
squares_summed = refl

-- the numbers from 3 on are kept in their order; without 1 and 4 stay 3 and 2
kept : (keep (leb 3) (1 ∷ 4 ∷ 2 ∷ 3 ∷ []) ≡ 4 ∷ 3 ∷ []) × (without (1 ∷ 4 ∷ []) (1 ∷ 4 ∷ 3 ∷ 2 ∷ []) ≡ 3 ∷ 2 ∷ [])
unfolding keep without among
kept = (refl, refl)

-- two numbers are written over the third and the fourth of five; of three they are written over the last
written_over : (over {A = ℕ} 2 (7 ∷ 8 ∷ []) (1 ∷ 2 ∷ 3 ∷ 4 ∷ 5 ∷ []) ≡ 1 ∷ 2 ∷ 7 ∷ 8 ∷ 5 ∷ [])
    × (over {A = ℕ} 2 (7 ∷ 8 ∷ []) (1 ∷ 2 ∷ 3 ∷ []) ≡ 1 ∷ 2 ∷ 7 ∷ [])
unfolding over
written_over = (refl, refl)

-- two items of two numbers are written three places apart
written_apart : stripes {A = ℕ} 3 1 ((6 ∷ 7 ∷ []) ∷ (8 ∷ 9 ∷ []) ∷ []) (0 ∷ 1 ∷ 2 ∷ 3 ∷ 4 ∷ 5 ∷ 0 ∷ []) ≡ 0 ∷ 6 ∷ 7 ∷ 3 ∷ 8 ∷ 9 ∷ 0 ∷ []
unfolding stripes over
written_apart = refl

-- behind two elements an array of four is filled up with zeros
filled_up : filled {A = ℕ} 4 0 (1 ∷ 2 ∷ []) ≡ 1 ∷ 2 ∷ 0 ∷ 0 ∷ []
unfolding filled
filled_up = refl

-- pairs stand by the order of the first list, then of the second
four_pairs : pairs {A = ℕ} {B = ℕ} (1 ∷ 2 ∷ []) (3 ∷ 4 ∷ []) ≡ (1, 3) ∷ (1, 4) ∷ (2, 3) ∷ (2, 4) ∷ []
unfolding pairs flat_map
four_pairs = refl
