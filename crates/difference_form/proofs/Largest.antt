-- The largest difference is reached: 128 characters of weight 9, -999 against 999; and so is the largest without weights.
use mathlib.Core.Path.{◌≡◌, refl}
use mathlib.Core.List.{[], ◌∷◌}
use lib.IntN.{pos, negsuc}
use lib.ListN.{replicate}
use Rattle.matrix_form.specs.Shape.{columns, heaviest, weight_at}
use Rattle.difference_form.specs.Rows.{apart, most_apart, part, most_part, difference, most_difference, unweighted, most_unweighted}

-- 128 times 9 times 1998
pub largest : difference (replicate columns heaviest) (replicate columns (negsuc 998)) (replicate columns (pos 999)) ≡ most_difference
unfolding apart part weight_at difference
largest = refl

-- 128 times 1998
pub largest_unweighted : unweighted (replicate columns (negsuc 998)) (replicate columns (pos 999)) ≡ most_unweighted
unfolding apart unweighted
largest_unweighted = refl

-- the limits as numbers
pub limits : most_apart ∷ most_part ∷ most_difference ∷ most_unweighted ∷ [] ≡ 1998 ∷ 17982 ∷ 2301696 ∷ 255744 ∷ []
limits = refl
