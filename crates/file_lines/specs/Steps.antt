-- What the questions put to a line are handed of the lines before it.
use mathlib.Core.List.{List, map, reverse}
use denote.Ref.{Bor}
use Rattle.std.specs.Prelude.{ℕ}

-- the names of earlier rows, the last one first
abbrev pub names_passed : List (Bor (List ℕ)) → List (List ℕ)
names_passed names = reverse (map (λ name. name.now) names)
