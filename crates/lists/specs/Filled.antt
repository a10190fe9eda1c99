-- Arrays of which the first elements count: links, placements, branch records.
use Rattle.std.specs.Prelude.{List, ◌++◌, ℕ, ◌-◌, length, replicate}

-- a list filled up to a size: behind its elements stands `none`
unfoldable pub filled : {A : Type 0} → ℕ → A → List A → List A
filled size none xs = xs ++ replicate (size - length xs) none
