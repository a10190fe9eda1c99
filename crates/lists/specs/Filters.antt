-- Filters of lists: the elements that pass a test, and a list without those of another.
use Rattle.std.specs.Prelude.{List, [], ◌∷◌, Bool, not, cond, ℕ}
use Rattle.lists.specs.Tests.{among}

-- of a list, the elements that pass a test
unfoldable pub keep : {A : Type 0} → (A → Bool) → List A → List A
keep test [] = []
keep test (x ∷ xs) =
    let rest = keep test xs in
    cond (test x) (x ∷ rest) rest

-- a list of numbers, without those of another list
unfoldable pub without : List ℕ → List ℕ → List ℕ
without others list = keep (λ v. not (among v others)) list
