-- A branching as a list of numbers, three for each branch record: the form in which it is lent, and in which the branching of a file is
-- handed back.
use mathlib.Core.List.{List, [], ◌∷◌, map, zip_with}
use Rattle.std.specs.Prelude.{ℕ, ◌+◌, ◌*◌, length, get_or}
use Rattle.lists.specs.Numbers.{numbers}
use Rattle.lists.specs.Over.{stripes}
use Rattle.tree_form.specs.declared.branch.Branch.{Branch}
use Rattle.tree_form.specs.Asking.{branches_size}

-- a branch record is three numbers: a node, its immediate ancestor, and a length
abbrev pub record_size : ℕ
record_size = 3

-- 125 records are lent
abbrev pub lent_numbers : ℕ
lent_numbers = 375

-- the record at an index, the first at index 0; its length is not read
unfoldable pub record_at : List ℕ → ℕ → Branch
record_at lent index = record {
  node = get_or lent (record_size * index) 0;
  ancestor = get_or lent (record_size * index + 1) 0;
  length = 0;
}

-- all records
unfoldable pub records_in : List ℕ → List Branch
records_in lent = map (record_at lent) (numbers 0 branches_size)

-- the record of a node and its immediate ancestor, with length 0
abbrev pub record_numbers : ℕ → ℕ → List ℕ
record_numbers node ancestor = node ∷ ancestor ∷ 0 ∷ []

-- the records of nodes 2, 3, .., by their immediate ancestors
unfoldable pub records_for : List ℕ → List (List ℕ)
records_for ancestors = zip_with record_numbers (numbers 2 (length ancestors)) ancestors

-- lent numbers with these records written over their front, and all else as before
abbrev pub records_written : List ℕ → List ℕ → List ℕ
records_written ancestors old = stripes record_size 0 (records_for ancestors) old
