-- Unordered characters (document 02, M-108; Fitch 1971): any change costs one step, and a set of states is kept as 32 marks, one a state.
-- A set is a number below 2 ^ 32 whose bit s stands for state s.
use Rattle.std.specs.Prelude.{◌≡◌, cond, List, ℕ, ◌/◌, ◌%◌, ◌^◌, ◌≤◌, ◌<◌, min, eqb, ℤ, pos, negsuc, nat_abs}
use Rattle.std.specs.Int.Bits.{bit_and, bit_or}
use Rattle.std.specs.Int.Count.{count_trailing_zeros}
use Rattle.std.specs.Ordering.{int_eq}
use Rattle.std.specs.Set.{distinct_count}
use Rattle.difference_form.specs.Rows.{apart}
use Rattle.clades.specs.Kinds.{Kind}

-- the mark of a state in a set: 1 if it is set, else 0; a negative number has no mark
unfoldable pub mark : ℤ → ℕ → ℕ
mark (pos s) marks = marks / 2 ^ s % 2
mark (negsuc s) marks = 0

-- 32 marks of which at least one is set
pub record ProperMarks (marks : ℕ) : Type 0 where
  pub some : 1 ≤ marks
  pub fits : marks < 2 ^ 32

-- any change costs one step
unfoldable pub change : ℤ → ℤ → ℕ
change a b = min (apart a b) 1

-- how many different states stand in a list
unfoldable pub distinct : List ℤ → ℕ
distinct states = distinct_count int_eq states

-- the set of one state alone
unfoldable pub only_mark : ℤ → ℕ
only_mark state = 2 ^ nat_abs state

-- the lowest state of a set
unfoldable pub lowest_state : ℕ → ℤ
lowest_state marks = pos (count_trailing_zeros 32 marks)

-- the state above if it is in the set, else the lowest state of the set
unfoldable pub nearest_state : ℤ → ℕ → ℤ
nearest_state state marks = cond (eqb (mark state marks) 1) state (lowest_state marks)

-- a set, or another one if it is empty
unfoldable pub or_else : ℕ → ℕ → ℕ
or_else first otherwise = cond (eqb first 0) otherwise first

-- two sets join to their intersection, or, if that is empty, to their union
unfoldable pub join_marks : ℕ → ℕ → ℕ
join_marks a b = or_else (bit_and a b) (bit_or a b)

-- the join takes one step if the intersection is empty, else none
unfoldable pub gap_marks : ℕ → ℕ → ℕ
gap_marks a b = cond (eqb (bit_and a b) 0) 1 0

-- the states that are in all three sets, or else those that are in two, or else those that are in one
unfoldable pub middle_marks : ℕ → ℕ → ℕ → ℕ
middle_marks a b c =
    or_else (bit_and (bit_and a b) c)
    (or_else (bit_or (bit_or (bit_and a b) (bit_and a c)) (bit_and b c)) (bit_or (bit_or a b) c))

-- the kind of unordered characters
abbrev pub unordered : Kind
unordered = record {
  Set = ℕ;
  Proper = ProperMarks;
  In = λ state marks. mark state marks ≡ 1;
  step = change;
  nearest = nearest_state;
  join = join_marks;
  gap = gap_marks;
  middle = middle_marks;
  lowest = lowest_state;
}
