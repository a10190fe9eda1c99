-- Sets of states (document 01, "Fitting the inner states"; Swofford and Maddison 1987): closed intervals of whole numbers.
use Rattle.std.specs.Prelude.{ℕ, cond, List, [], ◌∷◌, ℤ, pos, ◌≤ℤ◌, int_le, slice_index_or}
use Rattle.difference_form.specs.Rows.{apart, lower, higher}
use Rattle.clades.specs.Kinds.{Kind}
use Rattle.matrix_form.specs.declared.spans.Span.{Span}

-- a set has at least one member
pub record Nonempty (a : Span) : Type 0 where
  pub ordered : a.low ≤ℤ a.high

-- a state is a member of a set
pub record In (state : ℤ) (a : Span) : Type 0 where
  pub from_low : a.low ≤ℤ state
  pub to_high : state ≤ℤ a.high

-- two sets join to their intersection, or, if that is empty, to the smallest interval that touches both
unfoldable pub join : Span → Span → Span
join a b =
    let start = higher a.low b.low in
    let end = lower a.high b.high in
    record { low = lower start end; high = higher start end }

-- how far two sets lie from each other; 0 if they meet
unfoldable pub gap : Span → Span → ℕ
gap a b = apart (higher a.low b.low) (lower (higher a.low b.low) (lower a.high b.high))

-- the member of a set nearest to a state
unfoldable pub nearest_member : ℤ → Span → ℤ
nearest_member state a = higher a.low (lower state a.high)

-- a state written into a list in rising order, at its place
unfoldable pub insert : ℤ → List ℤ → List ℤ
insert state [] = state ∷ []
insert state (s ∷ rest) =
    let later = insert state rest in
    cond (int_le state s) (state ∷ s ∷ rest) (s ∷ later)

-- the same states in rising order
unfoldable pub in_order : List ℤ → List ℤ
in_order [] = []
in_order (state ∷ states) = insert state (in_order states)

-- the six ends of three sets
abbrev pub six_ends : Span → Span → Span → List ℤ
six_ends a b c = a.low ∷ a.high ∷ b.low ∷ b.high ∷ c.low ∷ c.high ∷ []

-- the third to the fourth of the six ends of three sets, in order
unfoldable pub middle : Span → Span → Span → Span
middle a b c =
    let sorted = in_order (six_ends a b c) in
    record { low = slice_index_or sorted 2 (pos 0); high = slice_index_or sorted 3 (pos 0) }

-- ordered characters: a change costs the absolute difference of the states, and sets are closed intervals
abbrev pub ordered : Kind
ordered = record {
  Set = Span;
  Proper = Nonempty;
  In = In;
  step = apart;
  nearest = nearest_member;
  join = join;
  gap = gap;
  middle = middle;
  lowest = λ a. a.low;
}
