-- Kinds of characters. A kind says what a change costs, what a set of states is, and how sets are joined on the way through a tree.
-- What it has to satisfy is stated in `proofs/Sets/Laws.antt` `Laws`; the words below hold of a kind that does.
use Rattle.std.specs.Prelude.{ℕ, ℤ}

-- a kind of character, over states that are whole numbers
pub record Kind : Type 1 where
  -- the sets of states that it works with, and which of them can be the set of a node
  pub Set : Type 0
  pub Proper : Set → Type 0
  -- a state is a member of a set
  pub In : ℤ → Set → Type 0
  -- what a change between two states costs
  pub step : ℤ → ℤ → ℕ
  -- the member of a set nearest to a state
  pub nearest : ℤ → Set → ℤ
  -- the set of a node from those of its two descendants, and how far these lie from each other, which is what the join costs
  pub join : Set → Set → Set
  pub gap : Set → Set → ℕ
  -- the states that a node between three sets may have: those whose distances from the three add up to the least
  pub middle : Set → Set → Set → Set
  -- the lowest member of a set
  pub lowest : Set → ℤ

-- how far a state lies from a set: the cost of a change to the nearest member
unfoldable pub offset : (K : Kind) → ℤ → K.Set → ℕ
offset K s a = K.step s (K.nearest s a)

-- the members of a set that are nearest to another set: the states that a node between the set, twice, and the other may have
abbrev pub among : (K : Kind) → K.Set → K.Set → K.Set
among K a b = K.middle a a b
