-- Assignments of states to the HTUs of a branching (document 01, "The three rivals"): what they are, their totals, and least length.
-- `rows` holds the taxa's states, row by row; `states v j` is the state of node v in character j;
-- `step j a b` is what a change between states a and b costs in character j.
use Rattle.std.specs.Prelude.{◌≡◌, ℕ, ◌-◌, ◌≤◌, List, [], ℤ, pos, slice_index_or}
use Rattle.lists.specs.Numbers.{numbers}
use Rattle.tree_form.specs.Ancestors.{ancestor}
use Rattle.tree_form.specs.Nodes.{other_nodes}
use Rattle.lists.specs.Sums.{sum_over}
use Rattle.matrix_form.specs.Spans.{only}
use Rattle.fit_form.specs.Sets.{In}
use Rattle.matrix_form.specs.declared.spans.Span.{Span}

-- a character of the matrix: the states that taxon v may have in character j
unfoldable pub character : List (List Span) → ℕ → ℕ → Span
character rows j v = slice_index_or (slice_index_or rows (v - 1) []) (j - 1) (only (pos 0))

-- an assignment gives each HTU any whole number for each character, and each taxon one of its own states
pub record IsAssignment (rows : List (List Span)) (n m : ℕ) (states : ℕ → ℕ → ℤ) : Type 0 where
  pub keeps : (v j : ℕ) → 1 ≤ v → v ≤ n → 1 ≤ j → j ≤ m → In (states v j) (character rows j v)

module _ (step : ℕ → ℤ → ℤ → ℕ) where
  -- the length of the branch from node v to its immediate ancestor: what the steps between their states cost over all m characters
  unfoldable pub branch_length : List ℕ → ℕ → (ℕ → ℕ → ℤ) → ℕ → ℕ
  branch_length tree m states v = sum_over (λ j. step j (states v j) (states (ancestor tree v) j)) (numbers 1 m)

  -- the total of an assignment: the sum of its branches' lengths
  unfoldable pub total : List ℕ → ℕ → ℕ → (ℕ → ℕ → ℤ) → ℕ
  total tree n m states = sum_over (λ v. branch_length tree m states v) (other_nodes n)

  -- an assignment is of least length if every other has at least its total
  pub record IsLeast (tree : List ℕ) (rows : List (List Span)) (n m : ℕ) (states : ℕ → ℕ → ℤ) : Type 0 where
    pub assigns : IsAssignment rows n m states
    pub least : (others : ℕ → ℕ → ℤ) → IsAssignment rows n m others → total tree n m states ≤ total tree n m others

  -- node v has state s in character j in some assignment of least length
  pub record Occurs (tree : List ℕ) (rows : List (List Span)) (n m v j : ℕ) (s : ℤ) : Type 0 where
    pub states : ℕ → ℕ → ℤ
    pub is_least : IsLeast tree rows n m states
    pub here : states v j ≡ s
