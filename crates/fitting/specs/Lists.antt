-- What the layers `fit_tree` and `states_at` promise at every input; and for the private functions alone, the lent lists and the branches
-- while a matrix is fitted character after character.
use Rattle.std.specs.Prelude.{◌≡◌, ℕ, ◌+◌, ◌-◌, ◌*◌, ◌^◌, ◌<◌, ◌≤◌, Bool, true, false, ◌&&◌, ◌||◌, List, [], ◌∷◌, map, replicate, ℤ, pos, nat_lt, length}
use Rattle.lists.specs.Over.{stripes}
use Rattle.lists.specs.Sums.{sum_over}
use Rattle.matrix_form.specs.Shape.{columns, matrix_size, row_start, last_node, MatrixLists}
use Rattle.matrix_form.specs.NodeRows.{HtusWritten}
use Rattle.matrix_form.specs.Spans.{spans_of}
use Rattle.matrix_form.specs.Questions.{LentMatrix, LentWeights, matrix_shaped, one_to}
use Rattle.difference_form.specs.Rows.{apart, part, weighing}
use Rattle.tree_form.specs.Ancestors.{tree_size, ancestor}
use Rattle.tree_form.specs.Nodes.{other_nodes, htus}
use Rattle.tree_form.specs.Within.{branching_within}
use Rattle.fit_form.specs.Fit.{fitted_length, marked, states_in}
use Rattle.fit_passes.specs.Steps.{states_at}
use Rattle.fit_form.specs.Calls.{Which, Low, High, Chosen, state_in, no_branch, branch_at, states_written, lists_full, FitOf}
use Rattle.fit_form.specs.declared.characters.States.{States}
use Rattle.fit_form.specs.declared.whole.BranchFit.{BranchFit}
use Rattle.fit_form.specs.declared.whole.Fit.{Fit}
use Rattle.matrix_form.specs.declared.spans.Span.{Span}

-- what a function says of its answers is that they are one of the states of a node
abbrev pub Picks : (States → ℤ → Type 0) → Which → Type 0
Picks says which = (states : States) (r : ℤ) → says states r → r ≡ state_in which states

-- a list of the matrix's shape with a number for each HTU of n taxa written into column j of its row
unfoldable pub with_column : ℕ → ℕ → (ℕ → ℤ) → List ℤ → List ℤ
with_column n j f old = stripes columns (row_start (n + 1) + (j - 1)) (map (λ v. f v ∷ []) (htus n)) old

-- the branch of node v in the fit of k characters
abbrev pub fitted_branch : List ℕ → List ℕ → List (List Span) → ℕ → ℕ → ℕ → BranchFit
fitted_branch weights tree rows n k v =
    record { length = fitted_length (weighing weights).step tree rows n k v; mark = marked (weighing weights).step tree rows n k v }

-- a character marks the branch of a node, by its states and those of its immediate ancestor
abbrev pub marks_in : States → States → Bool
marks_in own above = nat_lt 0 (apart own.chosen above.chosen)

-- r is a branch with one character more, of this weight
pub record Longer (weight : ℕ) (own above : States) (branch r : BranchFit) : Type 0 where
  pub length : branch.length + part weight own.chosen above.chosen < 2 ^ 64 → r.length ≡ branch.length + part weight own.chosen above.chosen
  pub mark : r.mark ≡ (branch.mark || marks_in own above)

-- the branches with one character more, of this weight
pub record Lengthened (weight n : ℕ) (tree : List ℕ) (states : List States) (branches r : List BranchFit) : Type 0 where
  pub added : (v : ℕ) → 2 ≤ v → v ≤ 2 * n - 2 → ancestor tree v ≤ 126
      → Longer weight (states_at states v) (states_at states (ancestor tree v)) (branch_at branches v) (branch_at r v)
  pub kept : (v : ℕ) → (2 ≤ v → v ≤ 2 * n - 2 → ⊥) → branch_at r v ≡ branch_at branches v

-- r is the sum of the branches' lengths, if it fits 64 bits
pub record SumOf (n : ℕ) (branches : List BranchFit) (r : ℕ) : Type 0 where
  pub is : sum_over (λ v. (branch_at branches v).length) (other_nodes n) < 2 ^ 64
      → r ≡ sum_over (λ v. (branch_at branches v).length) (other_nodes n)

-- of three lists of the matrix's shape at most the states of the HTUs in m characters are written over
abbrev pub OnlyHtus : ℕ → ℕ → List ℤ → List ℤ → List ℤ → List ℤ → List ℤ → List ℤ → Type 0
OnlyHtus n m low low' high high' chosen chosen' = HtusWritten n m low low' × HtusWritten n m high high' × HtusWritten n m chosen chosen'

-- the first k of m characters fitted: the states of the HTUs in them are written, and the branches are those of the fit of them; elsewhere
-- stands no branch
pub record Written (lists : MatrixLists) (n m k : ℕ) (tree : List ℕ)
    (low low' high high' chosen chosen' : List ℤ) (branches : List BranchFit) : Type 0 where
  pub is_low : branching_within n tree ≡ true → LentMatrix lists.codes n m → low'
      ≡ states_written Low tree (spans_of lists m n) n k low
  pub is_high : branching_within n tree ≡ true → LentMatrix lists.codes n m → high'
      ≡ states_written High tree (spans_of lists m n) n k high
  pub is_chosen : branching_within n tree ≡ true → LentMatrix lists.codes n m → chosen'
      ≡ states_written Chosen tree (spans_of lists m n) n k chosen
  pub are : branching_within n tree ≡ true → LentMatrix lists.codes n m → LentWeights lists.weights m → (v : ℕ) → 2 ≤ v → v ≤ 2 * n - 2
      → branch_at branches v ≡ fitted_branch lists.weights tree (spans_of lists m n) n k v
  pub no_others : (v : ℕ) → (2 ≤ v → v ≤ 2 * n - 2 → ⊥) → branch_at branches v ≡ no_branch
  pub only : OnlyHtus n m low low' high high' chosen chosen'

-- the matrix and the three lists have their shapes
unfoldable pub all_shaped : List ℤ → ℕ → ℕ → List ℤ → List ℤ → List ℤ → Bool
all_shaped codes n m low high chosen = matrix_shaped (length codes) n m && lists_full (length low) (length high) (length chosen)

-- the fit of no branch
abbrev pub no_fit : Fit
no_fit = record { branches = replicate tree_size no_branch; total = 0 }

-- a tree fitted into three lists: a branching with a lent matrix, into lists of the matrix's shape; of every tree, matrix and lists, what at
-- most is written; and that nothing is where a shape fails
pub record TreeFitted (lists : MatrixLists) (n m : ℕ) (tree : List ℕ) (low low' high high' chosen chosen' : List ℤ)
    (fit : Fit) : Type 0 where
  pub fitted : branching_within n tree ≡ true → LentMatrix lists.codes n m → LentWeights lists.weights m
      → length low ≡ matrix_size → length high ≡ matrix_size → length chosen ≡ matrix_size
      → FitOf (weighing lists.weights).step tree (spans_of lists m n) n m fit
      × (low' ≡ states_written Low tree (spans_of lists m n) n m low)
      × (high' ≡ states_written High tree (spans_of lists m n) n m high)
      × (chosen' ≡ states_written Chosen tree (spans_of lists m n) n m chosen)
  pub only : OnlyHtus n m low low' high high' chosen chosen'
  pub unshaped : all_shaped lists.codes n m low high chosen ≡ false
      → (low' ≡ low) × (high' ≡ high) × (chosen' ≡ chosen) × (fit ≡ no_fit)

-- the matrix has its shape, and node and character exist
unfoldable pub node_shaped : List ℤ → ℕ → ℕ → ℕ → ℕ → Bool
node_shaped codes n m v j = matrix_shaped (length codes) n m && (one_to m j && one_to (last_node n) v)

-- zeros in place of states
abbrev pub no_states : States
no_states = record { low = pos 0; high = pos 0; chosen = pos 0 }

-- r are the states of node v in character j of a branching with a lent matrix of n taxa and m characters; where the matrix has not its
-- shape, or node or character do not exist, they are zeros
pub record StatesOf (lists : MatrixLists) (n m : ℕ) (tree : List ℕ) (v j : ℕ) (r : States) : Type 0 where
  pub are : branching_within n tree ≡ true → LentMatrix lists.codes n m → 1 ≤ v → v ≤ last_node n → 1 ≤ j → j ≤ m
      → r ≡ states_in tree (spans_of lists m n) n v j
  pub unshaped : node_shaped lists.codes n m v j ≡ false → r ≡ no_states
