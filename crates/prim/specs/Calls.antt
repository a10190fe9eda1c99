-- What the call for the Prim Network of a lent matrix answers.
use Rattle.std.specs.Prelude.{◌≡◌, false, List, [], ℕ, length, Result}
use Rattle.matrix_form.specs.Shape.{row, MatrixLists}
use Rattle.difference_form.specs.Rows.{node_difference, difference}
use Rattle.lists.specs.Filled.{filled}
use Rattle.matrix_form.specs.Outcomes.{Answers}
use Rattle.matrix_form.specs.Questions.{LentMatrix, LentWeights, ask_matrix, matrix_shaped}
use Rattle.matrix_form.specs.declared.refusal.Refusal.{Refusal}
use Rattle.prim_form.specs.Network.{Link, network_length, network}
use Rattle.prim.specs.declared.answer.Network.{Network}

-- a link of zeros
abbrev pub no_link : Link
no_link = record { taxon = 0; joined = 0; length = 0 }

-- a network has at most 63 links
abbrev pub most_links : ℕ
most_links = 63

-- a network handed back holds these links: they stand first, in their order, links of zeros fill the 63 places, and their number and
-- their total are given
pub record Holds (links : List Link) (r : Network) : Type 0 where
  pub list : r.links.items ≡ filled most_links no_link links
  pub count : r.links.count ≡ length links
  pub total : r.total ≡ network_length links

-- r is the Prim Network of a lent matrix of n taxa and m characters, by the difference with its weights; where the matrix has not its shape
-- it has no links
pub record NetworkOf (lists : MatrixLists) (n m : ℕ) (r : Network) : Type 0 where
  pub is : LentMatrix lists.codes n m → LentWeights lists.weights m
      → Holds (network (node_difference (difference lists.weights) (row lists.codes m)) n) r
  pub unshaped : matrix_shaped (length lists.codes) n m ≡ false → Holds [] r

-- the answer for a lent matrix of n taxa and m characters with its weights: its questions, and the Prim Network by the weighted difference
abbrev pub NetworkAnswer : MatrixLists → ℕ → ℕ → Result Network Refusal → Type 0
NetworkAnswer lists n m r =
    Answers (ask_matrix lists n m)
    (Holds (network (node_difference (difference lists.weights) (row lists.codes m)) n))
    r
