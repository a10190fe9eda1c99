-- Computed: the numbers of all refusals, what answers say, what lent memory then holds, sizes, and the questions put to weights.
use Rattle.std.specs.Prelude.{Ok, Err}
use mathlib.Core.Path.{◌≡◌, refl}
use mathlib.Core.Bool.{true, false}
use mathlib.Core.List.{List, [], ◌∷◌, ◌++◌, map}
use Prim.Native.Nat.{ℕ, zero, suc}
use lib.IntN.{ℤ, pos, negsuc}
use lib.ListN.{replicate, set}
use Rattle.lists.specs.Numbers.{numbers}
use Rattle.lists.specs.Tests.{every}
use Rattle.matrix_form.specs.Shape.{matrix_size, columns, row_start, row, state_at, in_range, last_node, is_weight, weight_at}
use Rattle.matrix_form.specs.Shape.{weight_of, matrix_of, with_codes}
use Rattle.matrix_form.specs.Questions.{one_to, within_limits, ask_code, ask_row_of, ask_rows_of, are_weights}
use Rattle.matrix_form.specs.Questions.{ask_matrix, nodes_exist, ask_htu, ask_nodes}
use Rattle.matrix_form.specs.Refusals.{refusal_number}
use Rattle.matrix_form.specs.Outcomes.{Asked, ask, and_then, ask_each, Outcome, value, refused, on_line, answered, asked_says, afterwards}
use Rattle.matrix_form.specs.declared.refusal.Refusal.{Refusal}
use Rattle.matrix_form.specs.declared.refusal.Refusal.TheVariants.{FileTooLong, FileEmpty, FirstLine, BeyondLimits, LineMissing}
use Rattle.matrix_form.specs.declared.refusal.Refusal.TheVariants.{NameForm, NameTaken, FieldCount, CodeForm, CodeRange, FileGoesOn}
use Rattle.matrix_form.specs.declared.refusal.Refusal.TheVariants.{ListSize, NotThere, NotBranching, UnknownOrder, WeightForm, BranchForm}

-- every refusal, in the order of the papers' numbers
abbrev all : List Refusal
all =
    FileTooLong
    ∷ FileEmpty
    ∷ FirstLine
    ∷ BeyondLimits
    ∷ LineMissing
    ∷ NameForm
    ∷ NameTaken
    ∷ FieldCount
    ∷ CodeForm
    ∷ CodeRange
    ∷ FileGoesOn
    ∷ ListSize
    ∷ NotThere
    ∷ NotBranching
    ∷ UnknownOrder
    ∷ WeightForm
    ∷ BranchForm
    ∷ []

-- numbers, first refusals, lines and lent memory
pub record Examples : Type 0 where
  -- the numbers of the refusals are 1 to 17
  pub numbers : map refusal_number all ≡ 1 ∷ 2 ∷ 3 ∷ 4 ∷ 5 ∷ 6 ∷ 7 ∷ 8 ∷ 9 ∷ 10 ∷ 11 ∷ 12 ∷ 13 ∷ 14 ∷ 15 ∷ 16 ∷ 17 ∷ []
  -- the first "no" ends the questions
  pub first : ask false ListSize (ask false CodeRange (Ok tt)) ≡ Err ListSize
  pub later : and_then (ask true ListSize (Ok tt)) (ask false CodeRange (Ok tt)) ≡ Err CodeRange
  -- a call that reads no file gives line 0, a line of a file gives its own
  pub call : ◌≡◌ {A = Outcome ℕ} (answered (Err NotThere) 7) (refused 13 0)
  pub passed : ◌≡◌ {A = Outcome ℕ} (answered (Ok tt) 7) (value 7)
  pub says : asked_says (Err CodeRange) ≡ refused 10 0
  pub line : ◌≡◌ {A = Outcome ℕ} (on_line 3 (Err NameForm) (value 7)) (refused 6 3)
  -- lent memory is as written if nothing was refused, as before if something was
  pub written : ◌≡◌ {A = ℕ} (afterwards (asked_says (Ok tt)) 5 4) 5
  pub kept : ◌≡◌ {A = ℕ} (afterwards (asked_says (Err ListSize)) 5 4) 4

-- they are as said
pub examples : Examples
examples =
    record {
      numbers = refl;
      first = refl;
      later = refl;
      call = refl;
      passed = refl;
      says = refl;
      line = refl;
      written = refl;
      kept = refl;
    }

-- a question that 0 and 1 refuse, each in its own way
abbrev by_number : ℕ → Asked
by_number zero = Err ListSize
by_number (suc zero) = Err CodeRange
by_number (suc (suc v)) = Ok tt

-- a question put to each item of a list
pub record EachExamples : Type 0 where
  -- no item refuses none, and items that pass pass together
  pub none : ask_each by_number [] ≡ Ok tt
  pub passed : ask_each by_number (2 ∷ 3 ∷ []) ≡ Ok tt
  -- the first "no" ends them, also where a later item gives another
  pub first : ask_each by_number (2 ∷ 1 ∷ 0 ∷ []) ≡ Err CodeRange
  pub last : ask_each by_number (2 ∷ 3 ∷ 0 ∷ []) ≡ Err ListSize

-- they are as said
pub each_examples : EachExamples
unfolding ask_each
each_examples = record { none = refl; passed = refl; first = refl; last = refl }

-- a matrix of zeros
abbrev zeros : List ℤ
zeros = replicate matrix_size (pos 0)

-- a matrix with a code out of range in row 1
abbrev bad_code : List ℤ
bad_code = set zeros 0 (pos 1000)

-- a matrix with a code out of range in row 2
abbrev row_2 : List ℤ
row_2 = set zeros 128 (pos 1000)

-- a matrix with a code out of range in row 4, that of the first HTU of three taxa
abbrev bad_htu : List ℤ
bad_htu = set zeros 384 (pos 1000)

-- lent weights of 1, of a number
abbrev ones : ℕ → List ℕ
ones size = replicate size 1

-- lent weights of which the first is 0
abbrev bad_weight : List ℕ
bad_weight = set (ones columns) 0 0

-- a matrix of zeros of some size, asked for two taxa and one character
abbrev sized : ℕ → Asked
sized size = ask_matrix (matrix_of (replicate size (pos 0)) (ones columns)) 2 1

-- what a matrix and its items are counted by
pub record SizeExamples : Type 0 where
  -- items are counted from 1 to the last
  pub counted : map (one_to 3) (0 ∷ 1 ∷ 3 ∷ 4 ∷ []) ≡ false ∷ true ∷ true ∷ false ∷ []
  -- 16,128 codes pass, fewer and more are 12
  pub full : sized 16128 ≡ Ok tt
  pub fewer : sized 16127 ≡ Err ListSize
  pub more : sized 16129 ≡ Err ListSize
  -- n is 1 to 64, m is 1 to 128
  pub limits : within_limits 1 1 ∷ within_limits 64 128 ∷ within_limits 65 128 ∷ within_limits 64 129 ∷ within_limits 0 1 ∷ []
      ≡ true ∷ true ∷ false ∷ false ∷ false ∷ []
  -- a code is from -999 to 999
  pub codes : map in_range (pos 999 ∷ negsuc 998 ∷ pos 1000 ∷ negsuc 999 ∷ []) ≡ true ∷ true ∷ false ∷ false ∷ []
  -- each row begins 128 entries behind the one before it
  pub begins : map row_start (1 ∷ 2 ∷ 126 ∷ []) ≡ 0 ∷ 128 ∷ 16000 ∷ []
  -- a code stands in its node's row and its character's column, and none behind the end of the list
  pub codes_at : map (state_at row_2 2) (1 ∷ 2 ∷ []) ++ map (λ (v : ℕ). state_at row_2 v 1) (1 ∷ 127 ∷ [])
      ≡ pos 1000 ∷ pos 0 ∷ pos 0 ∷ pos 0 ∷ []
  -- the last row of the taxa is asked, and no row behind it
  pub last_row : ask_matrix (matrix_of row_2 (ones columns)) 2 1 ≡ Err CodeRange
  pub behind : ask_matrix (matrix_of row_2 (ones columns)) 1 1 ≡ Ok tt

-- they are as said
pub size_examples : SizeExamples
unfolding numbers every row in_range one_to within_limits ask_each ask_code ask_row_of ask_rows_of is_weight are_weights ask_matrix
size_examples =
    record {
      counted = refl;
      full = refl;
      fewer = refl;
      more = refl;
      limits = refl;
      codes = refl;
      begins = refl;
      codes_at = refl;
      last_row = refl;
      behind = refl;
    }

-- the nodes of a matrix of three taxa
pub record NodeExamples : Type 0 where
  -- the last node is 2n-2, and node 1 for n = 1
  pub last : map last_node (1 ∷ 2 ∷ 3 ∷ 64 ∷ []) ≡ 1 ∷ 2 ∷ 4 ∷ 126 ∷ []
  -- an HTU exists, node 5 does not: 13, before the 10 of the HTU's row; an HTU that is not named is not read
  pub htu : ask_nodes (matrix_of zeros (ones columns)) 3 1 (1 ∷ 4 ∷ []) ≡ Ok tt
  pub beyond : ask_nodes (matrix_of bad_htu (ones columns)) 3 1 (4 ∷ 5 ∷ []) ≡ Err NotThere
  pub htu_row : ask_nodes (matrix_of bad_htu (ones columns)) 3 1 (1 ∷ 4 ∷ []) ≡ Err CodeRange
  pub unread : ask_nodes (matrix_of bad_htu (ones columns)) 3 1 (1 ∷ 3 ∷ []) ≡ Ok tt
  -- row 4 is that of the last of four taxa, and not asked as an HTU's; of three taxa it is the first HTU's
  pub last_taxon : ask_htu (matrix_of bad_htu (ones columns)) 4 1 4 ∷ ask_htu (matrix_of bad_htu (ones columns)) 3 1 4 ∷ []
      ≡ Ok tt ∷ Err CodeRange ∷ []

-- they are as said
pub node_examples : NodeExamples
unfolding numbers every row in_range last_node one_to within_limits ask_each ask_code ask_row_of ask_rows_of is_weight are_weights
    ask_matrix
    nodes_exist ask_htu ask_nodes
node_examples = record { last = refl; htu = refl; beyond = refl; htu_row = refl; unread = refl; last_taxon = refl }

-- weights, and their questions among those on a matrix of two taxa and one character
pub record WeightExamples : Type 0 where
  -- 1 and 9 are weights, 0 and 10 are none
  pub known : map is_weight (0 ∷ 1 ∷ 9 ∷ 10 ∷ []) ≡ false ∷ true ∷ true ∷ false ∷ []
  -- a weight past m is not asked
  pub unread : are_weights (9 ∷ 0 ∷ []) 1 ≡ true
  -- each character has its own weight, and one without has weight 1
  pub own : map (weight_of (3 ∷ 2 ∷ [])) (1 ∷ 2 ∷ 3 ∷ []) ≡ 3 ∷ 2 ∷ 1 ∷ []
  -- 128 weights pass, fewer and more are 12
  pub full : ask_matrix (matrix_of zeros (ones 128)) 2 1 ≡ Ok tt
  pub fewer : ask_matrix (matrix_of zeros (ones 127)) 2 1 ≡ Err ListSize
  pub more : ask_matrix (matrix_of zeros (ones 129)) 2 1 ≡ Err ListSize
  -- 4 comes before 16 and before 10, and 16 before 10
  pub limits_first : ask_matrix (matrix_of zeros bad_weight) 65 1 ≡ Err BeyondLimits
  pub limits_before : ask_matrix (matrix_of bad_code (ones columns)) 65 1 ≡ Err BeyondLimits
  pub weights_before : ask_matrix (matrix_of bad_code bad_weight) 2 1 ≡ Err WeightForm
  -- with other codes these are asked, and the weights as before
  pub other_codes : ask_matrix (with_codes (matrix_of bad_code (ones columns)) zeros) 2 1 ≡ Ok tt
  pub same_weights : ask_matrix (with_codes (matrix_of zeros bad_weight) bad_code) 2 1 ≡ Err WeightForm

-- they are as said
pub weight_examples : WeightExamples
unfolding numbers every row in_range one_to within_limits ask_each ask_code ask_row_of ask_rows_of is_weight are_weights weight_at
    weight_of ask_matrix
weight_examples =
    record {
      known = refl;
      unread = refl;
      own = refl;
      full = refl;
      fewer = refl;
      more = refl;
      limits_first = refl;
      limits_before = refl;
      weights_before = refl;
      other_codes = refl;
      same_weights = refl;
    }
