-- Computed: which question of a call on a matrix of two taxa and one character refuses, and that the earlier one does where two would.
use Rattle.std.specs.Prelude.{Ok, Err}
use mathlib.Core.Path.{◌≡◌, refl}
use mathlib.Core.List.{List, [], ◌∷◌, map}
use Prim.Native.Nat.{ℕ}
use lib.IntN.{ℤ, pos, negsuc}
use lib.ListN.{replicate, set}
use Rattle.lists.specs.Numbers.{numbers}
use Rattle.lists.specs.Tests.{every}
use Rattle.matrix_form.specs.Shape.{matrix_size, columns, row, in_range, is_weight, weight_at, weight_of, last_node, MatrixLists, matrix_of}
use Rattle.matrix_form.specs.declared.refusal.Refusal.TheVariants.{BeyondLimits, CodeRange, ListSize, NotThere, WeightForm}
use Rattle.matrix_form.specs.Outcomes.{Outcome, value, refused, result_says, asked_says, ask_each}
use Rattle.matrix_form.specs.Questions.{one_to, within_limits, ask_code, ask_row_of, ask_rows_of, are_weights, ask_matrix, nodes_exist}
use Rattle.matrix_form.specs.Questions.{ask_htu}
use Rattle.matrix_form.specs.Questions.{ask_nodes}
use Rattle.difference_form.specs.Rows.{apart, part, lower, higher, median, medians, difference, interval_by, weighing}
use Rattle.difference_form.specs.Calls.{difference_answer, interval_answer, ask_medians}

-- what a length handed back says: the length; or the number of the refusal, with line 0
length-says : result_says {A = ℕ} (Ok 7)
    ∷ result_says (Err ListSize)
    ∷ result_says (Err BeyondLimits)
    ∷ result_says (Err CodeRange)
    ∷ result_says (Err NotThere)
    ∷ result_says (Err WeightForm)
    ∷ []
    ≡ value 7 ∷ refused 12 0 ∷ refused 4 0 ∷ refused 10 0 ∷ refused 13 0 ∷ refused 16 0 ∷ []
length-says = refl

-- a matrix of zeros
abbrev zeros : List ℤ
zeros = replicate matrix_size (pos 0)

-- a matrix of zeros with a code out of range in row 4, that of the first HTU of three taxa
abbrev bad_htu : List ℤ
bad_htu = set zeros 384 (pos 1000)

-- lent weights of which the first is given and the others are 1
abbrev first : ℕ → List ℕ
first weight = set (replicate columns 1) 0 weight

-- a lent row of a length
abbrev lent : ℕ → List ℤ
lent size = replicate size (pos 0)

-- what the questions of the call for medians say
unfoldable pub says : MatrixLists → ℕ → ℕ → ℕ → ℕ → ℕ → ℕ → Outcome (Unit {0})
unfolding numbers every row in_range last_node one_to within_limits ask_each ask_code ask_row_of ask_rows_of is_weight are_weights
    ask_matrix
    nodes_exist ask_htu ask_nodes ask_medians
says lists n m a b c size = asked_says (ask_medians lists n m a b c (lent size))

-- the questions of the call for medians
pub record Examples : Type 0 where
  -- a lent row of 128 codes passes, a shorter and a longer one are 12, and that before 4
  pub fits : says (matrix_of zeros (first 1)) 2 1 1 2 1 128 ≡ value tt
  pub short : says (matrix_of zeros (first 1)) 2 1 1 2 1 127 ≡ refused 12 0
  pub long : says (matrix_of zeros (first 1)) 2 1 1 2 1 129 ≡ refused 12 0
  pub size_first : says (matrix_of zeros (first 1)) 0 1 1 2 1 129 ≡ refused 12 0
  -- 127 and 129 weights are 12, and that before 4
  pub weights_short : says (matrix_of zeros (replicate 127 1)) 2 1 1 2 1 128 ≡ refused 12 0
  pub weights_long : says (matrix_of zeros (replicate 129 1)) 2 1 1 2 1 128 ≡ refused 12 0
  pub weights_size_first : says (matrix_of zeros (replicate 127 1)) 0 1 1 2 1 128 ≡ refused 12 0
  -- weights of 1 and of 9 pass, 0 and 10 are 16, after 4 and before 10; a weight past m is not asked
  pub lightest : says (matrix_of zeros (first 1)) 2 1 1 2 1 128 ≡ value tt
  pub heaviest : says (matrix_of zeros (first 9)) 2 1 1 2 1 128 ≡ value tt
  pub weight_none : says (matrix_of zeros (first 0)) 2 1 1 2 1 128 ≡ refused 16 0
  pub weight_ten : says (matrix_of zeros (first 10)) 2 1 1 2 1 128 ≡ refused 16 0
  pub limits_first : says (matrix_of zeros (first 0)) 0 1 1 2 1 128 ≡ refused 4 0
  pub weight_first : says (matrix_of (set zeros 0 (pos 1000)) (first 0)) 2 1 1 2 1 128 ≡ refused 16 0
  pub weight_unread : says (matrix_of zeros (set (first 1) 1 0)) 2 1 1 2 1 128 ≡ value tt
  -- each of the three nodes is asked
  pub first_node : says (matrix_of zeros (first 1)) 2 1 3 2 1 128 ≡ refused 13 0
  pub second_node : says (matrix_of zeros (first 1)) 2 1 1 0 1 128 ≡ refused 13 0
  pub third_node : says (matrix_of zeros (first 1)) 2 1 1 2 3 128 ≡ refused 13 0
  -- a node that does not exist is 13, before the 10 of an HTU's row; an HTU that is not named is not read
  pub node_first : says (matrix_of bad_htu (first 1)) 3 1 4 9 1 128 ≡ refused 13 0
  pub htu_row : says (matrix_of bad_htu (first 1)) 3 1 1 2 4 128 ≡ refused 10 0
  pub htu_unread : says (matrix_of bad_htu (first 1)) 3 1 1 2 3 128 ≡ value tt

-- they are as said
pub examples : Examples
unfolding says
examples =
    record {
      fits = refl;
      short = refl;
      long = refl;
      size_first = refl;
      weights_short = refl;
      weights_long = refl;
      weights_size_first = refl;
      lightest = refl;
      heaviest = refl;
      weight_none = refl;
      weight_ten = refl;
      limits_first = refl;
      weight_first = refl;
      weight_unread = refl;
      first_node = refl;
      second_node = refl;
      third_node = refl;
      node_first = refl;
      htu_row = refl;
      htu_unread = refl;
    }

-- the calls for an interval difference and for a difference
pub record IntervalExamples : Type 0 where
  -- each of the nodes of an interval difference and of a difference is asked
  pub taxon : interval_answer (matrix_of zeros (first 1)) 2 1 3 1 2 ≡ refused 13 0
  pub lower : interval_answer (matrix_of zeros (first 1)) 2 1 1 3 2 ≡ refused 13 0
  pub upper : interval_answer (matrix_of zeros (first 1)) 2 1 1 2 3 ≡ refused 13 0
  pub ours : interval_answer (matrix_of (set zeros 0 (negsuc 4)) (first 1)) 2 1 1 2 2 ≡ value 5
  pub one : difference_answer (matrix_of zeros (first 1)) 2 1 0 1 ≡ refused 13 0
  pub other : difference_answer (matrix_of zeros (first 1)) 2 1 1 0 ≡ refused 13 0
  pub five : difference_answer (matrix_of (set zeros 128 (negsuc 4)) (first 1)) 2 1 1 2 ≡ value 5
  -- a difference counts as often as its character's weight says
  pub weighed : difference_answer (matrix_of (set zeros 128 (negsuc 4)) (first 3)) 2 1 1 2 ≡ value 15
  pub weighed_interval : interval_answer (matrix_of (set zeros 0 (negsuc 4)) (first 3)) 2 1 1 2 2 ≡ value 15
  -- the second character by its own weight
  pub second : difference_answer (matrix_of (set zeros 129 (negsuc 4)) (set (first 3) 1 2)) 2 2 1 2 ≡ value 10

-- they answer so
pub interval_examples : IntervalExamples
unfolding numbers every row in_range last_node one_to within_limits ask_each ask_code ask_row_of ask_rows_of is_weight are_weights
    ask_matrix
    nodes_exist ask_htu ask_nodes interval_answer difference_answer interval_by difference weight_at part apart
interval_examples =
    record {
      taxon = refl;
      lower = refl;
      upper = refl;
      ours = refl;
      one = refl;
      other = refl;
      five = refl;
      weighed = refl;
      weighed_interval = refl;
      second = refl;
    }

-- what weights multiply, and what not
pub record WeighedExamples : Type 0 where
  -- a step costs its difference as often as the weight of its own character says, and once where there is none
  pub steps : map (λ j. (weighing (3 ∷ 2 ∷ [])).step j (pos 1) (negsuc 3)) (1 ∷ 2 ∷ 3 ∷ []) ≡ 15 ∷ 10 ∷ 5 ∷ []
  -- a median is one of the three codes
  pub middle : medians (pos 0 ∷ negsuc 4 ∷ []) (pos 3 ∷ pos 7 ∷ []) (pos 9 ∷ pos 2 ∷ []) ≡ pos 3 ∷ pos 2 ∷ []

-- they are as said
pub weighed_examples : WeighedExamples
unfolding weight_of weight_at part apart lower higher median medians
weighed_examples = record { steps = refl; middle = refl }
