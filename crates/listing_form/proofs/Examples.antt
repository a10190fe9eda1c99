-- Listings computed from the bytes of files: the smallest ones, refusals, files with a branching of their own, and one of five taxa.
use mathlib.Core.Path.{◌≡◌, refl}
use mathlib.Core.List.{List, [], ◌∷◌, flat_map}
use Prim.Native.Nat.{ℕ}
use Prim.Native.String.{String}
use Rattle.text_form.specs.Text.{bytes}
use Rattle.listing_form.proofs.Computed.{computed}

-- the bytes of some lines
unfoldable text : List String → List ℕ
text lines = flat_map bytes lines

-- two taxa: one line of each kind but `H`
two_taxa : computed ("W\t2\t1\n" ∷ "A\t-999\n" ∷ "b_2\t999\n" ∷ [])
    ≡ text ("P\tb_2\tA\t1998\n" ∷ "p\t1998\n" ∷ "W\tb_2\t-\tA\t-\t1998\n" ∷ "w\t1998\n" ∷ "T\tb_2\tA\t1998\t+\n" ∷ "t\t1998\n" ∷ "c\t1000\t0\n" ∷ [])
unfolding computed text flat_map bytes
two_taxa = refl

-- two taxa with equal rows: the branch has length 0 and is marked `-`
equal_rows : computed ("W\t2\t1\n" ∷ "A\t3\n" ∷ "B\t3\n" ∷ [])
    ≡ text ("P\tB\tA\t0\n" ∷ "p\t0\n" ∷ "W\tB\t-\tA\t-\t0\n" ∷ "w\t0\n" ∷ "T\tB\tA\t0\t-\n" ∷ "t\t0\n" ∷ "c\t-\t-\n" ∷ [])
unfolding computed text flat_map bytes
equal_rows = refl

-- a name that is taken, in row 2: refusal 7 with line 3
name_taken : computed ("W\t2\t1\n" ∷ "A\t3\n" ∷ "A\t3\n" ∷ []) ≡ text ("R\t7\t3\n" ∷ [])
unfolding computed text flat_map bytes
name_taken = refl

-- three taxa with weights 3 and 2: every length is weighted, and the `H` lines are not
weighed : computed ("W\t3\t2\n" ∷ "V\t3\t2\n" ∷ "A\t0\t0\n" ∷ "B\t2\t1\n" ∷ "C\t2\t-1\n" ∷ [])
    ≡ text
    ("P\tB\tA\t8\n"
    ∷ "P\tC\tB\t4\n"
    ∷ "p\t12\n"
    ∷ "W\tB\t-\tA\t-\t8\n"
    ∷ "W\tC\tB\tA\t#1\t2\n"
    ∷ "w\t10\n"
    ∷ "T\tB\t#1\t2\t+\n"
    ∷ "T\tC\t#1\t2\t+\n"
    ∷ "T\t#1\tA\t6\t+\n"
    ∷ "t\t10\n"
    ∷ "c\t1000\t0\n"
    ∷ "H\t#1\t1\t2\t2\t2\n"
    ∷ "H\t#1\t2\t0\t0\t0\n"
    ∷ [])
unfolding computed text flat_map bytes
weighed = refl

-- a weight of 10: refusal 16 with line 2
weight_ten : computed ("W\t2\t1\n" ∷ "V\t10\n" ∷ "A\t3\n" ∷ "B\t3\n" ∷ []) ≡ text ("R\t16\t2\n" ∷ [])
unfolding computed text flat_map bytes
weight_ten = refl

-- the same taxa and weights with a branching of their own: the lines of that tree, and neither network nor build
own-branching : computed
    ("F\t3\t2\n" ∷ "V\t3\t2\n" ∷ "A\t0\t0\n" ∷ "B\t2\t1\n" ∷ "C\t2\t-1\n" ∷ "C\t2\t4\n" ∷ "C\t3\t4\n" ∷ "C\t4\t1\n" ∷ [])
    ≡ text
    ("T\tB\t#1\t2\t+\n"
    ∷ "T\tC\t#1\t2\t+\n"
    ∷ "T\t#1\tA\t6\t+\n"
    ∷ "t\t10\n"
    ∷ "c\t1000\t0\n"
    ∷ "H\t#1\t1\t2\t2\t2\n"
    ∷ "H\t#1\t2\t0\t0\t0\n"
    ∷ [])
unfolding computed text flat_map bytes
own-branching = refl

-- document 01's example with another branching than its Wagner tree, `B` and `D` nearest to each other: two steps more
abbrev own_four : List String
own_four =
    "F\t4\t3\n"
    ∷ "A\t0\t0\t0\n"
    ∷ "B\t2\t1\t0\n"
    ∷ "C\t2\t3\t1\n"
    ∷ "D\t-1\t1\t2\n"
    ∷ "C\t2\t5\n"
    ∷ "C\t3\t6\n"
    ∷ "C\t4\t5\n"
    ∷ "C\t5\t6\n"
    ∷ "C\t6\t1\n"
    ∷ []

-- its listing, as the program of other authorship prints it
abbrev own_four_listed : List String
own_four_listed =
    "T\tB\t#1\t1\t+\n"
    ∷ "T\tC\t#2\t2\t+\n"
    ∷ "T\tD\t#1\t4\t+\n"
    ∷ "T\t#1\t#2\t0\t-\n"
    ∷ "T\t#2\tA\t4\t+\n"
    ∷ "t\t11\n"
    ∷ "c\t727\t3\n"
    ∷ "H\t#1\t1\t0\t2\t2\n"
    ∷ "H\t#1\t2\t1\t1\t1\n"
    ∷ "H\t#1\t3\t0\t1\t1\n"
    ∷ "H\t#2\t1\t0\t2\t2\n"
    ∷ "H\t#2\t2\t1\t1\t1\n"
    ∷ "H\t#2\t3\t0\t1\t1\n"
    ∷ []

-- it is the listing of its file
own_four_lem : computed own_four ≡ text own_four_listed
unfolding computed text flat_map bytes
own_four_lem = refl

-- two taxa in an `F` file, and one
own_smallest :
    (computed ("F\t2\t1\n" ∷ "A\t1\n" ∷ "B\t3\n" ∷ "C\t2\t1\n" ∷ []) ≡ text ("T\tB\tA\t2\t+\n" ∷ "t\t2\n" ∷ "c\t1000\t0\n" ∷ []))
    × (computed ("F\t1\t1\n" ∷ "A\t1\n" ∷ []) ≡ text ("t\t0\n" ∷ "c\t-\t-\n" ∷ []))
unfolding computed text flat_map bytes
own_smallest = (refl, refl)

-- an ancestor that is the node itself: refusal 14 with line 0
no_branching : computed ("F\t2\t1\n" ∷ "A\t1\n" ∷ "B\t3\n" ∷ "C\t2\t2\n" ∷ []) ≡ text ("R\t14\t0\n" ∷ [])
unfolding computed text flat_map bytes
no_branching = refl

-- five taxa: the fitted total is below the length under the median codes, states are negative, a chosen state is below the highest of its
-- range, and the lower end of an interval is an HTU
abbrev five_taxa : List String
five_taxa =
    "W\t5\t3\n"
    ∷ "A\t0\t0\t0\n"
    ∷ "B\t0\t-2\t2\n"
    ∷ "C\t-1\t2\t1\n"
    ∷ "D\t-1\t-2\t0\n"
    ∷ "E\t-1\t-1\t2\n"
    ∷ []

-- its listing, as the program of other authorship prints it
abbrev five_listed : List String
five_listed =
    "P\tD\tA\t3\n"
    ∷ "P\tB\tD\t3\n"
    ∷ "P\tE\tB\t2\n"
    ∷ "P\tC\tA\t4\n"
    ∷ "p\t12\n"
    ∷ "W\tD\t-\tA\t-\t3\n"
    ∷ "W\tB\tD\tA\t#1\t2\n"
    ∷ "W\tC\t#1\tA\t#2\t4\n"
    ∷ "W\tE\tB\t#1\t#3\t2\n"
    ∷ "w\t11\n"
    ∷ "T\tB\t#3\t1\t+\n"
    ∷ "T\tC\t#2\t2\t+\n"
    ∷ "T\tD\t#1\t1\t+\n"
    ∷ "T\tE\t#3\t1\t+\n"
    ∷ "T\t#1\t#2\t2\t+\n"
    ∷ "T\t#2\tA\t2\t+\n"
    ∷ "T\t#3\t#1\t1\t+\n"
    ∷ "t\t10\n"
    ∷ "c\t700\t0\n"
    ∷ "H\t#1\t1\t-1\t-1\t-1\n"
    ∷ "H\t#1\t2\t-2\t-1\t-2\n"
    ∷ "H\t#1\t3\t0\t1\t1\n"
    ∷ "H\t#2\t1\t-1\t-1\t-1\n"
    ∷ "H\t#2\t2\t0\t0\t0\n"
    ∷ "H\t#2\t3\t0\t1\t1\n"
    ∷ "H\t#3\t1\t-1\t-1\t-1\n"
    ∷ "H\t#3\t2\t-2\t-1\t-2\n"
    ∷ "H\t#3\t3\t2\t2\t2\n"
    ∷ []

-- it is the listing of its file
five_taxa_lem : computed five_taxa ≡ text five_listed
unfolding computed text flat_map bytes
five_taxa_lem = refl

-- document 01's example with a word for the order behind the numbers of line 1, or without one
abbrev four_taxa : String → List String
four_taxa first = first ∷ "A\t0\t0\t0\n" ∷ "B\t2\t1\t0\n" ∷ "C\t2\t3\t1\n" ∷ "D\t-1\t1\t2\n" ∷ []

-- its listing with `closest`, as the program of other authorship prints it: C is placed before D, where by advancement D comes first
abbrev closest_listed : List String
closest_listed =
    "P\tB\tA\t3\n"
    ∷ "P\tC\tB\t3\n"
    ∷ "P\tD\tA\t4\n"
    ∷ "p\t10\n"
    ∷ "W\tB\t-\tA\t-\t3\n"
    ∷ "W\tC\tB\tA\t#1\t3\n"
    ∷ "W\tD\t#1\tA\t#2\t3\n"
    ∷ "w\t9\n"
    ∷ "T\tB\t#1\t1\t+\n"
    ∷ "T\tC\t#1\t2\t+\n"
    ∷ "T\tD\t#2\t2\t+\n"
    ∷ "T\t#1\t#2\t2\t+\n"
    ∷ "T\t#2\tA\t2\t+\n"
    ∷ "t\t9\n"
    ∷ "c\t888\t8\n"
    ∷ "H\t#1\t1\t2\t2\t2\n"
    ∷ "H\t#1\t2\t1\t1\t1\n"
    ∷ "H\t#1\t3\t0\t1\t1\n"
    ∷ "H\t#2\t1\t0\t0\t0\n"
    ∷ "H\t#2\t2\t1\t1\t1\n"
    ∷ "H\t#2\t3\t0\t1\t1\n"
    ∷ []

-- the closest first
with_closest : computed (four_taxa "W\t4\t3\tclosest\n") ≡ text closest_listed
unfolding computed text flat_map bytes
with_closest = refl

-- by advancement as without the word
with_advance : computed (four_taxa "W\t4\t3\tadvance\n") ≡ computed (four_taxa "W\t4\t3\n")
unfolding computed text flat_map bytes
with_advance = refl
