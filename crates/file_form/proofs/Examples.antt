-- Document 01's example file and its further edges, read; the words for the order; the `V` line; files with a branching of their own; one
-- refusal of each number 1 to 11 and 14 to 17 with its line; and what is written into lent lists.
use mathlib.Core.Path.{◌≡◌, refl}
use mathlib.Core.Bool.{Bool, true, false}
use mathlib.Core.List.{List, [], ◌∷◌, ◌++◌, map, zip_with}
use Prim.Native.Nat.{ℕ}
use Prim.Native.String.{String}
use lib.IntN.{ℤ, pos, negsuc}
use lib.ListN.{replicate}
use Rattle.matrix_form.specs.Shape.{in_range, last_node}
use Rattle.matrix_form.specs.Questions.{one_to, within_limits, ask_code}
use Rattle.lists.specs.Numbers.{numbers}
use Rattle.lists.specs.Filters.{keep}
use Rattle.tree_form.specs.Ancestors.{ancestor, descendants}
use Rattle.tree_form.specs.Nodes.{has_ancestor, in_tree, nodes_in, other_nodes, taxa_placed}
use Rattle.tree_form.specs.Growing.{descendant_count, descendants_wanted, climbs, row_one_alone, nodes_only, htus_in, ancestors_in, descendants_right}
use Rattle.tree_form.specs.Growing.{all_climb, grown, growing_tree, branching}
use Rattle.matrix_form.specs.Outcomes.{ask_each, Outcome, value, refused}
use Rattle.lists.specs.Tests.{every, same_numbers as same_text}
use Rattle.text_form.specs.Bytes.{is_digit, is_letter, pieces_at, joined_by, piece_length, first_piece, in_name}
use Rattle.file_form.specs.Words.{word_advance, word_closest}
use Rattle.text_form.specs.Decimal.{digits_in, digits_of, decimal, no_leading_zero, number_form, number_from, number_of, code_form, code_of}
use Rattle.text_form.specs.Lines.{ended, lines_of, fields_of}
use Rattle.file_form.specs.Job.{Job, name_form, differs_from_all, first_text, row_text, file_of}
use Rattle.file_form.specs.Lines.{ask_lines}
use Rattle.file_form.specs.Optional.{optional_there, optional_fields, ask_optional, optional_line}
use Rattle.file_form.specs.Weights.{weight_form, weight_in, weights_form, weights_said}
use Rattle.file_form.specs.Kinds.{is_kind, kind_said}
use Rattle.file_form.specs.Header.{order_in, header_in, first_form, first_line_form, is_order, order_known}
use Rattle.file_form.specs.Header.{ask_first_line, ask_header}
use Rattle.file_form.specs.Rows.{name_in, codes_in, ask_field, ask_codes, ask_row}
use Rattle.file_form.specs.Branches.{branch_form, ancestor_in, branch_text, branch_texts}
use Rattle.file_form.specs.Reading.{job_of, nothing_more, ask_end, ask_after, ask_behind, ask_file, ask_length, read_answer}
use Rattle.file_form.specs.declared.header.Kind.TheVariants.{Wagner, Own}
use Rattle.std.specs.Prelude.{Option, None, Some, Ok}
use Rattle.tree_form.specs.declared.order.Order.{Order}
use Rattle.tree_form.specs.declared.order.Order.TheVariants.{Advance, Closest}
use Rattle.text_form.specs.Text.{bytes}
use Rattle.file_form.specs.Written.{padded, matrix_written, weights_written, names_written, name_bytes, names_in}
use Rattle.lists.specs.Over.{over, stripes}
use Rattle.lists.specs.Filled.{filled}

-- a file of these bytes, read
unfoldable pub read : List ℕ → Outcome Job
unfolding in_range last_node within_limits one_to every is_digit is_letter same_text pieces_at digits_in digits_of no_leading_zero number_form number_from
    number_of code_form code_of in_name name_form differs_from_all lines_of fields_of order_in header_in name_in codes_in job_of first_form first_line_form
    is_order order_known ask_first_line optional_there optional_fields ask_optional weight_form weight_in weights_form weights_said
    ask_header ask_each ask_code ask_field ask_codes ask_row ask_lines is_kind kind_said branch_form ancestor_in ancestor has_ancestor
    in_tree nodes_in other_nodes keep
    numbers taxa_placed descendants descendant_count descendants_wanted climbs row_one_alone nodes_only htus_in ancestors_in descendants_right all_climb filled
    grown growing_tree branching nothing_more ask_end ask_after ask_behind ask_file ask_length read_answer
read file = read_answer file

-- a file of this text, read
read_text : String → Outcome Job
unfolding read bytes
read_text text = read (bytes text)

-- document 01's example, with this word for the order and these weights, written in a `V` line or not
example_job : Option Order → Bool → List ℕ → Job
example_job order weighed weights =
    record {
      header = record { kind = Wagner; n = 4; m = 3; order = order; weighed = weighed };
      weights = weights;
      names = (65 ∷ []) ∷ (66 ∷ []) ∷ (67 ∷ []) ∷ (68 ∷ []) ∷ [];
      rows = (pos 0 ∷ pos 0 ∷ pos 0 ∷ []) ∷ (pos 2 ∷ pos 1 ∷ pos 0 ∷ []) ∷ (pos 2 ∷ pos 3 ∷ pos 1 ∷ [])
          ∷ (negsuc 0 ∷ pos 1 ∷ pos 2 ∷ []) ∷ [];
      ancestors = [];
    }

-- its rows behind these first lines, read
read_behind : String → Outcome Job
unfolding read bytes
read_behind first = read (bytes first ++ bytes "\nA\t0\t0\t0\nB\t2\t1\t0\nC\t2\t3\t1\nD\t-1\t1\t2\n")

-- document 01's example
example : read_behind "W\t4\t3" ≡ value (example_job None false (1 ∷ 1 ∷ 1 ∷ []))
unfolding read_behind example_job
example = refl

-- with `advance` in line 1
example_advance : read_behind "W\t4\t3\tadvance" ≡ value (example_job (Some Advance) false (1 ∷ 1 ∷ 1 ∷ []))
unfolding read_behind example_job
example_advance = refl

-- with `closest`
example_closest : read_behind "W\t4\t3\tclosest" ≡ value (example_job (Some Closest) false (1 ∷ 1 ∷ 1 ∷ []))
unfolding read_behind example_job
example_closest = refl

-- with a `V` line
example_weighed : read_behind "W\t4\t3\tclosest\nV\t1\t9\t3" ≡ value (example_job (Some Closest) true (1 ∷ 9 ∷ 3 ∷ []))
unfolding read_behind example_job
example_weighed = refl

-- with a `V` line of ones: another job with the same weights as without the line
example_ones : read_behind "W\t4\t3\nV\t1\t1\t1" ≡ value (example_job None true (1 ∷ 1 ∷ 1 ∷ []))
unfolding read_behind example_job
example_ones = refl

-- the two words, in letters
words : (word_advance ≡ bytes "advance") × (word_closest ≡ bytes "closest")
unfolding bytes
words = (refl, refl)

-- one taxon of this name with one code, of this weight, written in a `V` line or not
one-taxon : List ℕ → ℤ → Bool → ℕ → Outcome Job
one-taxon name code weighed weight =
    value
    (record {
      header = record { kind = Wagner; n = 1; m = 1; order = None; weighed = weighed };
      weights = weight ∷ [];
      names = name ∷ [];
      rows = (code ∷ []) ∷ [];
      ancestors = [];
    })

-- one taxon `A` with one code
one_code : ℤ → Outcome Job
unfolding one-taxon
one_code code = one-taxon (65 ∷ []) code false 1

-- the refusals 2 to 11, 15 and 16: a file, and the number and line that refuse it
refusals : List (String × Outcome Job)
refusals =
    ("", refused 2 0)
    ∷ ("W\t1\nA\t0\n", refused 3 1)
    ∷ ("W\t0\t1\n", refused 4 1)
    ∷ ("W\t2\t1\nA\t0\n", refused 5 3)
    ∷ ("W\t1\t1\n1A\t0\n", refused 6 2)
    ∷ ("W\t3\t1\nA\t0\nB\t1\nA\t2\n", refused 7 4)
    ∷ ("W\t1\t2\nA\t0\n", refused 8 2)
    ∷ ("W\t1\t1\nA\t+1\n", refused 9 2)
    ∷ ("W\t2\t1\nA\t0\nB\t-1000\n", refused 10 3)
    ∷ ("W\t1\t1\nA\t0\n\n", refused 11 3)
    ∷ ("W\t1\t1\tnearest\nA\t0\n", refused 15 1)
    ∷ ("W\t1\t1\nV\t0\nA\t0\n", refused 16 2)
    ∷ []

-- the further edges: 999 and -999 pass, 1000 is 10, 1000000 and `-0` are 9; as n, 999999 is 4 and 1000000 is 3; a missing line feed is 3
-- on line 1 and 5 on a row; a carriage return fails the question of its field; a bad name with too few codes is 8
edges : List (String × Outcome Job)
edges =
    ("W\t1\t1\nA\t999\n", one_code (pos 999))
    ∷ ("W\t1\t1\nA\t-999\n", one_code (negsuc 998))
    ∷ ("W\t1\t1\nA\t1000\n", refused 10 2)
    ∷ ("W\t1\t1\nA\t1000000\n", refused 9 2)
    ∷ ("W\t1\t1\nA\t-0\n", refused 9 2)
    ∷ ("W\t999999\t1\nA\t0\n", refused 4 1)
    ∷ ("W\t1000000\t1\nA\t0\n", refused 3 1)
    ∷ ("W\t1\t1", refused 3 1)
    ∷ ("W\t1\t1\nA\t0", refused 5 2)
    ∷ ("W\t1\t1\r\nA\t0\r\n", refused 3 1)
    ∷ ("W\t1\t1\nA\r\t0\n", refused 6 2)
    ∷ ("W\t1\t1\nA\t0\r\n", refused 9 2)
    ∷ ("W\t1\t2\n1A\t0\n", refused 8 2)
    ∷ []

-- the fourth field: an empty one, a capital, a carriage return or a blank make no word for the order, which is 15; five fields are 3, which
-- is asked before; 15 is asked before 4; line 1 needs its line feed
orders : List (String × Outcome Job)
orders =
    ("W\t1\t1\t\nA\t0\n", refused 15 1)
    ∷ ("W\t1\t1\tClosest\nA\t0\n", refused 15 1)
    ∷ ("W\t1\t1\tAdvance\nA\t0\n", refused 15 1)
    ∷ ("W\t1\t1\tclosest\r\nA\t0\n", refused 15 1)
    ∷ ("W\t1\t1\tclosest \nA\t0\n", refused 15 1)
    ∷ ("W\t1\t1\tclosest\t\nA\t0\n", refused 3 1)
    ∷ ("W\tx\t1\tnot\n", refused 3 1)
    ∷ ("W\t0\t1\tnot\n", refused 15 1)
    ∷ ("W\t0\t1\tclosest\n", refused 4 1)
    ∷ ("W\t1\t1\tclosest", refused 3 1)
    ∷ []

-- the `V` line: a weight is one digit from `1` to `9`, and `0`, `10`, `01`, a sign, none or a carriage return is 16; so is another number
-- of them; a line whose first field is `V` is always read as weights, so that a row of that name needs the line in front of it; without a
-- line feed it is 16, `V` alone too; another letter is a row; 16 is asked after 4 and before the rows
weighings : List (String × Outcome Job)
weighings =
    ("W\t1\t1\nV\t9\nA\t0\n", one-taxon (65 ∷ []) (pos 0) true 9)
    ∷ ("W\t1\t1\nV\t1\nV\t5\n", one-taxon (86 ∷ []) (pos 5) true 1)
    ∷ ("W\t1\t1\nVa\t5\n", one-taxon (86 ∷ 97 ∷ []) (pos 5) false 1)
    ∷ ("W\t1\t1\nv\t5\n", one-taxon (118 ∷ []) (pos 5) false 1)
    ∷ ("W\t1\t1\nV\t10\nA\t0\n", refused 16 2)
    ∷ ("W\t1\t1\nV\t01\nA\t0\n", refused 16 2)
    ∷ ("W\t1\t1\nV\t-1\nA\t0\n", refused 16 2)
    ∷ ("W\t1\t1\nV\t\nA\t0\n", refused 16 2)
    ∷ ("W\t1\t1\nV\t:\nA\t0\n", refused 16 2)
    ∷ ("W\t1\t1\nV\t1\r\nA\t0\n", refused 16 2)
    ∷ ("W\t1\t1\nV\nA\t0\n", refused 16 2)
    ∷ ("W\t1\t1\nV\t1\t1\nA\t0\n", refused 16 2)
    ∷ ("W\t1\t2\nV\t1\nA\t0\t0\n", refused 16 2)
    ∷ ("W\t1\t1\nV\t10\n", refused 16 2)
    ∷ ("W\t1\t1\nV", refused 16 2)
    ∷ ("W\t1\t1\nV\t1", refused 16 2)
    ∷ ("W\t1\t1\nVa", refused 5 2)
    ∷ ("W\t1\t1\nA\t0\nV\t1\n", refused 11 3)
    ∷ ("W\t0\t1\nV\t0\n", refused 4 1)
    ∷ ("W\t1\t1\nV\t0\n1A\t0\n", refused 16 2)
    ∷ []

-- behind a `V` line the numbers of the lines count it
counted : List (String × Outcome Job)
counted =
    ("W\t1\t1\nV\t1\n", refused 5 3)
    ∷ ("W\t1\t1\nV\t1\n1A\t0\n", refused 6 3)
    ∷ ("W\t2\t1\nV\t1\nA\t0\nA\t1\n", refused 7 4)
    ∷ ("W\t1\t1\nV\t1\nA\t0\t0\n", refused 8 3)
    ∷ ("W\t1\t1\nV\t1\nA\tx\n", refused 9 3)
    ∷ ("W\t2\t1\nV\t1\nA\t0\nB\t1000\n", refused 10 4)
    ∷ ("W\t1\t1\nV\t1\nV\t1\nA\t0\n", refused 11 4)
    ∷ ("W\t1\t1\nV\t1\nA\t0\n\n", refused 11 4)
    ∷ []

-- one character of three taxa `A`, `B` and `C`, with their only branching
own_job : Job
own_job =
    record {
      header = record { kind = Own; n = 3; m = 1; order = None; weighed = false };
      weights = 1 ∷ [];
      names = (65 ∷ []) ∷ (66 ∷ []) ∷ (67 ∷ []) ∷ [];
      rows = (pos 0 ∷ []) ∷ (pos 2 ∷ []) ∷ (pos 5 ∷ []) ∷ [];
      ancestors = 4 ∷ 4 ∷ 1 ∷ [];
    }

-- one taxon in an `F` file, of this weight, written in a `V` line or not: it has no `C` line
own-taxon : Bool → ℕ → Outcome Job
own-taxon weighed weight =
    value
    (record {
      header = record { kind = Own; n = 1; m = 1; order = None; weighed = weighed };
      weights = weight ∷ [];
      names = (65 ∷ []) ∷ [];
      rows = (pos 0 ∷ []) ∷ [];
      ancestors = [];
    })

-- an `F` file of these taxa with these lines behind its rows, read
read_own : String → Outcome Job
unfolding read bytes
read_own behind = read (bytes "F\t3\t1\nA\t0\nB\t2\nC\t5\n" ++ bytes behind)

-- it is read with its branching, and is the file of the job
own_read : (read_own "C\t2\t4\nC\t3\t4\nC\t4\t1\n" ≡ value own_job) × (read (file_of own_job) ≡ value own_job)
unfolding read_own read own_job joined_by decimal zip_with numbers first_text optional_line row_text branch_text branch_texts ended file_of
own_read = (refl, refl)

-- its `C` lines: one is missing, has no line feed, another number of fields, another letter, a number of a wrong form (a leading zero, seven
-- digits, a sign, none, a carriage return), or is not its node's turn, which is 17 with its line; then 11 with the line behind the last;
-- then 14 with line 0: an ancestor is 0, too large or the node itself, or there is a ring, or a node has too many descendants
own_lines : List (String × Outcome Job)
own_lines =
    ("", refused 17 5)
    ∷ ("C\t2\t4\nC\t3\t4\n", refused 17 7)
    ∷ ("C\t2\t4\nC\t3\t4\nC\t4\t1", refused 17 7)
    ∷ ("C\t2\nC\t3\t4\nC\t4\t1\n", refused 17 5)
    ∷ ("C\t2\t4\t\nC\t3\t4\nC\t4\t1\n", refused 17 5)
    ∷ ("c\t2\t4\nC\t3\t4\nC\t4\t1\n", refused 17 5)
    ∷ ("C\t2\t04\nC\t3\t4\nC\t4\t1\n", refused 17 5)
    ∷ ("C\t02\t4\nC\t3\t4\nC\t4\t1\n", refused 17 5)
    ∷ ("C\t2\t1000000\nC\t3\t4\nC\t4\t1\n", refused 17 5)
    ∷ ("C\t2\t-4\nC\t3\t4\nC\t4\t1\n", refused 17 5)
    ∷ ("C\t2\t\nC\t3\t4\nC\t4\t1\n", refused 17 5)
    ∷ ("C\t2\t4\r\nC\t3\t4\nC\t4\t1\n", refused 17 5)
    ∷ ("C\t2\t4\nC\t4\t1\nC\t3\t4\n", refused 17 6)
    ∷ ("C\t2\t4\nC\t3\t4\nC\t5\t1\n", refused 17 7)
    ∷ ("C\t2\t4\nC\t3\t4\nC\t4\t1\nC\t5\t1\n", refused 11 8)
    ∷ ("C\t2\t4\nC\t3\t4\nC\t4\t0\nD", refused 11 8)
    ∷ ("C\t2\t4\nC\t3\t4\nC\t4\t0\n", refused 14 0)
    ∷ ("C\t2\t4\nC\t3\t4\nC\t4\t999999\n", refused 14 0)
    ∷ ("C\t2\t4\nC\t3\t4\nC\t4\t4\n", refused 14 0)
    ∷ ("C\t2\t4\nC\t3\t4\nC\t4\t2\n", refused 14 0)
    ∷ ("C\t2\t1\nC\t3\t4\nC\t4\t1\n", refused 14 0)
    ∷ []

-- files that begin with `F`: three fields, and a fourth is 3 even if it is a word for the order; one taxon has no `C` line; a `V` line is
-- allowed, and counted; two taxa have one; a ring with the right number of descendants everywhere is 14; a `W` file has none
own_files : List (String × Outcome Job)
own_files =
    ("F\t1\t1\nA\t0\n", own-taxon false 1)
    ∷ ("F\t1\t1\nV\t9\nA\t0\n", own-taxon true 9)
    ∷ ("F\t1\t1\tadvance\nA\t0\n", refused 3 1)
    ∷ ("F\t1\t1\tnot\nA\t0\n", refused 3 1)
    ∷ ("F\t1\nA\t0\n", refused 3 1)
    ∷ ("f\t1\t1\nA\t0\n", refused 3 1)
    ∷ ("FW\t1\t1\nA\t0\n", refused 3 1)
    ∷ ("F\t0\t1\n", refused 4 1)
    ∷ ("F\t1\t1\nV\t0\nA\t0\n", refused 16 2)
    ∷ ("F\t1\t1\nA\t0\nC\t2\t1\n", refused 11 3)
    ∷ ("F\t2\t1\nA\t0\nB\t1\nC\t2\t2\n", refused 14 0)
    ∷ ("F\t4\t1\nA\t0\nB\t0\nC\t0\nD\t0\nC\t2\t1\nC\t3\t5\nC\t4\t6\nC\t5\t6\nC\t6\t5\n", refused 14 0)
    ∷ ("F\t2\t1\nV\t1\nA\t0\nB\t1\nC\t3\t1\n", refused 17 5)
    ∷ ("F\t2\t1\nA\t0\nB\tx\nC\t2\t2\n", refused 9 3)
    ∷ ("W\t2\t1\nA\t0\nB\t1\nC\t2\t1\n", refused 11 4)
    ∷ []

-- each file of a table is read as the table says
AsSaid : List (String × Outcome Job) → Type 0
AsSaid table = map (λ row. read_text row.0) table ≡ map (λ row. row.1) table

-- the refusals are as the table says
refusals_read : AsSaid refusals
unfolding AsSaid read_text refusals
refusals_read = refl

-- and so are the edges
edges_read : AsSaid edges
unfolding AsSaid read_text edges one_code one-taxon
edges_read = refl

-- and so is the fourth field
orders_read : AsSaid orders
unfolding AsSaid read_text orders
orders_read = refl

-- and so is the `V` line
weighings_read : AsSaid weighings
unfolding AsSaid read_text weighings one-taxon
weighings_read = refl

-- and so are the lines behind it
counted_read : AsSaid counted
unfolding AsSaid read_text counted
counted_read = refl

-- and so are the `C` lines
own_lines_read : map (λ row. read_own row.0) own_lines ≡ map (λ row. row.1) own_lines
unfolding read_own own_lines
own_lines_read = refl

-- and so are the files that begin with `F`
own_files_read : AsSaid own_files
unfolding AsSaid read_text own_files own-taxon
own_files_read = refl

-- refusal 1
too_long : read (replicate 45001 65) ≡ refused 1 0
unfolding read
too_long = refl

-- 45,000 bytes are not too many
longest_passes : ask_length (replicate 45000 65) ≡ Ok tt
unfolding ask_length
longest_passes = refl

-- 64 taxa pass, 65 is 4; equal rows under different names pass: taxa `t1`, `t2`, ... with the same row
alike : ℕ → Job
unfolding digits_in digits_of numbers
alike n =
    record {
      header = record { kind = Wagner; n = n; m = 1; order = None; weighed = false };
      weights = 1 ∷ [];
      names = map (λ k. 116 ∷ digits_of k) (numbers 1 n);
      rows = replicate n (pos 0 ∷ []);
      ancestors = [];
    }

-- 64 taxa pass
sixty_four_taxa : read (file_of (alike 64)) ≡ value (alike 64)
unfolding read alike joined_by decimal zip_with numbers first_text optional_line row_text branch_texts ended file_of
sixty_four_taxa = refl

-- 65 are 4
sixty_five_taxa : read (file_of (alike 65)) ≡ refused 4 1
unfolding read alike joined_by decimal zip_with numbers first_text optional_line row_text branch_texts ended file_of
sixty_five_taxa = refl

-- a name as it stands in the lent list
padded_name : padded (97 ∷ 98 ∷ []) ≡ 97 ∷ 98 ∷ replicate 14 0
unfolding filled
padded_name = refl

-- rows written into a matrix: each over the front of its 128 codes, and all else as before
two_rows : matrix_written ((pos 1 ∷ pos 2 ∷ []) ∷ (pos 3 ∷ []) ∷ []) (replicate 131 (pos 9))
    ≡ pos 1 ∷ pos 2 ∷ replicate 126 (pos 9) ++ pos 3 ∷ replicate 2 (pos 9)
unfolding over stripes
two_rows = refl

-- names written into a list: each padded to its 16 bytes, and behind them all as before
two_names : names_written ((65 ∷ []) ∷ (66 ∷ 67 ∷ []) ∷ []) (replicate 34 9)
    ≡ 65 ∷ replicate 15 0 ++ 66 ∷ 67 ∷ replicate 14 0 ++ replicate 2 9
unfolding over stripes filled
two_names = refl

-- and read back
two_names_back : names_in 2 (names_written ((65 ∷ []) ∷ (66 ∷ 67 ∷ []) ∷ []) (replicate 34 9)) ≡ (65 ∷ []) ∷ (66 ∷ 67 ∷ []) ∷ []
unfolding over stripes filled names_in name_bytes first_piece piece_length numbers
two_names_back = refl

-- weights written into a list: over its front, and behind them all as before
three_weights : weights_written (1 ∷ 9 ∷ 3 ∷ []) (replicate 5 7) ≡ 1 ∷ 9 ∷ 3 ∷ 7 ∷ 7 ∷ []
unfolding over
three_weights = refl
