-- The file of a job that is formed has at most 45,000 bytes: line 1, a `V` line, 64 rows of a name, 128 codes and their separators, and
-- 125 `C` lines are fewer. So such a job is within the limits.
use mathlib.Core.Path.{◌≡◌, refl}
use mathlib.Core.List.{List, [], ◌∷◌, ◌++◌, map, zip_with}
use mathlib.Core.Bool.{Bool, true, false}
use Prim.Native.Nat.{ℕ, suc, ◌+◌, ◌*◌, ◌≤◌, ◌<◌}
use native.Mathlib.Omega.{arith}
use borrow.Author.Tests.{leb-true, eqb-true}
use lib.IntN.{ℤ, pos, negsuc}
use lib.ListN.{length, length-append}
use Rattle.lists.specs.Numbers.{numbers}
use Rattle.lists.specs.Tests.{every}
use Rattle.lists.proofs.Both.{and_left, and_right}
use Rattle.matrix_form.specs.Shape.{most_characters, highest_code, in_range}
use Rattle.matrix_form.specs.Questions.{all_in_range}
use Rattle.tree_form.specs.declared.order.Order.{Order}
use Rattle.tree_form.specs.declared.order.Order.TheVariants.{Advance, Closest}
use Rattle.std.specs.Prelude.{Option, None, Some}
use Rattle.text_form.specs.Bytes.{tab, joined_by}
use Rattle.text_form.specs.Decimal.{digits_of, decimal}
use Rattle.text_form.specs.Lines.{ended}
use Rattle.text_form.proofs.Digits.{digits_length}
use Rattle.file_form.specs.declared.header.Kind.{Kind}
use Rattle.file_form.specs.declared.header.Kind.TheVariants.{Wagner, Own}
use Rattle.file_form.specs.Kinds.{kind_form}
use Rattle.file_form.specs.Optional.{optional_line}
use Rattle.file_form.specs.Weights.{letter_v, weight_text}
use Rattle.file_form.specs.Branches.{branch_text, branch_texts}
use Rattle.file_form.specs.Job.{Job, most_bytes, has_codes, order_fields, first_text, row_text, row_texts, file_of}
use Rattle.file_form.specs.Job.{JobFormed, JobWithinLimits}
use Rattle.file_form.proofs.Rows.Names.{name_length}
use Rattle.file_form.proofs.Rows.Within.{RowWithin, RowsWithin, rows-first, rows-others, formed_rows, limits-high}
use Rattle.file_form.proofs.BranchLines.Written.{AreNodes}
use Rattle.file_form.proofs.BranchLines.Nodes.{count_most, formed_nodes}

-- a code from -999 to 999 has at most 4 bytes
pub code-length : (code : ℤ) → in_range code ≡ true → length (decimal code) ≤ 4
unfolding in_range decimal
code-length (pos n) e =
    let small = leb-true n highest_code e in
    let digits = digits_length n 2 (omega arith) in
    omega arith
code-length (negsuc n) e =
    let small = leb-true (suc n) highest_code e in
    let digits = digits_length (suc n) 2 (omega arith) in
    omega arith

-- a field and codes behind it: at most 5 bytes more for each code
fields_length : (field : List ℕ) (codes : List ℤ) → all_in_range codes ≡ true
    → length (joined_by tab (field ∷ map decimal codes)) ≤ length field + 5 * length codes
unfolding joined_by all_in_range every
fields_length field [] e = omega arith
fields_length field (code ∷ codes) e =
    let first = code-length code (and_left (in_range code) (all_in_range codes) e) in
    let others = fields_length (decimal code) codes (and_right (in_range code) (all_in_range codes) e) in
    rw length-append (omega arith)

-- a row of at most 128 codes has at most 656 bytes, without its line feed
row-length : (m : ℕ) (earlier : List (List ℕ)) (name : List ℕ) (codes : List ℤ) → m ≤ most_characters → RowWithin m earlier name codes
    → length (row_text name codes) ≤ 656
unfolding row_text has_codes
row-length m earlier name codes few within =
    let head = name_length name within.formed in
    let count = eqb-true (length codes) m within.full in
    let fields = fields_length name codes within.near in
    omega arith

-- rows have at most 657 bytes each, with their line feeds
rows-length : (m : ℕ) (earlier names : List (List ℕ)) (rows : List (List ℤ)) → m ≤ most_characters → RowsWithin m earlier names rows
    → length (ended (zip_with row_text names rows)) ≤ 657 * length names
unfolding zip_with ended
rows-length m earlier [] rows few within = omega arith
rows-length m earlier (name ∷ names) [] few within = omega arith
rows-length m earlier (name ∷ names) (codes ∷ rows) few within =
    let first = row-length m earlier name codes few (rows-first within) in
    let others = rows-length m (name ∷ earlier) names rows few (rows-others within) in
    rw length-append (omega arith)

-- a word and two numbers have at most 9 bytes with their tabs, and a word for the order at most 8 more with its own
first-size : (word : List ℕ) (n m : ℕ) (order : Option Order) → length word ≡ 1 → length (digits_of n) ≤ 3 → length (digits_of m) ≤ 3
    → length (joined_by tab (word ∷ digits_of n ∷ digits_of m ∷ order_fields order)) ≤ 17
unfolding joined_by
first-size word n m None one taxa characters = simp length-append (omega arith)
first-size word n m (Some Advance) one taxa characters = simp length-append (omega arith)
first-size word n m (Some Closest) one taxa characters = simp length-append (omega arith)

-- the word of a kind is one letter
kind_letter : (kind : Kind) → length (kind_form kind).word ≡ 1
kind_letter Wagner = refl
kind_letter Own = refl

-- line 1 has at most 17 bytes, without its line feed
first-length : (job : Job) → JobFormed job → length (first_text job) ≤ 17
unfolding first_text
first-length job formed =
    let high = limits-high job.n job.m formed.limits in
    first-size (kind_form job.kind).word job.n job.m job.order (kind_letter job.kind) (digits_length job.n 2 (omega arith))
    (digits_length job.m 2 (omega arith))

-- a field and weights behind it: 2 bytes more for each weight
weights-length : (field weights : List ℕ) → length (joined_by tab (field ∷ map weight_text weights)) ≤ length field + 2 * length weights
unfolding joined_by
weights-length field [] = omega arith
weights-length field (weight ∷ weights) =
    let others = weights-length (weight_text weight) weights in
    rw length-append (omega arith)

-- a `V` line of at most 128 weights, if it is there, adds at most 258 bytes with its line feed
line-length : (weighed : Bool) (weights : List ℕ) (rows : List (List ℕ)) → length weights ≤ most_characters
    → length (ended (optional_line weighed letter_v (map weight_text weights) ++ rows)) ≤ 258 + length (ended rows)
unfolding optional_line ended
line-length true weights rows few =
    let line = weights-length (letter_v ∷ []) weights in
    rw length-append (omega arith)
line-length false weights rows few = omega arith

-- a `C` line of two numbers of at most three digits has at most 9 bytes, without its line feed
branch-length : (v above : ℕ) → v < 1000 → above < 1000 → length (branch_text v above) ≤ 9
unfolding branch_text joined_by
branch-length v above low small =
    let node = digits_length v 2 (omega arith) in
    let digits = digits_length above 2 (omega arith) in
    simp length-append (omega arith)

-- `C` lines have at most 10 bytes each, with their line feeds
branches-length : (v : ℕ) (above : List ℕ) → v + length above ≤ 1000 → AreNodes above
    → length (ended (zip_with branch_text (numbers v (length above)) above)) ≤ 10 * length above
unfolding zip_with numbers ended
branches-length v [] few nodes = omega arith
branches-length v (a ∷ above) few nodes =
    let first = branch-length v a (omega arith) (omega (arith, nodes 0)) in
    let others = branches-length (suc v) above (omega arith) (λ k. nodes (suc k)) in
    rw length-append (omega arith)

-- lines behind others
ended-length : (xs ys : List (List ℕ)) → length (ended (xs ++ ys)) ≡ length (ended xs) + length (ended ys)
unfolding ended
ended-length [] ys = omega arith
ended-length (x ∷ xs) ys = let others = ended-length xs ys in simp length-append (omega arith)

-- so the file of a job that is formed is never too long
pub file_short : (job : Job) → JobFormed job → length (file_of job) ≤ most_bytes
unfolding file_of ended branch_texts
file_short job formed =
    let high = limits-high job.n job.m formed.limits in
    let first = first-length job formed in
    let rows = rows-length job.m [] job.names job.rows high.1 (formed_rows job formed) in
    let few : length job.ancestors ≤ 125 = omega (arith, formed.branches_counted, count_most job.kind job.n) in
    let branches = branches-length 2 job.ancestors (omega arith) (formed_nodes job formed) in
    let both = ended-length (row_texts job) (branch_texts job.ancestors) in
    let line =
    line-length job.weighed job.weights (row_texts job ++ branch_texts job.ancestors) (omega (arith, formed.weight_count)) in
    rw length-append (omega (arith, formed.name_count))

-- and a job that is formed is within the limits
pub formed_within : (job : Job) → JobFormed job → JobWithinLimits job
formed_within job formed = record { formed = formed; short = file_short job formed }
