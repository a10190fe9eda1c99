-- What an answer says; and reads into lent lists, with what these then hold.
use mathlib.Core.Path.{◌≡◌, refl}
use mathlib.Core.Bool.{true, false}
use mathlib.Core.List.{List, [], ◌∷◌, ◌++◌, map, zip_with}
use Prim.Native.Nat.{ℕ}
use Prim.Native.String.{String}
use lib.IntN.{pos, negsuc}
use lib.ListN.{replicate}
use Rattle.lists.specs.Numbers.{numbers}
use Rattle.lists.specs.Over.{over, stripes}
use Rattle.matrix_form.specs.Outcomes.{Outcome, value, refused}
use Rattle.matrix_form.specs.declared.refusal.Refusal.TheVariants.{NameTaken}
use Rattle.file_form.specs.declared.header.Header.{Header}
use Rattle.file_form.specs.declared.header.Kind.TheVariants.{Wagner}
use Rattle.std.specs.Prelude.{None, Some, Ok, Err}
use Rattle.tree_form.specs.declared.order.Order.TheVariants.{Closest}
use Rattle.tree_form.specs.LentNumbers.{records_for}
use Rattle.text_form.specs.Text.{bytes}
use Rattle.file_form.specs.Reading.{job_in}
use Rattle.file_form.specs.Written.{LentLists, lent}
use Rattle.file_form.proofs.Examples.{read}
use Rattle.file_form.specs.Calls.{read_says, with_header, full_size, ask_size, read_outcome, lists_after}

-- what an answer says: a header, and a refusal with its line
accepted_says :
    read_says (Ok (record { kind = Wagner; n = 4; m = 3; order = Some Closest; weighed = true }))
    ≡ value (record { kind = Wagner; n = 4; m = 3; order = Some Closest; weighed = true })
accepted_says = refl

-- a refusal: its number and its line
refused_says : read_says (Err (record { refusal = NameTaken; line = 4 })) ≡ refused 7 4
refused_says = refl

-- case counts: two taxa `a` and `A` pass
two_cases : with_header (read (bytes "W\t2\t1\na\t0\nA\t1\n"))
    ≡ value (record { kind = Wagner; n = 2; m = 1; order = None; weighed = false })
unfolding read bytes
two_cases = refl

-- a file read into a matrix of so many codes and lists of so many weights, bytes of names and numbers of records
read_into : List ℕ → ℕ → ℕ → ℕ → ℕ → Outcome Header
unfolding read read_outcome ask_size full_size
read_into file codes weights names branches =
    with_header (read_outcome file (lent (replicate codes (pos 0)) (replicate weights 0) (replicate names 0) (replicate branches 0)))

-- lists of full size: the file decides
full_size_read : read_into (bytes "W\t1\t2\nV\t2\t3\nA\t0\t1\n") 16128 128 1024 375
    ≡ value (record { kind = Wagner; n = 1; m = 2; order = None; weighed = true })
unfolding read_into bytes
full_size_read = refl

-- and refuses
full_size_refused : read_into (bytes "W\t1\t2\nA\t0\n") 16128 128 1024 375 ≡ refused 8 2
unfolding read_into bytes
full_size_refused = refl

-- a list that is one too short or too long, the matrix, the weights, the names or the records: 12 with line 0, whatever the file holds
wrong_sizes : (file : List ℕ)
    → map (λ (sizes : ℕ × ℕ × ℕ × ℕ). read_into file sizes.0 sizes.1 sizes.2 sizes.3)
    ((16127, 128, 1024, 375) ∷ (16129, 128, 1024, 375) ∷ (16128, 127, 1024, 375) ∷ (16128, 129, 1024, 375) ∷ (16128, 128, 1023, 375)
    ∷ (16128, 128, 1025, 375) ∷ (16128, 128, 1024, 374) ∷ (16128, 128, 1024, 376) ∷ [])
    ≡ replicate 8 (refused 12 0)
unfolding read_into
wrong_sizes file = refl

-- lent lists of full size that hold sevens
sevens : LentLists
sevens = lent (replicate 16128 (pos 7)) (replicate 128 7) (replicate 1024 7) (replicate 375 7)

-- what they hold after a read of this text
after : String → LentLists
unfolding read read_outcome ask_size full_size lists_after job_in records_for stripes over
after text = lists_after (bytes text) sevens

-- the records of an `F` file: node, ancestor and 0, and behind them all as before
records-handed : (after "F\t3\t1\nA\t0\nB\t2\nC\t5\nC\t2\t4\nC\t3\t4\nC\t4\t1\n").branches
    ≡ 2 ∷ 4 ∷ 0 ∷ 3 ∷ 4 ∷ 0 ∷ 4 ∷ 1 ∷ 0 ∷ replicate 366 7
unfolding after sevens bytes zip_with numbers
records-handed = refl

-- a `W` file hands none
none-handed : (after "W\t2\t1\nA\t0\nB\t2\n").branches ≡ replicate 375 7
unfolding after sevens bytes zip_with numbers
none-handed = refl

-- an accepted `W` file with a `V` line and names of several bytes
abbrev named : String
named = "W\t2\t2\tclosest\nV\t2\t9\nAb\t0\t-1\nC_2\t5\t7\n"

-- its codes stand in the front of the rows of its taxa
codes-handed : (after named).matrix ≡ pos 0 ∷ negsuc 0 ∷ replicate 126 (pos 7) ++ pos 5 ∷ pos 7 ∷ replicate 15998 (pos 7)
unfolding after sevens bytes
codes-handed = refl

-- its weights in front of the lent ones
weights_handed : (after named).weights ≡ 2 ∷ 9 ∷ replicate 126 7
unfolding after sevens bytes
weights_handed = refl

-- and each of its names, padded to 16 bytes
names-handed : (after named).names ≡ 65 ∷ 98 ∷ replicate 14 0 ++ 67 ∷ 95 ∷ 50 ∷ replicate 13 0 ++ replicate 992 7
unfolding after sevens bytes
names-handed = refl

-- without a `V` line every character has weight 1
weights_unsaid : (after "W\t1\t3\nA\t0\t1\t2\n").weights ≡ 1 ∷ 1 ∷ 1 ∷ replicate 125 7
unfolding after sevens bytes
weights_unsaid = refl

-- and a file that is refused by 14 leaves all lists as they were
unchanged_by_fourteen : after "F\t2\t1\nA\t0\nB\t1\nC\t2\t2\n" ≡ sevens
unfolding after sevens bytes
unchanged_by_fourteen = refl
