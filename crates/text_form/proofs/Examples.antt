-- Lines and fields parted, and numbers written and read, computed.
use mathlib.Core.Path.{◌≡◌, refl}
use mathlib.Core.Bool.{true, not}
use mathlib.Core.List.{[], ◌∷◌, map}
use lib.IntN.{pos, negsuc}
use Rattle.lists.specs.Tests.{every}
use Rattle.text_form.specs.Bytes.{is_digit, is_letter, pieces_at, joined_by, piece_length, first_piece, behind_piece, tab}
use Rattle.text_form.specs.Lines.{lines_of, fields_of, ended}
use Rattle.text_form.specs.Decimal.{digits_in, digits_of, decimal, no_leading_zero, number_form, number_from, number_of, code_form, code_of}
use Rattle.text_form.specs.Text.{bytes}

-- two lines, and what stands behind the last line feed
two_lines : lines_of (bytes "ab\nc\n") ≡ bytes "ab" ∷ bytes "c" ∷ [] ∷ []
unfolding lines_of pieces_at bytes
two_lines = refl

-- the same two lines put together
two_ended : ended (bytes "ab" ∷ bytes "c" ∷ []) ≡ bytes "ab\nc\n"
unfolding ended bytes
two_ended = refl

-- three fields, the second of them empty
three_fields : fields_of (bytes "ab\t\tc") ≡ bytes "ab" ∷ [] ∷ bytes "c" ∷ []
unfolding fields_of pieces_at bytes
three_fields = refl

-- and joined again
three_joined : joined_by tab (bytes "ab" ∷ [] ∷ bytes "c" ∷ []) ≡ bytes "ab\t\tc"
unfolding joined_by bytes
three_joined = refl

-- the first field and what stands behind it
first_behind : (first_piece tab (bytes "ab\t\tc") ≡ bytes "ab") × (behind_piece tab (bytes "ab\t\tc") ≡ bytes "\tc")
unfolding first_piece behind_piece piece_length bytes
first_behind = (refl, refl)

-- the letters end at `Z` and `z`, and begin at `A` and `a`
letters : (every is_letter (bytes "AZaz") ≡ true) × (every (λ byte. not (is_letter byte)) (bytes "@[`{") ≡ true)
unfolding is_letter every bytes
letters = (refl, refl)

-- texts that are codes
codes_formed : (every code_form (map bytes ("0" ∷ "-1" ∷ "10" ∷ "999999" ∷ "-999999" ∷ [])) ≡ true)
unfolding code_form number_form is_digit no_leading_zero number_of number_from every bytes
codes_formed = refl

-- texts that are none: empty, a minus alone, `-0`, a zero in front, a plus, seven digits
codes_unformed : every (λ text. not (code_form (bytes text))) ("" ∷ "-" ∷ "-0" ∷ "01" ∷ "-01" ∷ "+1" ∷ "1000000" ∷ "1a" ∷ []) ≡ true
unfolding code_form number_form is_digit no_leading_zero number_of number_from every bytes
codes_unformed = refl

-- codes read
codes_read : map code_of (map bytes ("0" ∷ "-1" ∷ "905" ∷ [])) ≡ pos 0 ∷ negsuc 0 ∷ pos 905 ∷ []
unfolding code_of number_of number_from bytes
codes_read = refl

-- codes written
codes_written : map decimal (pos 0 ∷ negsuc 11 ∷ pos 905 ∷ []) ≡ map bytes ("0" ∷ "-12" ∷ "905" ∷ [])
unfolding decimal digits_of digits_in bytes
codes_written = refl

-- a long number is written at once
long_number : digits_of 9876543210123456789 ≡ bytes "9876543210123456789"
unfolding digits_in digits_of bytes
long_number = refl
