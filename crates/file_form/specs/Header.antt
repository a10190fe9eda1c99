-- The header of a matrix file: what its first lines say, the questions put to them (3, 4, and document 02's 15 between these and 16 behind
-- them), and how many lines they are.
use Rattle.std.specs.Prelude.{List, [], ◌∷◌, Bool, false, ◌&&◌, ◌||◌, cond, ℕ, suc, ◌+◌, leb, length, get_or, drop, Option, None, Some}
use Rattle.lists.specs.Tests.{every, same_numbers as same_text}
use Rattle.matrix_form.specs.Outcomes.{ask, Outcome, value, on_line}
use Rattle.matrix_form.specs.Questions.{within_limits}
use Rattle.matrix_form.specs.declared.refusal.Refusal.TheVariants.{FirstLine, UnknownOrder, BeyondLimits}
use Rattle.matrix_form.specs.Outcomes.{Asked}
use Rattle.std.specs.Prelude.{Ok}
use Rattle.file_form.specs.declared.header.Header.{Header}
use Rattle.tree_form.specs.declared.order.Order.{Order}
use Rattle.tree_form.specs.declared.order.Order.TheVariants.{Advance, Closest}
use Rattle.file_form.specs.Words.{word_advance, word_closest}
use Rattle.text_form.specs.Decimal.{number_form, number_of}
use Rattle.file_form.specs.Kinds.{kind_form, is_kind, kind_said}
use Rattle.file_form.specs.Optional.{Optional, all_there, all_taken, ask_optionals}
use Rattle.file_form.specs.Weights.{weight_optional}
use Rattle.text_form.specs.Lines.{fields_of}

-- the optional lines of a header, in their order
abbrev pub optional_lines : List Optional
optional_lines = weight_optional ∷ []

-- which of them are there, as a header says it
abbrev pub lines_there : Header → List Bool
lines_there header = header.weighed ∷ []

-- the word for the order that a field says, if it is one
abbrev pub order_word : List ℕ → Option Order
order_word word = cond (same_text word word_advance) (Some Advance) (cond (same_text word word_closest) (Some Closest) None)

-- the word that a field for the order says, if there is one
abbrev pub order_said : List (List ℕ) → Option Order
order_said [] = None
order_said (word ∷ fields) = order_word word

-- the word for the order that line 1 carries: that of its fourth field
unfoldable pub order_in : List (List ℕ) → Option Order
order_in fields = order_said (drop 3 fields)

-- what the fields of line 1 say: the first is the word of the kind, n is the second, m the third, and a fourth is the word for the order;
-- and which optional lines stand behind it
abbrev pub header_from : List (List ℕ) → List (List ℕ) → Header
header_from fields behind =
    record {
      kind = kind_said (get_or fields 0 []);
      n = number_of (get_or fields 1 []);
      m = number_of (get_or fields 2 []);
      order = order_in fields;
      weighed = get_or (all_there (kind_said (get_or fields 0 [])) optional_lines behind) 0 false;
    }

-- the fields of line 1
abbrev pub first_fields : List (List ℕ) → List (List ℕ)
first_fields lines = fields_of (get_or lines 0 [])

-- what the header of a file's lines says, read without a question
unfoldable pub header_in : List (List ℕ) → Header
header_in lines = header_from (first_fields lines) (drop 1 lines)

-- how many lines a header takes: line 1, and the optional lines that are there
abbrev pub header_lines : Header → ℕ
header_lines header = suc (all_taken (lines_there header))

-- the number of the line of row k, counted from 1
abbrev pub row_line : Header → ℕ → ℕ
row_line header k = header_lines header + k

-- the lines behind a header
abbrev pub behind_header : Header → List (List ℕ) → List (List ℕ)
behind_header header lines = drop (header_lines header) lines

-- three fields, and perhaps a fourth where the kind allows it: the first is the word of a kind, and the next two are numbers
unfoldable pub first_form : List (List ℕ) → Bool
first_form fields =
    (leb 3 (length fields) && leb (length fields) (kind_form (kind_said (get_or fields 0 []))).most_fields)
    && (is_kind (get_or fields 0 []) && (number_form (get_or fields 1 []) && number_form (get_or fields 2 [])))

-- line 1 is ended by a line feed and has the right form
unfoldable pub first_line_form : List (List ℕ) → Bool
first_line_form [] = false
first_line_form (behind ∷ []) = false
first_line_form (line ∷ next ∷ lines) = first_form (fields_of line)

-- one of the two words for the order of placing
unfoldable pub is_order : List ℕ → Bool
is_order word = same_text word word_advance || same_text word word_closest

-- a fourth field, if there is one, is such a word
unfoldable pub order_known : List (List ℕ) → Bool
order_known fields = every is_order (drop 3 fields)

-- the questions put to line 1: its form, the word for the order, the limits
unfoldable pub ask_first_line : List (List ℕ) → Asked
ask_first_line lines =
    ask (first_line_form lines) FirstLine
    (ask (order_known (first_fields lines)) UnknownOrder
    (ask (within_limits (header_in lines).n (header_in lines).m) BeyondLimits (Ok tt)))

-- the header of a file's lines, if its questions pass: those put to line 1, and those put to the optional lines from line 2 on
unfoldable pub ask_header : List (List ℕ) → Outcome Header
ask_header lines =
    let header = header_in lines in
    on_line 1 (ask_first_line lines) (ask_optionals header.m optional_lines (lines_there header) 2 (drop 1 lines) (value header))
