-- Bytes of ASCII, and bytes parted at a separator. A byte is a number, a text is a list of bytes.
use Rattle.std.specs.Prelude.{List, [], ◌∷◌, ◌++◌, Bool, true, false, ◌&&◌, ◌||◌, cond, ℕ, suc, leb, eqb, take, drop}

-- tab
abbrev pub tab : ℕ
tab = 9

-- line feed
abbrev pub line_feed : ℕ
line_feed = 10

-- `-`
abbrev pub minus : ℕ
minus = 45

-- `_`
abbrev pub underscore : ℕ
underscore = 95

-- `0` to `9`
unfoldable pub is_digit : ℕ → Bool
is_digit byte = leb 48 byte && leb byte 57

-- `A` to `Z` or `a` to `z`
unfoldable pub is_letter : ℕ → Bool
is_letter byte = (leb 65 byte && leb byte 90) || (leb 97 byte && leb byte 122)

-- a byte that may stand in a name: a letter, a digit or `_`
unfoldable pub in_name : ℕ → Bool
in_name byte = is_letter byte || (is_digit byte || eqb byte underscore)

-- a byte put in front of the first piece (of a text's pieces there is always one)
abbrev pub before_first : ℕ → List (List ℕ) → List (List ℕ)
before_first byte [] = (byte ∷ []) ∷ []
before_first byte (piece ∷ pieces) = (byte ∷ piece) ∷ pieces

-- a text parted at each separator: one piece more than it has separators
unfoldable pub pieces_at : ℕ → List ℕ → List (List ℕ)
pieces_at separator [] = [] ∷ []
pieces_at separator (byte ∷ bytes) =
    let rest = pieces_at separator bytes in
    elim (eqb byte separator) [ true ↦ [] ∷ rest | false ↦ before_first byte rest ]

-- the length of a text's first piece: the index of the first separator, or the text's length where there is none
unfoldable pub piece_length : ℕ → List ℕ → ℕ
piece_length separator [] = 0
piece_length separator (byte ∷ bytes) = cond (eqb byte separator) 0 (suc (piece_length separator bytes))

-- the first piece of a text
unfoldable pub first_piece : ℕ → List ℕ → List ℕ
first_piece separator text = take (piece_length separator text) text

-- what stands behind the first separator of a text: nothing where there is none
unfoldable pub behind_piece : ℕ → List ℕ → List ℕ
behind_piece separator text = drop (suc (piece_length separator text)) text

-- pieces put together, with one separator between two of them
unfoldable pub joined_by : ℕ → List (List ℕ) → List ℕ
joined_by separator [] = []
joined_by separator (piece ∷ []) = piece
joined_by separator (piece ∷ next ∷ pieces) = piece ++ separator ∷ joined_by separator (next ∷ pieces)
