-- The words of a matrix file, in bytes.
use Rattle.std.specs.Prelude.{List, [], ◌∷◌, ℕ}

-- the word `W`
abbrev pub word_w : List ℕ
word_w = 87 ∷ []

-- the word `F`
abbrev pub word_f : List ℕ
word_f = 70 ∷ []

-- the word `C`
abbrev pub word_c : List ℕ
word_c = 67 ∷ []

-- the word `advance`
abbrev pub word_advance : List ℕ
word_advance = 97 ∷ 100 ∷ 118 ∷ 97 ∷ 110 ∷ 99 ∷ 101 ∷ []

-- the word `closest`
abbrev pub word_closest : List ℕ
word_closest = 99 ∷ 108 ∷ 111 ∷ 115 ∷ 101 ∷ 115 ∷ 116 ∷ []
