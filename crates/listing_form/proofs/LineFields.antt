-- A line by its fields: the first one, a tab before each other, and the line feed.
use mathlib.Core.Path.{◌≡◌, refl, ap, ◌∙◌}
use mathlib.Core.List.{List, [], ◌∷◌, ◌++◌, append_assoc}
use Prim.Native.Nat.{ℕ}
use Rattle.text_form.specs.Bytes.{tab, line_feed, joined_by}
use Rattle.listing_form.specs.Lines.{line}

-- what stands behind the first field of a line: a tab before each field, and the line feed
unfoldable pub behind : List (List ℕ) → List ℕ
behind [] = line_feed ∷ []
behind (field ∷ fields) = (tab ∷ field) ++ behind fields

-- a line is its first field and what stands behind it
pub line_fields : (field : List ℕ) (fields : List (List ℕ)) → line (field ∷ fields) ≡ field ++ behind fields
unfolding line joined_by behind
line_fields field [] = refl
line_fields field (next ∷ fields) =
    append_assoc field (tab ∷ joined_by tab (next ∷ fields)) (line_feed ∷ [])
    ∙ ap (λ rest. field ++ tab ∷ rest) (line_fields next fields)
