-- A line of the listing, and the node that a field names.
use mathlib.Core.List.{List, [], ◌∷◌, ◌++◌, flat_map}
use Rattle.std.specs.Prelude.{true, false, ℕ, zero, suc, ◌-◌, leb, get_or}
use Rattle.text_form.specs.Bytes.{tab, line_feed, joined_by}
use Rattle.text_form.specs.Decimal.{digits_of}
use Rattle.text_form.specs.Text.{bytes}

-- a line: its fields parted by tabs, ended by a line feed
unfoldable pub line : List (List ℕ) → List ℕ
line fields = joined_by tab fields ++ (line_feed ∷ [])

-- lines joined: their bytes, one line after another
abbrev pub joined : List (List ℕ) → List ℕ
joined lines = flat_map (λ line. line) lines

-- what stands where there is no node
unfoldable pub hyphen : List ℕ
hyphen = bytes "-"

-- an HTU: `#` and its number among the HTUs
unfoldable pub htu_name : ℕ → List ℕ
htu_name number = bytes "#" ++ digits_of number

-- a node as it is printed: a taxon by name, an HTU by its number, and a hyphen for no node
unfoldable pub node_name : ℕ → List (List ℕ) → ℕ → List ℕ
node_name n names zero = hyphen
node_name n names (suc v) = elim (leb (suc v) n) [ true ↦ get_or names v [] | false ↦ htu_name (suc v - n) ]
