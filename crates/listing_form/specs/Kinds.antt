-- The kinds of line that a listing has, each by what it is to say.
use Rattle.std.specs.Prelude.{List, [], ◌∷◌, Bool, true, false, Option, Some, None, ℕ, ℤ}
use Prim.Native.String.{String}
use Rattle.text_form.specs.Decimal.{digits_of, decimal}
use Rattle.text_form.specs.Text.{bytes}
use Rattle.prim_form.specs.Network.{Link}
use Rattle.tree_form.specs.declared.placement.Placement.{Placement}
use Rattle.consistency_form.specs.declared.index.Index.{Index}
use Rattle.listing_form.specs.Lines.{line, hyphen, node_name}

-- the line of a block's total, with the letter that begins it
unfoldable pub total_line : String → ℕ → List ℕ
total_line letter total = line (bytes letter ∷ digits_of total ∷ [])

-- `c`: quotient and remainder of the consistency index, or two hyphens where there is none
unfoldable pub index_line : Option Index → List ℕ
index_line (Some index) = line (bytes "c" ∷ digits_of index.quotient ∷ digits_of index.remainder ∷ [])
index_line None = line (bytes "c" ∷ hyphen ∷ hyphen ∷ [])

-- the one line of a refusal: `R`, its number, the line of the file
unfoldable pub refusal_line : ℕ → ℕ → List ℕ
refusal_line number at = line (bytes "R" ∷ digits_of number ∷ digits_of at ∷ [])

-- `+` for a branch that is marked, else `-`
unfoldable pub mark : Bool → List ℕ
mark true = bytes "+"
mark false = bytes "-"

module _ (n : ℕ) (names : List (List ℕ)) where
  -- `P`: taxon, taxon it joins, difference
  unfoldable pub prim_line : Link → List ℕ
  prim_line link = line (bytes "P" ∷ node_name n names link.taxon ∷ node_name n names link.joined ∷ digits_of link.length ∷ [])

  -- `W`: taxon, lower end, upper end, HTU, length added
  unfoldable pub wagner_line : Placement → List ℕ
  wagner_line p =
      line
      (bytes "W"
      ∷ node_name n names p.taxon
      ∷ node_name n names p.lower
      ∷ node_name n names p.upper
      ∷ node_name n names p.htu
      ∷ digits_of p.added
      ∷ [])

  -- `T`: node, immediate ancestor, fitted length, mark
  unfoldable pub branch_line : ℕ → ℕ → ℕ → Bool → List ℕ
  branch_line v above length marked =
      line (bytes "T" ∷ node_name n names v ∷ node_name n names above ∷ digits_of length ∷ mark marked ∷ [])

  -- `H`: HTU, character, lowest and highest state, chosen state
  unfoldable pub state_line : ℕ → ℕ → ℤ → ℤ → ℤ → List ℕ
  state_line v j low high chosen =
      line (bytes "H" ∷ node_name n names v ∷ digits_of j ∷ decimal low ∷ decimal high ∷ decimal chosen ∷ [])
