-- What the fields of a line say: a node by lent names, a hyphen for nothing, and the line of a total.
use Rattle.std.specs.Prelude.{List, ℕ, Option, Some, None, [], ◌∷◌}
use Rattle.file_form.specs.Written.{names_in}
use Rattle.lines.specs.declared.names.Names.{Names}
use Rattle.lines.specs.declared.names.Node.{Node}
use Rattle.listing_form.specs.Lines.{hyphen, node_name, line}
use Rattle.text_form.specs.Decimal.{digits_of}

-- the names of taxa that lent bytes hold
abbrev pub names_of : Names → List (List ℕ)
names_of names = names_in names.n names.lent.now

-- a node by these names
unfoldable pub node_text : Node → List ℕ
node_text node = node_name node.names.n (names_of node.names) node.v

-- what a field says, and a hyphen where there is none
unfoldable pub or_hyphen : {F : Type 0} → (F → List ℕ) → Option F → List ℕ
or_hyphen text (Some field) = text field
or_hyphen text None = hyphen

-- the line of a total, with the byte of its letter
unfoldable pub total_text : ℕ → ℕ → List ℕ
total_text letter total = line ((letter ∷ []) ∷ digits_of total ∷ [])
