-- Values of nodes, by node number.
use Rattle.std.specs.Prelude.{List, [], ◌∷◌, cond, ℕ, eqb}

-- values of nodes with the nodes' numbers; of a clade, those of the top node, of the left side and of the right side, in this order
abbrev pub ByNode : Type 0 → Type 0
ByNode A = List (ℕ × A)

-- the value of node v, and `otherwise` where it has none
unfoldable pub value_at : {A : Type 0} → A → ByNode A → ℕ → A
value_at otherwise [] v = otherwise
value_at otherwise (entry ∷ values) v =
    let later = value_at otherwise values v in
    cond (eqb entry.0 v) entry.1 later
