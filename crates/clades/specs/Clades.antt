-- Clades. A clade is a node and all nodes below it.
use Rattle.std.specs.Prelude.{ℕ}

-- a tip is a taxon; a fork is an HTU with its two descendants' clades, by rising node number
pub data Clade : Type 0 where
  tip : ℕ → Clade
  fork : ℕ → Clade → Clade → Clade
