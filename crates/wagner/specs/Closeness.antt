-- For the proofs of the private functions alone; no public contract cites this file.
-- The interval differences that are kept of each taxon and each interval, and what a placement changes of them.
use Rattle.tree_form.specs.Placing.{from_interval}
use Rattle.std.specs.Prelude.{◌≡◌, ◌≢◌, ◌⊎◌, ℕ, ◌<◌, ℤ, get_or, Option, Some}
use mathlib.Core.List.{List, [], Memᴰ}
use Rattle.matrix_form.specs.Shape.{row, MatrixLists, with_codes}
use Rattle.difference_form.specs.Rows.{difference, node_difference}
use Rattle.tree_form.specs.declared.placement.Placement.{Placement}
pub use Rattle.tree_form.specs.Ancestors.{tree_size}
use Rattle.branching.specs.Views.{ancestors}
use Rattle.tree_form.specs.Nodes.{nodes_in, other_nodes, Unplaced}
use Rattle.tree_form.specs.declared.order.Order.{Order}
use Rattle.tree_form.specs.declared.order.Order.TheVariants.{Closest}
use Rattle.wagner.specs.Order.{key_by, KeysRight}
use Rattle.wagner.specs.declared.closeness.Made.{Made}
use Rattle.matrix.specs.Lent.{lent_lists}

-- what is kept of a taxon and the interval with lower end c
unfoldable pub kept : List ℕ → ℕ → ℕ
kept own c = get_or own c 0

-- what is kept of taxon v; of row 0 it is of no taxon
unfoldable pub kept_of : List (List ℕ) → ℕ → List ℕ
kept_of table v = get_or table v []

-- the intervals of a tree, by their lower ends
abbrev pub intervals : ℕ → List ℕ → List ℕ
intervals n tree = nodes_in tree (other_nodes n)

-- what is kept of taxon v are its interval differences from the intervals of a tree
abbrev pub RowRight : MatrixLists → ℕ → ℕ → List ℕ → ℕ → List ℕ → Type 0
RowRight lists n m tree v own = (c : ℕ) → Memᴰ c (intervals n tree) → kept own c
    ≡ from_interval (difference lists.weights) (row lists.codes m) tree v c

-- the entries of the three nodes of a placement are written, of what is kept of taxon v
pub record KeptThree (lists : MatrixLists) (m : ℕ) (tree : List ℕ) (v : ℕ) (done : Placement)
    (old new : List ℕ) : Type 0 where
  pub here : (e : ℕ) → e < tree_size → (e ≡ done.taxon) ⊎ ((e ≡ done.htu) ⊎ (e ≡ done.lower))
      → kept new e ≡ from_interval (difference lists.weights) (row lists.codes m) tree v e
  pub else : (e : ℕ) → e ≢ done.taxon → e ≢ done.htu → e ≢ done.lower → kept new e ≡ kept old e

-- what a placement leaves for taxon v, which is not placed: it was not placed before, its advancement stays, there is an interval, and each
-- interval belongs to the placement or is an earlier one from which the taxon is as far as before
pub record Changed (lists : MatrixLists) (now : List ℤ) (n m : ℕ) (old new : List ℕ) (v : ℕ) (done : Placement) : Type 0 where
  pub unplaced : Unplaced n new v
  pub before : Unplaced n old v
  pub advancement : node_difference (difference lists.weights) (row now m) v 1
      ≡ node_difference (difference lists.weights) (row lists.codes m) v 1
  pub some_interval : Memᴰ done.taxon (intervals n new)
  pub each : (u : ℕ) → Memᴰ u (intervals n new)
      → ((u ≡ done.taxon) ⊎ ((u ≡ done.htu) ⊎ (u ≡ done.lower)))
      ⊎ (Memᴰ u (intervals n old) × (from_interval (difference lists.weights) (row now m) new v u
      ≡ from_interval (difference lists.weights) (row lists.codes m) old v u))

-- so for each taxon that is not placed
abbrev pub AllChanged : MatrixLists → List ℤ → ℕ → ℕ → List ℕ → List ℕ → Placement → Type 0
AllChanged lists now n m old new done = (v : ℕ) → Unplaced n new v → Changed lists now n m old new v done

-- after a placement: what is kept of taxon v is right again, and there is a key, which is right
pub record RowRenewed (lists : MatrixLists) (n m : ℕ) (new : List ℕ) (v : ℕ) (done : Placement) (old own : List ℕ)
    (r : Option ℕ) : Type 0 where
  pub again : (codes : List ℤ) (before : List ℕ) → Changed (with_codes lists codes) lists.codes n m before new v done
      → RowRight (with_codes lists codes) n m before v old → RowRight lists n m new v own
  pub key : (codes : List ℤ) (before : List ℕ) → Changed (with_codes lists codes) lists.codes n m before new v done
      → RowRight (with_codes lists codes) n m before v old
      → r ≡ Some (key_by Closest lists n m new v)

-- by closeness all that is kept of the taxa that are not placed is right
abbrev pub Table : Order → MatrixLists → ℕ → ℕ → List ℕ → List (List ℕ) → Type 0
Table order lists n m tree table =
    order ≡ Closest → (v : ℕ) → Unplaced n tree v → RowRight lists n m tree v (kept_of table v)

-- after a placement keys and what is kept are right again
pub record KeysNext
    (order : Order)
    (lists : MatrixLists)
    (n m : ℕ)
    (new : List ℕ)
    (done : Placement)
    (keys : List ℕ)
    (old : List (List ℕ))
    (r : List ℕ)
    (table : List (List ℕ)) : Type 0 where
  pub each : (codes : List ℤ) (before : List ℕ) → AllChanged (with_codes lists codes) lists.codes n m before new done
      → KeysRight order (with_codes lists codes) n m before keys
      → Table order (with_codes lists codes) n m before old → KeysRight order lists n m new r × Table order lists n m new table

-- the same of a placement that was made in a lent matrix: the three entries that are written of what is kept of taxon v
abbrev pub ThreeKept : Made → ℕ → List ℕ → List ℕ → Type 0
ThreeKept made v old new = KeptThree (lent_lists made.nodes.lent) made.nodes.lent.m
    (ancestors made.placed.now.tree) v made.placed.now.placement old new

-- what is kept of taxon v made right, with its key
abbrev pub RowMade : Made → ℕ → List ℕ → List ℕ → Option ℕ → Type 0
RowMade made v old own r = RowRenewed (lent_lists made.nodes.lent) made.nodes.lent.n made.nodes.lent.m
    (ancestors made.placed.now.tree) v made.placed.now.placement old own r

-- the keys, and what is kept, made right
abbrev pub KeysMade : Order → Made → List ℕ → List (List ℕ) → List ℕ → List (List ℕ) → Type 0
KeysMade order made keys old r table = KeysNext order (lent_lists made.nodes.lent) made.nodes.lent.n
    made.nodes.lent.m (ancestors made.placed.now.tree) made.placed.now.placement keys old r table
