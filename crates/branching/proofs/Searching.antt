-- The search for the nearest interval, node by node; and what is read and written of a lent matrix on the way.
use mathlib.Core.Path.{◌≡◌, sym, ap, ◌∙◌}
use mathlib.Core.List.{List, Memᴰ}
use Prim.Native.Nat.{ℕ, ◌≤◌, min}
use native.Mathlib.Omega.{arith}
use lib.IntN.{ℤ}
use lib.ListN.{length, take}
use Rattle.std.specs.Prelude.{Option, Some, None, MatchOption}
use Rattle.lists.specs.Over.{over}
use Rattle.lists.specs.Least.{least_of}
use Rattle.lists.proofs.Over.{over_item, length_over}
use Rattle.matrix_form.specs.Shape.{row, MatrixLists}
use Rattle.matrix_form.specs.NodeRows.{with_row}
use Rattle.matrix_form.proofs.Row.{row-most}
use Rattle.difference_form.specs.Rows.{medians, difference}
use Rattle.difference_form.proofs.Laws.Rows.{length-medians}
use Rattle.branching.specs.declared.tree.Tree.{Tree}
use Rattle.tree_form.specs.Ancestors.{ancestor}
use Rattle.branching.specs.Views.{ancestors}
use Rattle.tree_form.specs.Hanging.{hung, next_htu}
use Rattle.tree_form.specs.Within.{next_htu_within}
use Rattle.tree_form.proofs.Within.{next-plain}
use Rattle.tree_form.proofs.Nodes.{node_nodes_in}
use Rattle.tree_form.specs.Nodes.{nodes_in, other_nodes}
use Rattle.tree_form.specs.Placing.{median_row, from_interval, nearest_interval, hang}
use Rattle.branching.specs.Nearest.{NearestOf, Leaves}
use Rattle.branching.proofs.InMatrix.{one-row}

-- what `min_by_key` gives of the nodes in the tree is the nearest interval
pub nearest_found : (lists : MatrixLists) (n m : ℕ) (tree : List ℕ) (b : ℕ) (nodes : List ℕ) (r : Option ℕ)
    → nodes ≡ nodes_in tree (other_nodes n)
    → MatchOption r (least_of (from_interval (difference lists.weights) (row lists.codes m) tree b) nodes ≡ 0)
    (λ c. Memᴰ c nodes × (c ≡ least_of (from_interval (difference lists.weights) (row lists.codes m) tree b) nodes))
    → NearestOf lists n m tree b r
unfolding nearest_interval
nearest_found lists n m tree b nodes None all none =
    sym (ap (least_of (from_interval (difference lists.weights) (row lists.codes m) tree b)) all) ∙ none
nearest_found lists n m tree b nodes (Some c) all found =
    let node = node_nodes_in tree n c (rw all at found.0) in
    (omega (arith, node.0), found.1 ∙ ap (least_of (from_interval (difference lists.weights) (row lists.codes m) tree b)) all)

-- a taxon hung, by the parts that were found one after the other
pub hung_leaves : (lists : MatrixLists) (n m : ℕ) (tree : List ℕ) (b c upper htu added : ℕ) (new : List ℤ) → n ≤ 64
    → added ≡ from_interval (difference lists.weights) (row lists.codes m) tree b c → upper ≡ ancestor tree c → htu ≡ next_htu_within n tree
    → new ≡ with_row lists.codes htu (median_row (row lists.codes m) b c upper) → (larger : Tree) → ancestors larger ≡ hung tree b c htu
    → Leaves (hang (difference lists.weights) (row lists.codes m) n tree b c) (next_htu n tree) lists.codes new
    (record { tree = larger; placement = record { taxon = b; lower = c; upper = upper; htu = htu; added = added } })
unfolding hang
hung_leaves lists n m tree b c upper htu added new most is above next written larger hangs =
    let y : htu ≡ next_htu n tree = next ∙ next-plain n tree most in
    record {
      tree = rw y at hangs;
      placement = rw (is, above, y);
      matrix = rw (above, y) at written ∙ sym (one-row lists.codes (next_htu n tree) _);
    }

-- the shortest of three rows of at most 128 codes is no longer than a row that is written
pub htu_room : (codes : List ℤ) (m b count : ℕ) (xs ys zs made old htu : List ℤ) → m ≤ 128 → length old ≡ 128 → xs ≡ row codes m b
    → htu ≡ over 0 made old → count ≡ min (min (length xs) (length ys)) (length zs) → count ≤ length htu
htu_room codes m b count xs ys zs made old htu narrow size ex is all =
    let most : length xs ≤ m = rw ex (row-most codes m b) in
    let long : length htu ≡ 128 = ap length is ∙ length_over 0 made old ∙ size in
    omega arith

-- the medians of three rows, of at most 128 codes each, written over a row, cut to their number and written into the row of node y
pub written_row : (codes : List ℤ) (m b c e y count : ℕ) (xs ys zs old htu : List ℤ) → m ≤ 128 → length old ≡ 128
    → xs ≡ row codes m b → ys ≡ row codes m c → zs ≡ row codes m e
    → htu ≡ over 0 (medians xs ys zs) old → count ≡ min (min (length xs) (length ys)) (length zs)
    → with_row codes y (take count htu) ≡ with_row codes y (median_row (row codes m) b c e)
unfolding median_row
written_row codes m b c e y count xs ys zs old htu narrow size ex ey ez is all =
    let made : List ℤ = medians xs ys zs in
    let number : count ≡ length made = omega (arith, length-medians xs ys zs) in
    let most : length xs ≤ m = rw ex (row-most codes m b) in
    let cut : take count htu ≡ made = rw (number, is) (over_item 0 made old (omega (arith, length-medians xs ys zs))) in
    let rows : made ≡ medians (row codes m b) (row codes m c) (row codes m e) = rw (ex, ey, ez) in
    ap (with_row codes y) (cut ∙ rows)
