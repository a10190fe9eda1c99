-- The next taxon by closeness is the unplaced one whose placement adds least, the lower row first among equals; and the pair that names it
-- names the interval on which it is placed.
use mathlib.Core.Path.{◌≡◌, refl, sym, ap, ◌∙◌}
use mathlib.Core.List.{List, [], ◌∷◌, ◌++◌, map, flat_map}
use Prim.Native.Nat.{ℕ}
use native.Mathlib.Omega.{arith}
use lib.IntN.{ℤ}
use Rattle.tree_form.proofs.Placing.{added_on}
use Rattle.matrix_form.specs.NodeRows.{row_of}
use Rattle.lists.specs.Least.{first_least, least_of}
use Rattle.lists.specs.Numbers.{numbers}
use Rattle.lists.specs.Pairs.{pairs}
use Rattle.lists.proofs.Least.{least_of_congr, first_least_congr, first_least-mem}
use Rattle.lists.proofs.Pairs.{least_pair, pairs-none}
use Rattle.tree_form.specs.Nodes.{nodes_in, nodes_out, other_nodes}
use Rattle.tree_form.specs.Placing.{from_interval, nearest_interval, link_first, place_on, place}
use Rattle.tree_form.proofs.Nodes.{node_nodes_in}
use Rattle.wagner_form.specs.Next.{hangings, taxon_of, advancement, by_advancement, by_closeness}

module _ (d : List ℤ → List ℤ → ℕ) (n : ℕ) (tree : List ℕ) (rows : List (List ℤ)) where
  -- the taxa not yet placed
  abbrev taxa : List ℕ
  taxa = nodes_out tree (numbers 1 n)

  -- the interval difference of a pair
  abbrev apart : ℕ × ℕ → ℕ
  apart pair = from_interval d (row_of rows) tree pair.0 pair.1

  -- the length that the placement of a taxon adds
  abbrev pub adds : ℕ → ℕ
  adds b = (place d (row_of rows) n tree b).placement.added

  -- where there is no interval, it is the advancement
  adds-first : nodes_in tree (other_nodes n) ≡ [] → (b : ℕ) → adds b ≡ advancement d rows b
  unfolding place place_on nearest_interval least_of link_first advancement
  adds-first none b =
      ap (λ (ends : List ℕ). (place_on d (row_of rows) n tree b (least_of (from_interval d (row_of rows) tree b) ends)).placement.added) none

  -- where there are intervals, it is that from the nearest one
  adds-later : (c : ℕ) (cs : List ℕ) → nodes_in tree (other_nodes n) ≡ c ∷ cs → (b : ℕ)
      → apart (b, first_least (from_interval d (row_of rows) tree b) c cs) ≡ adds b
  unfolding place nearest_interval least_of
  adds-later c cs some b =
      let z : ℕ = first_least (from_interval d (row_of rows) tree b) c cs in
      let low = node_nodes_in tree n z (rw some (first_least-mem (from_interval d (row_of rows) tree b) c cs)) in
      sym (ap (λ (ends : List ℕ). (place_on d (row_of rows) n tree b (least_of (from_interval d (row_of rows) tree b) ends)).placement.added) some
      ∙ added_on d n tree (row_of rows) b z (omega (arith, low.0)))

  -- the taxon of the first of the least pairs, from no interval
  of_none : nodes_in tree (other_nodes n) ≡ [] → taxon_of apart (pairs taxa []) (least_of (advancement d rows) taxa) ≡ least_of adds taxa
  unfolding taxon_of
  of_none none =
      ap (λ (all : List (ℕ × ℕ)). taxon_of apart all (least_of (advancement d rows) taxa)) (pairs-none taxa)
      ∙ least_of_congr (advancement d rows) adds taxa (λ b _. sym (adds-first none b))

  -- from some
  of_some : (c : ℕ) (cs : List ℕ) → nodes_in tree (other_nodes n) ≡ c ∷ cs → (bs : List ℕ)
      → taxon_of apart (pairs bs (c ∷ cs)) (least_of (advancement d rows) bs) ≡ least_of adds bs
  unfolding taxon_of least_of pairs flat_map
  of_some c cs some [] = refl
  of_some c cs some (b ∷ bs) =
      ap (λ (pair : ℕ × ℕ). pair.0) (least_pair apart c cs b bs)
      ∙ first_least_congr (λ (x : ℕ). apart (x, first_least (from_interval d (row_of rows) tree x) c cs)) adds b bs (λ x _. adds-later c cs some x)

  -- the next taxon by closeness is the one whose placement adds least
  pub closeness_least : by_closeness d n tree rows ≡ least_of adds taxa
  unfolding by_closeness by_advancement hangings
  closeness_least = go (nodes_in tree (other_nodes n)) refl
    where
      go : (ends : List ℕ) → nodes_in tree (other_nodes n) ≡ ends
          → taxon_of apart (pairs taxa ends) (least_of (advancement d rows) taxa) ≡ least_of adds taxa
      go [] none = of_none none
      go (c ∷ cs) some = of_some c cs some taxa

  -- the pair that names it names the interval on which it is placed
  pub closest_pair : (b c : ℕ) (bs cs : List ℕ) → taxa ≡ b ∷ bs → nodes_in tree (other_nodes n) ≡ c ∷ cs
      → first_least apart (b, c) (map (λ (e : ℕ). (b, e)) cs ++ pairs bs (c ∷ cs))
      ≡ (by_closeness d n tree rows, nearest_interval d (row_of rows) n tree (by_closeness d n tree rows))
  unfolding nearest_interval least_of
  closest_pair b c bs cs left some =
      let next : by_closeness d n tree rows ≡ first_least (λ (x : ℕ). apart (x, first_least (from_interval d (row_of rows) tree x) c cs)) b bs =
      closeness_least
      ∙ ap (least_of adds) left
      ∙ sym (first_least_congr (λ (x : ℕ). apart (x, first_least (from_interval d (row_of rows) tree x) c cs)) adds b bs
      (λ x _. adds-later c cs some x)) in
      let nearest : (x : ℕ) → first_least (from_interval d (row_of rows) tree x) c cs ≡ nearest_interval d (row_of rows) n tree x =
      λ x. sym (ap (least_of (from_interval d (row_of rows) tree x)) some) in
      least_pair apart c cs b bs
      ∙ ap (λ (e : ℕ). (first_least (λ (x : ℕ). apart (x, first_least (from_interval d (row_of rows) tree x) c cs)) b bs, e)) (nearest _)
      ∙ ap (λ (x : ℕ). (x, nearest_interval d (row_of rows) n tree x)) (sym next)
