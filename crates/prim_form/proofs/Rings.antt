-- Networks that count as rivals, and such as do not: links are gone along in both directions, and rings, repeats and a taxon linked to
-- itself are allowed; a taxon that nothing links is not reached; and a network with further nodes.
use mathlib.Core.Path.{◌≡◌, refl}
use mathlib.Core.List.Memᴰ
use mathlib.Core.List.{List, [], ◌∷◌, Memᴰ}
use mathlib.Core.Bool.{Bool, true, ◌&&◌}
use mathlib.Core.Logic.{inl, inr, by_cases}
use Prim.Native.Nat.{ℕ, ◌+◌}
use native.Mathlib.Omega.{arith}
use native.Mathlib.Decide.{ℕ_discrete}
use Rattle.lists.specs.Tests.{every}
use Rattle.lists.proofs.Both.{and_left, and_right}
use Rattle.lists.proofs.Every.{every_iff}
use Rattle.matrix_form.specs.Questions.{one_to}
use Rattle.matrix_form.proofs.Passing.{one_to-true}
use Rattle.prim_form.specs.Rival.{Joins, Reached, start, step, IsTaxon, IsNode, ConnectedWith, Connected}

-- a link is gone along its direction
forwards : Joins {A = ℕ} ((2, 3) ∷ []) 2 3
forwards = inl (Memᴰ.head refl)

-- and against its direction
backwards : Joins {A = ℕ} ((2, 3) ∷ []) 3 2
backwards = inr (Memᴰ.head refl)

-- over no links only row 1 is reached
only_row1 : {v : ℕ} → Reached (λ x. x ≡ 1) [] v → v ≡ 1
only_row1 (start e) = e
only_row1 (step r (inl m)) = absurd (Memᴰ.not-nil m)
only_row1 (step r (inr m)) = absurd (Memᴰ.not-nil m)

-- so two taxa that nothing links are no connected network
unlinked : Connected 2 [] → ⊥
unlinked c = let same : ◌≡◌ {A = ℕ} 2 1 = only_row1 (c.reached 2 (omega arith, omega arith)) in omega arith

-- a ring of three taxa, with one link twice and one from a taxon to itself
abbrev ring : List (ℕ × ℕ)
ring = (2, 1) ∷ (2, 3) ∷ (1, 3) ∷ (2, 3) ∷ (2, 2) ∷ []

-- row 2 is reached against the direction of its link
second : Reached (λ x. x ≡ 1) ring 2
second = step (start refl) (inr (Memᴰ.head refl))

-- row 3 is reached along the direction of its link
third : Reached (λ x. x ≡ 1) ring 3
third = step second (inl (Memᴰ.tail (Memᴰ.head refl)))

-- a link between two of so many nodes
abbrev both_nodes : ℕ → (ℕ × ℕ) → Bool
both_nodes nodes link = one_to nodes link.0 && one_to nodes link.1

-- links of which a test finds that each is between two nodes
nodes_between : (n count : ℕ) (links : List (ℕ × ℕ)) → every (both_nodes (n + count)) links ≡ true
    → (x y : ℕ) → Memᴰ (x, y) links → IsNode n count x × IsNode n count y
nodes_between n count links e x y m =
    let both : both_nodes (n + count) (x, y) ≡ true = (every_iff (both_nodes (n + count)) links).0 e (x, y) m in (
      one_to-true (n + count) x (and_left (one_to (n + count) x) (one_to (n + count) y) both),
      one_to-true (n + count) y (and_right (one_to (n + count) x) (one_to (n + count) y) both),
    )

-- of three taxa each is reached if the second and the third are
three_reached : (links : List (ℕ × ℕ)) → Reached (λ x. x ≡ 1) links 2 → Reached (λ x. x ≡ 1) links 3
    → (v : ℕ) → IsTaxon 3 v → Reached (λ x. x ≡ 1) links v
three_reached links second third v t =
    by_cases
    (ℕ_discrete v 1)
    (λ one. start one)
    (λ more. by_cases (ℕ_discrete v 2) (λ two. rw two second) (λ last. let e : v ≡ 3 = omega arith in rw e third))

-- the ring is connected, with more links than a network needs
ring_connected : Connected 3 ring
unfolding every one_to
ring_connected = record { between = nodes_between 3 0 ring refl; reached = three_reached ring second third }

-- a star: three taxa that are linked only to node 4, and node 5, which nothing leads to
abbrev star : List (ℕ × ℕ)
star = (4, 1) ∷ (2, 4) ∷ (3, 4) ∷ (5, 5) ∷ []

-- its taxa are reached over node 4
star_reached : (v : ℕ) → IsTaxon 3 v → Reached (λ x. x ≡ 1) star v
star_reached = three_reached star
    (step centre (inr (Memᴰ.tail (Memᴰ.head refl))))
    (step centre (inr (Memᴰ.tail (Memᴰ.tail (Memᴰ.head refl)))))
  where
    centre : Reached (λ x. x ≡ 1) star 4
    centre = step (start refl) (inr (Memᴰ.head refl))

-- so with two further nodes the star is a connected network of three taxa
star_connected : ConnectedWith 3 2 star
unfolding every one_to
star_connected = record { between = nodes_between 3 2 star refl; reached = star_reached }

-- and with one or none it is no network: node 5 is linked
star_beyond : ConnectedWith 3 1 star → ⊥
star_beyond c =
    let ends = c.between 5 5 (Memᴰ.tail (Memᴰ.tail (Memᴰ.tail (Memᴰ.head refl)))) in
    omega (arith, ends.0)
