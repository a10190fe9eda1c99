-- No connected network is shorter than the Prim Network (document 01, "The three rivals"), under any symmetric difference.
use mathlib.Core.Path.{◌≡◌}
use mathlib.Core.List.Memᴰ
use mathlib.Core.List.{List, [], ◌∷◌, ◌++◌, Memᴰ}
use mathlib.Core.Logic.{inl, inr}
use Prim.Native.Nat.{ℕ, zero, suc, ◌-◌, ◌≤◌}
use native.Mathlib.Omega.{arith}
use Rattle.lists.specs.Sums.{sum_over}
use Rattle.prim_form.specs.Network.{network_length, grow, network}
use Rattle.prim_form.specs.Rival.{Joins, Reached, links_length, IsTaxon, Connected, Shortest}
use Rattle.prim_form.proofs.Further.{connected_iff}
use Rattle.prim_form.proofs.Links.{Enlarged, Leaving, Spared, exchange, Reached_mono, others, of_others, links_length-others}
use Rattle.prim_form.proofs.Placing.{Step, done, placing, placing-step, grow-done, grow-next, network-link}
use Rattle.prim_form.proofs.Connected.{network-connected, network_sum}
use Rattle.prim_form.proofs.Unplaced.{decide_mem, IsPlaced, not-placed, not-unplaced}

-- the placed taxa and one more
enlarged : (later : List ℕ) (v x : ℕ) → Enlarged (IsPlaced later) v x → IsPlaced (later ++ (v ∷ [])) x
enlarged later v x (inl m) = Memᴰ.append_left (v ∷ []) m
enlarged later v x (inr e) = Memᴰ.append_right (1 ∷ later) (Memᴰ.head e)

-- links between taxa over which every taxon is reached from the placed ones
record Joined (n : ℕ) (later : List ℕ) (links : List (ℕ × ℕ)) : Type 0 where
  between : (x y : ℕ) → Memᴰ (x, y) links → IsTaxon n x × IsTaxon n y
  reached : (v : ℕ) → IsTaxon n v → Reached (IsPlaced later) links v

module _ {n : ℕ} where
  -- what a link joins to a node is a taxon
  joins_taxon : {later : List ℕ} {links : List (ℕ × ℕ)} {x y : ℕ} → Joined n later links → Joins links x y → IsTaxon n y
  joins_taxon {x = x} {y = y} j (inl m) = (j.between x y m).1
  joins_taxon {x = x} {y = y} j (inr m) = (j.between y x m).0

  -- once the next taxon v is placed, a link that left the placed taxa can be taken out
  joined-next : {later : List ℕ} {links : List (ℕ × ℕ)} {v : ℕ} → Joined n later links
      → (f : Leaving (IsPlaced later) links)
      → Spared (IsPlaced later) links f v
      → Joined n (later ++ (v ∷ [])) (others f.joins)
  joined-next {later} {links} {v} j f still = record {
    between = λ x y m. j.between x y (of_others f.joins m);
    reached = λ z t. Reached_mono (enlarged later v) (λ x y k. k) (still z (j.reached z t));
  }

module _ (d : ℕ → ℕ → ℕ) (symmetric : (x y : ℕ) → d x y ≡ d y x) (n : ℕ) where
  -- the links that still place taxa are at most as long as any links over which every taxon is reached from the placed ones
  rest-least : (count : ℕ) (later : List ℕ) (links : List (ℕ × ℕ))
      → Joined n later links
      → network_length (grow d n count later) ≤ links_length d links
  unfolding grow network_length sum_over
  rest-least zero later links j = omega arith
  rest-least (suc count) later links j = at (λ new kept h. rest-least count new kept h) (placing-step d n later)
    where
      at : ((new : List ℕ) (kept : List (ℕ × ℕ)) → Joined n new kept → network_length (grow d n count new) ≤ links_length d kept)
          → Step d n later
          → network_length (grow d n (suc count) later) ≤ links_length d links
      at below (done e) = rw (grow-done d n (suc count) later e) (omega arith)
      at below (placing l p) =
          let v = l.taxon in
          let fresh : IsTaxon n v × ¬ IsPlaced later v = not-unplaced n later v p.fresh in
          let ex = exchange (λ x. decide_mem x (1 ∷ later)) (j.reached v fresh.0) fresh.1 in
          let f = ex.0 in
          let outer-unplaced = not-placed n later f.outer (joins_taxon j f.joins) f.is_out in
          let first_short : l.length ≤ d f.outer f.inner = p.least f.outer f.inner outer-unplaced f.is_in in
          let rest-short = below (later ++ (v ∷ [])) (others f.joins) (joined-next j f ex.1) in
          let sum = links_length-others d symmetric f.joins in
          let turn : d f.inner f.outer ≡ d f.outer f.inner = symmetric f.inner f.outer in
          rw (grow-next d n count later l p.is_next) (omega arith)

  -- no connected network is shorter
  pub network-least : (links : List (ℕ × ℕ)) → Connected n links → network_length (network d n) ≤ links_length d links
  unfolding network
  network-least links c =
      rest-least (n - 1) [] links
      (record {
        between = (connected_iff.0 c).0;
        reached = λ v t. Reached_mono (λ x e. Memᴰ.head e) (λ x y k. k) (c.reached v t);
      })

-- the Prim Network is a connected network, each link as long as its taxa differ, of length its total, and no connected network is shorter
pub shortest : (d : ℕ → ℕ → ℕ) → ((x y : ℕ) → d x y ≡ d y x) → (n : ℕ) → Shortest d n
shortest d symmetric n = record {
  ours = network-connected d n;
  link_lengths = network-link d n;
  length = network_sum d n;
  least = network-least d symmetric n;
}
