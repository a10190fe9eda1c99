-- The Prim Network depends only on the differences of the taxa 1 to n: what stands in other rows of a matrix does not matter.
use mathlib.Core.Path.{◌≡◌, refl, sym, ap, ◌∙◌}
use mathlib.Core.List.Memᴰ
use mathlib.Core.List.{List, [], ◌∷◌, ◌++◌, Memᴰ}
use Prim.Native.Nat.{ℕ, zero, suc, ◌-◌}
use native.Mathlib.Omega.{arith}
use Rattle.lists.specs.Least.{first_least}
use Rattle.lists.proofs.Least.{first_least-mem, first_least_congr}
use Rattle.prim_form.specs.Network.{Link, unplaced, nearest_placed, distance, link, next, grow, network}
use Rattle.prim_form.specs.Rival.{IsTaxon}
use Rattle.prim_form.proofs.Unplaced.{not-unplaced, placed-taxon, added-taxon}
use Rattle.prim_form.proofs.Placing.{Step, done, placing, placing-step, grow-done, grow-next}

module _ (d d' : ℕ → ℕ → ℕ) (n : ℕ) (agree : (x y : ℕ) → IsTaxon n x → IsTaxon n y → d x y ≡ d' x y) where
  module _ (later : List ℕ) (all : (x : ℕ) → Memᴰ x later → IsTaxon n x) where
    -- the placed taxon nearest to v is the same
    nearest_agrees : (v : ℕ) → IsTaxon n v → nearest_placed d later v ≡ nearest_placed d' later v
    unfolding nearest_placed
    nearest_agrees v t =
        first_least_congr (d v) (d' v) 1 later (λ y m. agree v y t (placed-taxon n later all (omega arith) y m))

    -- so is the distance of v from the network
    distance_agrees : (v : ℕ) → IsTaxon n v → distance d later v ≡ distance d' later v
    unfolding distance nearest_placed
    distance_agrees v t =
        rw (nearest_agrees v t)
        (agree v (nearest_placed d' later v) t
        (placed-taxon n later all (omega arith) (nearest_placed d' later v) (first_least-mem (d' v) 1 later)))

    -- so is the next link
    next_agrees : (us : List ℕ) → ((v : ℕ) → Memᴰ v us → IsTaxon n v) → next d later us ≡ next d' later us
    unfolding next link
    next_agrees [] taxon = refl
    next_agrees (u ∷ us) taxon =
        let v : ℕ = first_least (distance d' later) u us in
        let t : IsTaxon n v = taxon v (first_least-mem (distance d' later) u us) in
        let same = first_least_congr (distance d later) (distance d' later) u us (λ y m. distance_agrees y (taxon y m)) in
        rw (same, nearest_agrees v t, distance_agrees v t)

  -- so are all the links that follow
  grow_agrees : (count : ℕ) (later : List ℕ) → ((x : ℕ) → Memᴰ x later → IsTaxon n x) → grow d n count later ≡ grow d' n count later
  unfolding grow
  grow_agrees zero later all = refl
  grow_agrees (suc count) later all = at (λ new h. grow_agrees count new h) (placing-step d' n later)
    where
      at : ((new : List ℕ) → ((x : ℕ) → Memᴰ x new → IsTaxon n x) → grow d n count new ≡ grow d' n count new)
          → Step d' n later
          → grow d n (suc count) later ≡ grow d' n (suc count) later
      at below (done e) = grow-done d n (suc count) later e ∙ sym (grow-done d' n (suc count) later e)
      at below (placing l p) =
          let rest = below (later ++ (l.taxon ∷ [])) (added-taxon n later l.taxon all p.fresh) in
          let same = next_agrees later all (unplaced n later) (λ v m. (not-unplaced n later v m).0) in
          grow-next d n count later l (same ∙ p.is_next)
          ∙ ap {B = List Link} (λ (ls : List Link). l ∷ ls) rest
          ∙ sym (grow-next d' n count later l p.is_next)

  -- two differences that agree on the taxa have the same Prim Network
  pub network_agrees : network d n ≡ network d' n
  unfolding network
  network_agrees = grow_agrees (n - 1) [] (λ x m. absurd (Memᴰ.not-nil m))
