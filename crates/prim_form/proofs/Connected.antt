-- The Prim Network is itself a connected network: its links are between taxa, and over them every taxon is reached from row 1.
-- Its length is the total, and is bounded by the differences of the taxa.
use mathlib.Core.Path.{◌≡◌, refl, sym, ap, subst}
use mathlib.Core.List.Memᴰ
use mathlib.Core.List.{List, [], ◌∷◌, ◌++◌, Memᴰ}
use mathlib.Core.Logic.{◌⊎◌, inl, inr}
use Prim.Native.Nat.{ℕ, ◌-◌, ◌*◌, ◌≤◌}
use native.Mathlib.Omega.{arith}
use Rattle.lists.proofs.Sums.{sum_most}
use Rattle.lists.specs.Sums.{sum_over}
use Rattle.prim_form.specs.Network.{Link, network_length, network}
use Rattle.prim_form.specs.Rival.{Reached, start, step, links_length, IsTaxon, Connected, link_ends}
use Rattle.prim_form.proofs.Further.{connected_iff}
use Rattle.prim_form.proofs.Placing.{Grown, complete, follows, network-grown, network-length, network-link}
use Rattle.prim_form.proofs.Unplaced.{decide_mem, IsPlaced, not-placed, not-unplaced, placed-taxon, added-taxon}

module _ {d : ℕ → ℕ → ℕ} {n : ℕ} where
  -- the sum of the differences of the links' ends is the total
  grown-total : {later : List ℕ} {links : List Link} → Grown d n later links → links_length d (link_ends links) ≡ network_length links
  unfolding links_length link_ends network_length sum_over
  grown-total (complete e) = refl
  grown-total (follows {l = l} p g) = rw (p.length, grown-total g)

  -- each link is between two taxa, if the taxa placed before are of 1 to n
  grown-between : {later : List ℕ} {links : List Link} → Grown d n later links
      → ((x : ℕ) → Memᴰ x later → IsTaxon n x)
      → (x y : ℕ) → Memᴰ (x, y) (link_ends links) → IsTaxon n x × IsTaxon n y
  unfolding link_ends
  grown-between (complete e) all x y m = absurd (Memᴰ.not-nil m)
  grown-between (follows {later = later} {l = l} {ls = ls} p g) all x y m =
      at (λ k. grown-between g (added-taxon n later l.taxon all p.fresh) x y k) (Memᴰ.cases_cons m)
    where
      taxon : IsTaxon n l.taxon
      taxon = (not-unplaced n later l.taxon p.fresh).0

      joined : IsTaxon n l.joined
      joined = let t : IsTaxon n l.taxon = taxon in placed-taxon n later all (omega arith) l.joined p.onto

      at : (Memᴰ (x, y) (link_ends ls) → IsTaxon n x × IsTaxon n y)
          → ◌≡◌ {A = ℕ × ℕ} (x, y) (l.taxon, l.joined) ⊎ Memᴰ (x, y) (link_ends ls)
          → IsTaxon n x × IsTaxon n y
      at below (inl e) = (rw (ap (λ s. s.0) e) taxon, rw (ap (λ s. s.1) e) joined)
      at below (inr k) = below k

  -- every taxon is reached over links that hold ours, if the taxa placed before are
  grown-reached : {later : List ℕ} {links : List Link} → Grown d n later links
      → (S : ℕ → Type 0) (all : List (ℕ × ℕ))
      → ((e : ℕ × ℕ) → Memᴰ e (link_ends links) → Memᴰ e all)
      → ((x : ℕ) → IsPlaced later x → Reached S all x)
      → (v : ℕ) → IsTaxon n v → Reached S all v
  unfolding link_ends
  grown-reached (complete {later = later} e) S all part placed v t = at (decide_mem v (1 ∷ later))
    where
      at : Dec (IsPlaced later v) → Reached S all v
      at (yes m) = placed v m
      at (no out) = absurd (Memᴰ.not-nil (rw e at (not-placed n later v t out)))
  grown-reached (follows {later = later} {l = l} {ls = ls} p g) S all part placed v t =
      grown-reached g S all (λ e m. part e (Memᴰ.tail m)) now v t
    where
      now : (x : ℕ) → IsPlaced (later ++ (l.taxon ∷ [])) x → Reached S all x
      now x m = at (Memᴰ.append_cases (1 ∷ later) m)
        where
          at : IsPlaced later x ⊎ Memᴰ x (l.taxon ∷ []) → Reached S all x
          at (inl k) = placed x k
          at (inr k) =
              subst (Reached S all) (sym (Memᴰ.eq_of_singleton k))
              (step (placed l.joined p.onto) (inr (part (l.taxon, l.joined) (Memᴰ.head refl))))

-- the ends of a link are among the ends
mem-ends : (l : Link) (links : List Link) → Memᴰ l links → Memᴰ (l.taxon, l.joined) (link_ends links)
unfolding link_ends
mem-ends l links (Memᴰ.head e) = Memᴰ.head (ap {B = ℕ × ℕ} (λ (k : Link). (k.taxon, k.joined)) e)
mem-ends l links (Memᴰ.tail {xs = ls} m) = Memᴰ.tail (mem-ends l ls m)

module _ (d : ℕ → ℕ → ℕ) (n : ℕ) where
  -- the Prim Network is a connected network
  pub network-connected : Connected n (link_ends (network d n))
  network-connected = connected_iff.1 (
    grown-between network-grown (λ x m. absurd (Memᴰ.not-nil m)),
    grown-reached network-grown (λ x. x ≡ 1) (link_ends (network d n)) (λ e m. m) (λ x m. start (Memᴰ.eq_of_singleton m)),
  )

  -- the sum of its links' differences is the total
  pub network_sum : links_length d (link_ends (network d n)) ≡ network_length (network d n)
  network_sum = grown-total network-grown

  -- both ends of a link are taxa
  pub network-between : (l : Link) → Memᴰ l (network d n) → IsTaxon n l.taxon × IsTaxon n l.joined
  network-between l m = (connected_iff.0 network-connected).0 l.taxon l.joined (mem-ends l (network d n) m)

  -- the total is at most n-1 times a bound of the differences of taxa
  pub network_total_le : (bound : ℕ) → ((x y : ℕ) → IsTaxon n x → IsTaxon n y → d x y ≤ bound)
      → network_length (network d n) ≤ (n - 1) * bound
  unfolding network_length
  network_total_le bound within = rw (network-length d n) at (sum_most (λ (l : Link). l.length) bound (network d n) each)
    where
      each : (l : Link) → Memᴰ l (network d n) → l.length ≤ bound
      each l m = let t = network-between l m in rw (network-link d n l m) (within l.taxon l.joined t.0 t.1)
