-- Laws of the placing of taxa: what the next link is, and that each link of the Prim Network was the next one when it was made.
use mathlib.Core.Path.{◌≡◌, refl, sym, ap, ◌∙◌, subst}
use mathlib.Core.List.{List, [], ◌∷◌, ◌++◌, append-nil}
use mathlib.Core.List.Memᴰ
use mathlib.Core.List.{Memᴰ}
use mathlib.Core.Logic.{◌⊎◌, inl, inr, ◌↔◌}
use Prim.Native.Nat.{ℕ, zero, suc, ◌-◌, ◌≤◌}
use native.Mathlib.Nat.{le_trans}
use native.Mathlib.Omega.{arith}
use lib.ListN.{length}
use lib.Seq.{append_snoc}
use Rattle.lists.specs.Least.{first_least}
use Rattle.lists.proofs.Least.{first_least-mem, first_least-least}
use Rattle.prim_form.specs.Network.{Link, taxa, unplaced, nearest_placed, distance, link, next, grow, network}
use Rattle.prim_form.proofs.Unplaced.{decide_mem, mem-unplaced, length-unplaced, length_unplaced_next}

-- what is true of a link when it is made: it is the next one, places an unplaced taxon, joins it to a placed one, has their
-- difference as length, and no unplaced taxon is nearer to a placed one
pub record Placing (d : ℕ → ℕ → ℕ) (n : ℕ) (later : List ℕ) (l : Link) : Type 0 where
  pub is_next : next d later (unplaced n later) ≡ l ∷ []
  pub fresh : Memᴰ l.taxon (unplaced n later)
  pub onto : Memᴰ l.joined (1 ∷ later)
  pub length : l.length ≡ d l.taxon l.joined
  pub least : (v x : ℕ) → Memᴰ v (unplaced n later) → Memᴰ x (1 ∷ later) → l.length ≤ d v x

-- a step of the placing: all taxa are placed, or one more is
pub data Step (d : ℕ → ℕ → ℕ) (n : ℕ) (later : List ℕ) : Type 0 where
  done : unplaced n later ≡ [] → Step d n later
  placing : (l : Link) → Placing d n later l → Step d n later

module _ (d : ℕ → ℕ → ℕ) where
  -- no placed taxon is nearer to v than its distance from the network
  pub distance_least : (later : List ℕ) (v x : ℕ) → Memᴰ x (1 ∷ later) → distance d later v ≤ d v x
  unfolding distance nearest_placed
  distance_least later v x m = first_least-least (d v) 1 later x m

  -- each step is one of the two
  pub placing-step : (n : ℕ) (later : List ℕ) → Step d n later
  unfolding next link distance nearest_placed
  placing-step n later = at (unplaced n later) refl
    where
      at : (us : List ℕ) → unplaced n later ≡ us → Step d n later
      at [] e = done e
      at (u ∷ us) e =
          let v = first_least (distance d later) u us in
          placing (link d later v)
          (record {
            is_next = rw e;
            fresh = rw e (first_least-mem (distance d later) u us);
            onto = first_least-mem (d v) 1 later;
            length = refl;
            least = λ w x mw mx. le_trans (first_least-least (distance d later) u us w (rw e at mw)) (distance_least later w x mx);
          })

  -- when all taxa are placed no link follows
  pub grow-done : (n count : ℕ) (later : List ℕ) → unplaced n later ≡ [] → grow d n count later ≡ []
  unfolding grow next taxa
  grow-done n zero later e = refl
  grow-done n (suc count) later e = rw (e, append-nil later) (grow-done n count later e)

  -- else the next link comes first, and its taxon is placed for those that follow
  pub grow-next : (n count : ℕ) (later : List ℕ) (l : Link)
      → next d later (unplaced n later) ≡ l ∷ []
      → grow d n (suc count) later ≡ l ∷ grow d n count (later ++ (l.taxon ∷ []))
  unfolding grow taxa
  grow-next n count later l e = rw e

-- links that place all the unplaced taxa, each one being the next link when it is made
pub data Grown (d : ℕ → ℕ → ℕ) (n : ℕ) : List ℕ → List Link → Type 0 where
  complete : {later : List ℕ} → unplaced n later ≡ [] → Grown d n later []
  follows : {later : List ℕ} {l : Link} {ls : List Link}
      → Placing d n later l
      → Grown d n (later ++ (l.taxon ∷ [])) ls
      → Grown d n later (l ∷ ls)

module _ {d : ℕ → ℕ → ℕ} {n : ℕ} where
  -- as many links as taxa are unplaced place them all
  pub grow-grown : (count : ℕ) (later : List ℕ) → length (unplaced n later) ≡ count → Grown d n later (grow d n count later)
  unfolding grow
  grow-grown zero later e = complete (none (unplaced n later) e)
    where
      none : (us : List ℕ) → length us ≡ 0 → us ≡ []
      none [] h = refl
      none (u ∷ us) h = absurd (omega arith)
  grow-grown (suc count) later e = at (λ new h. grow-grown count new h) (placing-step d n later)
    where
      at : ((new : List ℕ) → length (unplaced n new) ≡ count → Grown d n new (grow d n count new))
          → Step d n later
          → Grown d n later (grow d n (suc count) later)
      at below (done none) = absurd (omega (arith, sym e ∙ ap length none))
      at below (placing l p) =
          let fewer = length_unplaced_next n later l.taxon p.fresh in
          rw (grow-next d n count later l p.is_next) (follows p (below (later ++ (l.taxon ∷ [])) (omega arith)))

  -- the Prim Network places all taxa
  pub network-grown : Grown d n [] (network d n)
  unfolding network
  network-grown = grow-grown (n - 1) [] (length-unplaced n)

  -- there are as many links as unplaced taxa
  pub grown-length : {later : List ℕ} {links : List Link} → Grown d n later links → length links ≡ length (unplaced n later)
  grown-length (complete e) = sym (ap length e)
  grown-length (follows {later = later} {l = l} p g) = ap suc (grown-length g) ∙ sym (length_unplaced_next n later l.taxon p.fresh)

  -- the first link, and those behind it
  grown-cons : {later : List ℕ} {l : Link} {ls : List Link}
      → Grown d n later (l ∷ ls)
      → Placing d n later l × Grown d n (later ++ (l.taxon ∷ [])) ls
  grown-cons (follows p g) = (p, g)

  -- each link was the next one after those before it, and those behind it place what it left
  pub grown_at : {later : List ℕ} (before : List Link) (l : Link) (after : List Link)
      → Grown d n later (before ++ l ∷ after)
      → Placing d n (later ++ taxa before) l × Grown d n (later ++ taxa before ++ (l.taxon ∷ [])) after
  unfolding taxa
  grown_at {later} [] l after g = rw (append-nil later) (grown-cons g)
  grown_at {later} (b ∷ bs) l after g = rw (append_snoc later b.taxon (taxa bs)) at (grown_at bs l after (grown-cons g).1)

  -- each link was the next one at some time
  pub grown-each : {later : List ℕ} {links : List Link} → Grown d n later links
      → (l : Link) → Memᴰ l links
      → (now : List ℕ) × Placing d n now l
  grown-each (complete e) l m = absurd (Memᴰ.not-nil m)
  grown-each (follows {later = later} {l = first} {ls = ls} p g) l m = at (λ k. grown-each g l k) (Memᴰ.cases_cons m)
    where
      at : (Memᴰ l ls → (now : List ℕ) × Placing d n now l) → (l ≡ first) ⊎ Memᴰ l ls → (now : List ℕ) × Placing d n now l
      at below (inl e) = (later, subst (Placing d n later) (sym e) p)
      at below (inr k) = below k

  -- a taxon that is placed was unplaced
  pub grown_fresh : {later : List ℕ} {links : List Link} → Grown d n later links
      → (v : ℕ) → Memᴰ v (taxa links)
      → Memᴰ v (unplaced n later)
  unfolding taxa
  grown_fresh (complete e) v m = absurd (Memᴰ.not-nil m)
  grown_fresh (follows {later = later} {l = l} {ls = ls} p g) v m = at (λ k. grown_fresh g v k) (Memᴰ.cases_cons m)
    where
      earlier : (2 ≤ v) × (v ≤ n) × ¬ Memᴰ v (later ++ (l.taxon ∷ [])) → Memᴰ v (unplaced n later)
      earlier h = (mem-unplaced n later v).1 (h.0, h.1, λ k. h.2 (Memᴰ.append_left (l.taxon ∷ []) k))

      at : (Memᴰ v (taxa ls) → Memᴰ v (unplaced n (later ++ (l.taxon ∷ []))))
          → (v ≡ l.taxon) ⊎ Memᴰ v (taxa ls)
          → Memᴰ v (unplaced n later)
      at below (inl e) = Memᴰ.cast e p.fresh
      at below (inr k) = earlier ((mem-unplaced n (later ++ (l.taxon ∷ [])) v).0 (below k))

  -- every taxon 2 to n is placed
  pub grown-all : {later : List ℕ} {links : List Link} → Grown d n later links → (v : ℕ) → 2 ≤ v → v ≤ n → Memᴰ v (later ++ taxa links)
  unfolding taxa
  grown-all (complete {later = later} e) v low high = at (decide_mem v later)
    where
      at : Dec (Memᴰ v later) → Memᴰ v (later ++ [])
      at (yes m) = Memᴰ.append_left [] m
      at (no out) = absurd (Memᴰ.not-nil (rw e at ((mem-unplaced n later v).1 (low, high, out))))
  grown-all (follows {later = later} {l = l} {ls = ls} p g) v low high =
      rw (append_snoc later l.taxon (taxa ls)) at (grown-all g v low high)

module _ (d : ℕ → ℕ → ℕ) (n : ℕ) where
  -- the Prim Network of n taxa has n-1 links
  pub network-length : length (network d n) ≡ n - 1
  network-length = grown-length (network-grown {d = d}) ∙ length-unplaced n

  -- its links place the taxa 2 to n
  pub network-taxa : (v : ℕ) → Memᴰ v (taxa (network d n)) ↔ ((2 ≤ v) × (v ≤ n))
  network-taxa v = (placed, λ h. grown-all network-grown v h.0 h.1)
    where
      placed : Memᴰ v (taxa (network d n)) → (2 ≤ v) × (v ≤ n)
      placed m = let h = (mem-unplaced n [] v).0 (grown_fresh network-grown v m) in (h.0, h.1)

  -- the length of a link is the difference of its ends
  pub network-link : (l : Link) → Memᴰ l (network d n) → l.length ≡ d l.taxon l.joined
  network-link l m = (grown-each (network-grown {d = d} {n = n}) l m).1.length

  module _ (before : List Link) (l : Link) (after : List Link) (split : network d n ≡ before ++ l ∷ after) where
    -- each link was the next one when it was made, after those before it in the list
    pub network-placing : Placing d n (taxa before) l
    network-placing = (grown_at before l after (rw split at (network-grown {d = d} {n = n}))).0

    behind : Grown d n (taxa before ++ (l.taxon ∷ [])) after
    behind = (grown_at before l after (rw split at (network-grown {d = d} {n = n}))).1

    -- no other link places the same taxon
    pub network-once : (¬ Memᴰ l.taxon (taxa before)) × (¬ Memᴰ l.taxon (taxa after))
    network-once = (
      ((mem-unplaced n (taxa before) l.taxon).0 network-placing.fresh).2,
      λ m. ((mem-unplaced n (taxa before ++ (l.taxon ∷ [])) l.taxon).0 (grown_fresh behind l.taxon m)).2
          (Memᴰ.append_right (taxa before) (Memᴰ.head refl)),
    )
