-- The Prim Network (document 01, "The Prim Network"), over any difference d of two taxa. Taxa are the numbers 1 to n.
-- Row 1 is placed first. `later` is the list of the taxa placed after it, in order of placing.
use Rattle.std.specs.Prelude.{List, [], ◌∷◌, ◌++◌, map, ℕ, zero, suc, ◌-◌}
use Rattle.lists.specs.Sums.{sum_over}
use Rattle.lists.specs.Least.{first_least}
use Rattle.lists.specs.Numbers.{numbers}
use Rattle.lists.specs.Filters.{without}
use Rattle.prim_form.specs.declared.answer.Link.{Link as HandedBack}

-- a link, as it is handed back: the taxon that it places, the placed taxon that this one joins, and their difference
abbrev pub Link : Type 0
Link = HandedBack

-- the taxa that links place, in order
unfoldable pub taxa : List Link → List ℕ
taxa links = map (λ (l : Link). l.taxon) links

-- the sum of the links' lengths
unfoldable pub network_length : List Link → ℕ
network_length links = sum_over (λ (l : Link). l.length) links

-- the unplaced taxa of n, by rising row
unfoldable pub unplaced : ℕ → List ℕ → List ℕ
unplaced n later = without later (numbers 2 (n - 1))

module _ (d : ℕ → ℕ → ℕ) where
  -- the placed taxon nearest to v, the earliest placed among equals
  unfoldable pub nearest_placed : List ℕ → ℕ → ℕ
  nearest_placed later v = first_least (d v) 1 later

  -- how far v is from the network
  unfoldable pub distance : List ℕ → ℕ → ℕ
  distance later v = d v (nearest_placed later v)

  -- the link that places v
  unfoldable pub link : List ℕ → ℕ → Link
  link later v = record { taxon = v; joined = nearest_placed later v; length = distance later v }

  -- the next link, if a taxon is left: it places the one nearest to the network, the lowest row among equals
  unfoldable pub next : List ℕ → List ℕ → List Link
  next later [] = []
  next later (u ∷ us) = link later (first_least (distance later) u us) ∷ []

  -- the next `count` links, or as many as taxa are left
  unfoldable pub grow : ℕ → ℕ → List ℕ → List Link
  grow n zero later = []
  grow n (suc count) later =
      let new = next later (unplaced n later) in
      new ++ grow n count (later ++ taxa new)

  -- the Prim Network of n taxa
  unfoldable pub network : ℕ → List Link
  network n = grow n (n - 1) []
