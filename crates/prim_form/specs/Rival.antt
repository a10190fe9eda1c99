-- What the Prim Network is compared with (document 01, "The three rivals"): any list of links between taxa over which
-- every taxon can be reached from row 1. Rings, repeats and a taxon linked to itself are allowed. Such networks are stated with further
-- nodes besides the taxa; the Prim Network's rivals have none.
use Rattle.std.specs.Prelude.{◌≡◌, ◌⊎◌, ℕ, ◌+◌, ◌≤◌}
use mathlib.Core.List.{List, Memᴰ, map}
use Rattle.lists.specs.Sums.{sum_over}
use Rattle.prim_form.specs.Network.{Link, network, network_length}

-- links between nodes of any kind A: each is the pair of its ends
module _ {A : Type 0} where
  -- a link of the list joins x and y, in either order
  abbrev pub Joins : List (A × A) → A → A → Type 0
  Joins links x y = Memᴰ (x, y) links ⊎ Memᴰ (y, x) links

  -- what can be reached from the nodes of a set, going link by link
  pub data Reached (from : A → Type 0) (links : List (A × A)) : A → Type 0 where
    start : {x : A} → from x → Reached from links x
    step : {x y : A} → Reached from links x → Joins links x y → Reached from links y

  -- the sum of the differences of the links' ends
  unfoldable pub links_length : (A → A → ℕ) → List (A × A) → ℕ
  links_length d links = sum_over (λ (l : A × A). d l.0 l.1) links

-- v is one of the taxa 1 to n
abbrev pub IsTaxon : ℕ → ℕ → Type 0
IsTaxon n v = (1 ≤ v) × (v ≤ n)

-- v is one of the nodes of n taxa and `count` further nodes, which are numbered on: n+1, n+2, ..
abbrev pub IsNode : ℕ → ℕ → ℕ → Type 0
IsNode n count v = IsTaxon (n + count) v

-- a connected network of n taxa and `count` further nodes: each link is between two nodes, and every taxon can be reached from row 1.
-- A further node that cannot be reached is allowed as well
pub record ConnectedWith (n count : ℕ) (links : List (ℕ × ℕ)) : Type 0 where
  pub between : (x y : ℕ) → Memᴰ (x, y) links → IsNode n count x × IsNode n count y
  pub reached : (v : ℕ) → IsTaxon n v → Reached (λ x. x ≡ 1) links v

-- document 01's rivals have no further nodes
abbrev pub Connected : ℕ → List (ℕ × ℕ) → Type 0
Connected n links = ConnectedWith n 0 links

-- the ends of the Prim Network's links
unfoldable pub link_ends : List Link → List (ℕ × ℕ)
link_ends links = map (λ (l : Link). (l.taxon, l.joined)) links

-- the claim about the Prim Network and its rivals: ours is a connected network, the length of each link is the difference of its two
-- taxa, the length of the network is the total, and no other is shorter
pub record Shortest (d : ℕ → ℕ → ℕ) (n : ℕ) : Type 0 where
  pub ours : Connected n (link_ends (network d n))
  pub link_lengths : (l : Link) → Memᴰ l (network d n) → l.length ≡ d l.taxon l.joined
  pub length : links_length d (link_ends (network d n)) ≡ network_length (network d n)
  pub least : (links : List (ℕ × ℕ)) → Connected n links → network_length (network d n) ≤ links_length d links
