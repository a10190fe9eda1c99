-- Laws of the links that a network handed back holds: place by place, and with one more link.
use mathlib.Core.Path.{◌≡◌, refl, ap}
use mathlib.Core.List.{List, [], ◌∷◌, ◌++◌}
use Prim.Native.Nat.{ℕ, suc, ◌+◌}
use native.Mathlib.Omega.{arith}
use lib.ListN.{length, get_or, take, length-append}
use Rattle.lists.proofs.Sums.{sum_snoc}
use Rattle.lists.proofs.Filled.{filled-first, filled_at}
use Rattle.prim_form.specs.Network.{Link, taxa, network_length}
use Rattle.prim.specs.Calls.{no_link, Holds, most_links}
use Rattle.prim.specs.declared.answer.Network.{Network}

-- a network handed back that holds these links
module _ (links : List Link) (r : Network) (h : Holds links r) where
  -- the first `count` places are these links
  pub holds-first : take r.links.count r.links.items ≡ links
  holds-first = rw h.list (filled-first no_link most_links r.links.count links h.count)

  -- each of them stands at its place, and behind them stand zeros
  pub holds_at : (i : ℕ) → get_or r.links.items i no_link ≡ get_or links i no_link
  holds_at i = rw h.list (filled_at no_link most_links links i)

-- the length of links and one more
pub network_length-snoc : (ls : List Link) (l : Link) → network_length (ls ++ (l ∷ [])) ≡ network_length ls + l.length
unfolding network_length
network_length-snoc ls l = sum_snoc (λ (k : Link). k.length) ls l

-- the taxa of links and one more
pub taxa-snoc : (ls : List Link) (l : Link) → taxa (ls ++ (l ∷ [])) ≡ taxa ls ++ (l.taxon ∷ [])
unfolding taxa
taxa-snoc [] l = refl
taxa-snoc (k ∷ ls) l = ap {B = List ℕ} (λ (r : List ℕ). k.taxon ∷ r) (taxa-snoc ls l)

-- there is one link more
pub length-snoc : (ls : List Link) (l : Link) → length (ls ++ (l ∷ [])) ≡ suc (length ls)
length-snoc ls l = simp length-append (omega arith)
