-- For at most 64 taxa the tests as the functions answer them are the plain tests.
use mathlib.Core.Path.{◌≡◌}
use mathlib.Core.List.{List}
use mathlib.Core.Bool.{false}
use Prim.Native.Nat.{ℕ, ◌≤◌, ◌<◌}
use borrow.Author.Tests.{le-leb, lt-leb}
use Rattle.tree_form.specs.Growing.{growing_tree, branching}
use Rattle.tree_form.specs.Hanging.{next_htu}
use Rattle.tree_form.specs.Within.{growing_tree_within, branching_within, next_htu_within}

module _ (n : ℕ) (tree : List ℕ) where
  module _ (most : n ≤ 64) where
    -- a growing tree of at most 64 taxa
    pub growing-plain : growing_tree_within n tree ≡ growing_tree n tree
    unfolding growing_tree_within
    growing-plain = rw (le-leb n 64 most)

    -- a branching of at most 64 taxa
    pub branching-plain : branching_within n tree ≡ branching n tree
    unfolding branching_within
    branching-plain = rw (le-leb n 64 most)

    -- the next HTU of a tree of at most 64 taxa
    pub next-plain : next_htu_within n tree ≡ next_htu n tree
    unfolding next_htu_within
    next-plain = rw (le-leb n 64 most)

  module _ (more : 64 < n) where
    -- of more than 64 taxa there is no growing tree among those with 127 entries
    pub growing-more : growing_tree_within n tree ≡ false
    unfolding growing_tree_within
    growing-more = rw (lt-leb n 64 more)

    -- nor a branching
    pub branching-more : branching_within n tree ≡ false
    unfolding branching_within
    branching-more = rw (lt-leb n 64 more)
