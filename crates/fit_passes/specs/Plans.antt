-- The plan of a tree of n taxa: its walk, and the descendants of each node. No exported contract cites this file.
use Rattle.std.specs.Prelude.{ℕ, cond, ◌==◌, List}
use Rattle.branching.specs.Views.{ancestors}
use Rattle.tree_walk.specs.Walks.{Walking, Belows}
use Rattle.tree_walk.specs.declared.walk.Below.{Below}
use Rattle.fit_passes.specs.declared.planning.Plan.TheInside.{Inside}

-- of two descendants, the other one than v
unfoldable pub sister_in : Below → ℕ → ℕ
sister_in below v = cond (below.first == v) below.second below.first

-- a plan has the walk over its tree, and the descendants of each node
pub record Planned (plan : Inside) : Type 0 where
  pub walking : Walking plan.n (ancestors plan.tree) plan.walk
  pub below : Belows plan.n (ancestors plan.tree) plan.below

-- the number of taxa of a tree, and its immediate ancestors by node number; the plan has both and what it holds besides
pub record TaxaTree : Type 0 where
  pub taxa : ℕ
  pub tree : List ℕ
  pub plan : Inside
