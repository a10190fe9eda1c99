-- An array of which the first entries are filled: none of them, and one more.
use Rattle.std.specs.Prelude.{◌≡◌, ℕ, ◌+◌, min, replicate, set}
use Rattle.filled.specs.declared.Filled.{Filled}

-- no entry is filled, and each holds `blank`
pub record NoneFilled {T : Type 0} {N : ℕ} (blank : T) (r : Filled T N) : Type 0 where
  pub items : r.items ≡ replicate N blank
  pub count : r.count ≡ 0

-- one item more, behind the others: as before where all entries are filled
pub record Pushed {T : Type 0} {N : ℕ} (before : Filled T N) (item : T) (r : Filled T N) : Type 0 where
  pub items : r.items ≡ set before.items before.count item
  pub count : r.count ≡ min N (before.count + 1)
