-- A text put into a listing under way.
use Rattle.std.specs.Prelude.{◌≡◌, List, ℕ}
use Rattle.lines.specs.declared.put.Listing.{Listing}
use Rattle.lines.specs.Put.{Put}

-- a text was put into the listing, whose lent bytes are still the same ones
pub record Puts (text : List ℕ) (old new : Listing) : Type 0 where
  pub put : Put text old.out.now old.at new.out.now new.at
  pub same : new.out.ghost_name ≡ old.out.ghost_name
