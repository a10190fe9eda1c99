-- What is put for what is handed in is what the definitions print: the lines of network and build, under what the arrays hold.
use mathlib.Core.Path.{◌≡◌, sym, ap, ap₂, ◌∙◌}
use mathlib.Core.List.{List}
use Prim.Native.Nat.{ℕ}
use lib.ListN.{take}
use Rattle.lists.proofs.Filled.{filled-first}
use Rattle.matrix_form.specs.Outcomes.{refused}
use Rattle.prim_form.specs.Network.{Link, network_length}
use Rattle.prim.specs.Calls.{Holds}
use Rattle.prim.specs.declared.answer.Network.{Network}
use Rattle.prim.proofs.Holding.{holds-first}
use Rattle.tree_form.specs.declared.placement.Placement.{Placement}
use Rattle.listing_form.specs.Lines.{joined}
use Rattle.listing_form.specs.Kinds.{refusal_line}
use Rattle.file_form.specs.Written.{names_in}
use Rattle.listing_form.specs.Listing.{printed}
use Rattle.listing.specs.Handed.{HoldsNames, HoldsPlacements}
use Rattle.tree_form.specs.Placing.{no_placement}
use Rattle.wagner.specs.Calls.{most_placements}
use Rattle.listing_form.specs.Blocks.{network_lines, build_lines}
use Rattle.listing_form.proofs.Joined.{joined-one}
use Rattle.listing_form.proofs.SameLines.{network_same, build_same}
use Rattle.listing.proofs.Unpadded.{same_names}

-- the line of a refusal is what is printed for it
pub refusal_text : (number at : ℕ) → refusal_line number at ≡ joined (printed (refused number at))
unfolding printed
refusal_text number at = sym (joined-one (refusal_line number at))

module _ (n : ℕ) (names : List (List ℕ)) (lent : List ℕ) (named : HoldsNames n names lent) where
  -- the lines of a network that holds links, with the names that the lent bytes hold
  pub network_text : (links : List Link) (r : Network) → Holds links r
      → network_lines n (names_in n lent) (take r.links.count r.links.items) r.total ≡ network_lines n names links (network_length links)
  network_text links r held =
      ap₂ (network_lines n (names_in n lent)) (holds-first links r held) held.total
      ∙ network_same n (names_in n lent) names (same_names n names lent named) links (network_length links)

  -- those of an array that holds placements
  pub build_text : (placements array : List Placement) (count w : ℕ) → HoldsPlacements placements array count
      → build_lines n (names_in n lent) (take count array) w ≡ build_lines n names placements w
  build_text placements array count w held =
      ap (λ (list : List Placement). build_lines n (names_in n lent) list w)
      (ap (take count) held.list ∙ filled-first no_placement most_placements count placements held.count)
      ∙ build_same n (names_in n lent) names (same_names n names lent named) placements w
