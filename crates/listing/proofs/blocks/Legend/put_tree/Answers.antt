-- `listing::blocks::Legend::put_tree` meets its contract: block after block. Assumes nothing.
use mathlib.Core.Path.{sym}
use Rattle.listing_form.specs.Blocks.{lines_of_tree}
use Rattle.listing_form.proofs.Joined.{joined-behind}
use Rattle.lines.proofs.Puts.{put_then, put_same}
use Rattle.listing.specs.Handed.{fitted_texts, state_texts}
use Rattle.listing.specs.Found.{tree_texts}
use Rattle.listing.proofs.blocks.Legend.put_tree.Goals as goal

pub returns : goal.returns
unfolding tree_texts fitted_texts state_texts lines_of_tree
returns c =
    put_same (sym (joined-behind _ _ _)) (put_then c.put_fitted_block.ensures (put_then c.put_index_line.ensures c.put_state_lines.ensures))
