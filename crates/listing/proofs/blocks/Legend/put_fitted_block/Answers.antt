-- What the check leaves of `listing::blocks::Legend::put_fitted_block`.
use mathlib.Core.Path.{sym, ap}
use native.Mathlib.Omega.{arith}
use Rattle.branching.specs.Views.{ancestors}
use Rattle.text_form.specs.Text.{bytes}
use Rattle.tree_form.specs.Nodes.{other_nodes}
use Rattle.listing_form.specs.Kinds.{branch_line, total_line}
use Rattle.listing_form.specs.Blocks.{fitted_line, fitted_lines}
use Rattle.listing_form.proofs.Joined.{joined-block}
use Rattle.lines.specs.Fields.{total_text}
use Rattle.lines.specs.Fields.{names_of}
use Rattle.lines.proofs.Puts.{left_start, left_end, left_put, left_same, put_then, put_same}
use Rattle.listing.specs.Handed.{length_in, mark_in, fitted_texts}
use Rattle.listing.proofs.BlockTexts.{from_two}
use Rattle.listing_form.proofs.InTurn.{next_of, none_of}
use Rattle.listing.proofs.blocks.Legend.put_fitted_block.Goals as goal

pub loop-v-init : goal.loop-v-init
loop-v-init c = (omega arith, left_same (from_two _ _) (left_start _ _))

pub loop-v-preserved : goal.loop-v-preserved
unfolding fitted_line
loop-v-preserved c =
    let known = c.loop-v.invariant in
    let v = c.loop-v.v in
    let n = c.args.self.now.names.n in
    let names = names_of c.args.self.now.names in
    let fit = c.args.fit.now in
    let line = fitted_line n names (ancestors c.args.tree.now) (length_in fit) (mark_in fit) in (
      omega arith,
      left_put (left_same (next_of line _ _ c.loop-v-test.true) known.1)
          (put_same
          (ap (λ above. branch_line n names v above (length_in fit v) (mark_in fit v)) c.ancestor.ensures)
          c.put_branch_line.ensures),
    )

pub returns : goal.returns
unfolding fitted_texts fitted_lines total_line total_text bytes
returns c =
    let names = c.args.self.now.names in
    let fit = c.args.fit.now in
    let line = fitted_line names.n (names_of names) (ancestors c.args.tree.now) (length_in fit) (mark_in fit) in
    put_same (sym (joined-block line (other_nodes names.n) (total_line "t" fit.total)))
    (put_then (left_end (left_same (none_of line _ _ c.loop-v-test.false) c.loop-v.invariant.1)) c.put_total_line.ensures)
