-- `listing::blocks::Legend::put_results` meets its contract: block after block. Assumes nothing.
use borrow.Author.Rules.{rules}
use mathlib.Core.Path.{sym}
use lib.ListN.{take}
use Rattle.text_form.specs.Text.{bytes}
use Rattle.listing_form.specs.Kinds.{prim_line, wagner_line, total_line}
use Rattle.listing_form.specs.Blocks.{network_lines, build_lines}
use Rattle.listing_form.proofs.Joined.{joined-block, joined-three}
use Rattle.lines.specs.Fields.{total_text}
use Rattle.lines.specs.Fields.{names_of}
use Rattle.lines.proofs.Puts.{put_then, put_same}
use Rattle.listing.specs.Found.{tree_texts, found_lines, result_texts}
use Rattle.listing.proofs.blocks.Legend.put_results.Goals as goal

pub returns : goal.returns
unfolding result_texts found_lines tree_texts network_lines build_lines total_line total_text bytes
returns c =
    let names = c.args.self.now.names in
    let network = c.args.results.now.network in
    let built = c.args.results.now.built in
    let prim = prim_line names.n (names_of names) in
    let wagner = wagner_line names.n (names_of names) in
    let links = c.put_block.ensures prim (λ listing link done after put. search rules) in
    let placements = c.put_block-2.ensures wagner (λ listing placement done after put. search rules) in
    let p = joined-block prim (take network.links.count network.links.items) (total_line "p" network.total) in
    let w = joined-block wagner (take built.placements.count built.placements.items) (total_line "w" built.length) in
    put_same (sym (joined-three _ _ _))
    (put_then (put_same (sym p) (rw c.as_slice.ensures at links))
    (put_then (put_same (sym w) (rw c.as_slice-2.ensures at placements)) c.put_tree.ensures))
