-- What the check leaves of `lines::put::Listing::put_name`.
use Rattle.std.proofs.Common.{rules, tests, of_calls}
use mathlib.Core.Path.{ap, ◌∙◌}
use lib.Dec.{eqb}
use lib.ListN.{take}
use Rattle.std.specs.Prelude.{not}
use Rattle.std.proofs.lemmas.Iterator.{YieldsList-from_slice}
use Rattle.std.proofs.lemmas.Iterator.Consumers.{YieldsList-at, YieldsList-end}
use Rattle.std.proofs.lemmas.Iterator.Search.{YieldsList-from_take_while}
use Rattle.text_form.specs.Bytes.{first_piece}
use Rattle.text_form.proofs.Slices.{piece_position}
use Rattle.lines.proofs.Puts.{put_none, put_more, put_same}
use Rattle.lines.proofs.put.Listing.put_name.Goals as goal

pub loop-byte-init : goal.loop-byte-init
loop-byte-init c = (search (rules, of_calls), search (rules, of_calls), put_none _)

pub loop-byte-preserved : goal.loop-byte-preserved
loop-byte-preserved c =
    (search (rules, of_calls), search (rules, of_calls), put_more _ c.loop-byte.yielded _ c.loop-byte.invariant.2 c.put_byte.ensures)

pub returns : goal.returns
unfolding first_piece
returns c =
    let end = YieldsList-end
    (YieldsList-at c.into_iter-byte-iterator.ensures.into_iter_gives
    (YieldsList-from_take_while _ (λ byte. not (eqb byte 0)) (YieldsList-from_slice c.args.name.now (search rules)) (search rules) (search rules)
    (λ x b q k. search (rules, tests))))
    c.loop-byte.yielded c.loop-byte.byte-iterator c.loop-byte.yielded_by c.next.result c.next.new.self c.in-None.is c.next.ensures.steps in
    put_same (end.0 ∙ ap (λ size. take size c.args.name.now) (piece_position 0 c.args.name.now)) c.loop-byte.invariant.2
