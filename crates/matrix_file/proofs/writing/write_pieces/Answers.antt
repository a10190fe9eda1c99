-- What the check leaves of `matrix_file::writing::write_pieces`.
use mathlib.Core.Path.{◌≡◌, refl, sym, ap, subst, ◌∙◌}
use Prim.Native.Nat.{◌<◌}
use native.Mathlib.Omega.{arith}
use lib.ListN.{length, length-take}
use lib.Seq.{get_or-take}
use Rattle.std.proofs.Common.{rules}
use Rattle.lists.specs.Over.{stripes}
use Rattle.text_form.specs.Bytes.{pieces_at}
use Rattle.matrix_file.proofs.Lists.WrittenPieces.{PiecesWritten, next_piece, next_rest, item_room, piece_room, piece_written}
use Rattle.matrix_file.proofs.writing.write_pieces.Goals as goal

pub loop-i-init : goal.loop-i-init
unfolding stripes
loop-i-init g c = (refl, λ some. refl, λ says writes. refl)

pub write-requires : goal.write-requires
write-requires g c =
    let walk = c.loop-i.invariant.1 c.loop-i-test.true in
    c.requires.callable _ _ c.loop-i.i
    (piece_room c.args.width c.args.count c.loop-i.i c.loop-i-test.true c.loop-i.out (omega (arith, c.requires.room, c.loop-i.invariant.0)))
    (omega (arith, c.requires.enough, c.loop-i-test.true, length-take c.args.count (pieces_at c.args.separator c.args.text.now)))
    (c.cut_piece.ensures.0
    ∙ next_piece _ _ _ _ _ c.requires.enough c.loop-i-test.true walk
    ∙ sym (get_or-take _ _ _ _ c.loop-i-test.true))

pub loop-i-preserved : goal.loop-i-preserved
loop-i-preserved g c =
    let walk = c.loop-i.invariant.1 c.loop-i-test.true in
    let room =
    item_room c.args.width c.args.count c.loop-i.i c.loop-i-test.true c.loop-i.out (omega (arith, c.requires.room, c.loop-i.invariant.0)) in
    let below : c.loop-i.i < length (pieces_at c.args.separator c.args.text.now) = omega (arith, c.requires.enough, c.loop-i-test.true) in (
      search rules,
      λ more. ap (pieces_at c.args.separator) c.cut_piece.ensures.1 ∙ next_rest _ _ _ _ _ c.requires.enough c.loop-i-test.true walk more,
      λ says writes.
          piece_written c.args.width says _ _ _ _ below (c.cut_piece.ensures.0 ∙ next_piece _ _ _ _ _ c.requires.enough c.loop-i-test.true walk) _ _
          (c.loop-i.invariant.2 says writes) (omega (arith, room)) (writes _ _ _ _ c.write.ensures),
    )

pub returns : goal.returns
returns g c =
    let all : c.loop-i.i ≡ c.args.count = omega (arith, c.loop-i-test.false) in
    λ says writes.
    subst (λ k. PiecesWritten c.args.width says (pieces_at c.args.separator c.args.text.now) c.args.out.now k c.loop-i.out) all
    (c.loop-i.invariant.2 says writes)
