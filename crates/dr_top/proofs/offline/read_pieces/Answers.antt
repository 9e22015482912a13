use Rattle.std.proofs.Common.{◌++◌, ◌∙◌, ap}
use Rattle.dr_io.specs.declared.piece_reader.TakenPiece.TheVariants.{Piece, TooLong}
use Rattle.dr_image.specs.Reader.{will_read}
use Rattle.dr_top.proofs.OfflineLemmas.{none-read, one-read, taken-here, ends-too-long, ends-without-memory}
use Rattle.dr_top.proofs.offline.read_pieces.Goals as goal

pub loop-image-init : goal.loop-image-init
loop-image-init g c = none-read g.S.Source.left g.S.Source.faults c.args.source.now c.new-pieces.result c.args.image.now c.new-pieces.ensures c.requires.works c.requires.begins

pub loop-image-preserved : goal.loop-image-preserved
loop-image-preserved g c =
    let l = c.loop-image in
    let r = l.invariant in
    let next = c.next_piece in
    let gives = taken-here g.S.Source.left g.S.Source.faults c.args.source.now l.source next.new.source l.pieces next.new.self r.taken next.ensures.took next.ensures.limits c.in-Ok-Piece.field-0 Piece c.in-Ok-Piece.field-0-is (c.in-Ok-Piece.ensures.next r.taken.text r.taken.has) in
    one-read g.S.Source.left g.S.Source.faults c.args.source.now l.source next.new.source l.pieces next.new.self l.image r next.ensures.took next.ensures.limits c.feed.new.self (next.ensures.counts r.taken.text r.taken.has) gives c.in-Ok.ensures.failed (λ rest. c.in-Ok.ensures.reads rest ∙ ap (λ piece. will_read l.image (piece ++ rest)) c.piece.ensures)

pub returns-in_default : goal.returns-in_default
returns-in_default g c =
    let l = c.loop-image in
    let r = l.invariant.taken in
    let next = c.next_piece in
    let gives = taken-here g.S.Source.left g.S.Source.faults c.args.source.now l.source next.new.source l.pieces next.new.self r next.ensures.took next.ensures.limits c.in-Ok-Piece.field-0 Piece c.in-Ok-Piece.field-0-is (c.in-Ok-Piece.ensures.next r.text r.has) in
    ends-without-memory g.S.Source.left g.S.Source.faults c.args.source.now l.source next.new.source l.pieces next.new.self r next.ensures.took next.ensures.limits gives

pub returns-in-Ok-TooLong : goal.returns-in-Ok-TooLong
returns-in-Ok-TooLong g c =
    let l = c.loop-image in
    let r = l.invariant.taken in
    let next = c.next_piece in
    let gives = taken-here g.S.Source.left g.S.Source.faults c.args.source.now l.source next.new.source l.pieces next.new.self r next.ensures.took next.ensures.limits c.in-Ok-TooLong.field-0 TooLong c.in-Ok-TooLong.field-0-is (c.in-Ok-TooLong.ensures.next r.text r.has) in
    ends-too-long g.S.Source.left g.S.Source.faults c.args.source.now l.source next.new.source l.pieces next.new.self r next.ensures.took next.ensures.limits gives
