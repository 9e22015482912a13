use Rattle.std.proofs.Common.{◌++◌, ◌∙◌, ap, sym, subst}
use Rattle.dr_io.specs.declared.piece_reader.TakenPiece.TheVariants.{Piece, End, TooLong}
use Rattle.dr_top.specs.Offline.{IsTaken}
use Rattle.dr_top.proofs.OfflineLemmas.{none-taken, one-taken, taken-here, ends-taking, ends-too-long, ends-without-memory}
use Rattle.dr_top.proofs.whole_text.read_text.Goals as goal

pub loop-text-init : goal.loop-text-init
loop-text-init g c = record { so_far = none-taken g.S.Source.left g.S.Source.faults c.args.source.now c.new-pieces.result c.new-pieces.ensures; is = c.new-text.ensures }

pub loop-text-preserved : goal.loop-text-preserved
loop-text-preserved g c =
    let l = c.loop-text in
    let r = l.invariant.so_far in
    let next = c.next_piece in
    let gives = taken-here g.S.Source.left g.S.Source.faults c.args.source.now l.source next.new.source l.pieces next.new.self r next.ensures.took next.ensures.limits c.in-Ok-Piece.field-0 Piece c.in-Ok-Piece.field-0-is (c.in-Ok-Piece.ensures.next r.text r.has) in
    record {
      so_far = one-taken g.S.Source.left g.S.Source.faults c.args.source.now l.source next.new.source l.pieces next.new.self r next.ensures.took next.ensures.limits (next.ensures.counts r.text r.has) gives;
      is = c.in-Ok.ensures.ok ∙ ap (λ piece. l.text ++ piece) c.piece.ensures ∙ ap (λ text. text ++ next.new.self.piece) l.invariant.is;
    }

pub returns-in_default : goal.returns-in_default
returns-in_default g c =
    let l = c.loop-text in
    let r = l.invariant.so_far in
    let next = c.next_piece in
    let gives = taken-here g.S.Source.left g.S.Source.faults c.args.source.now l.source next.new.source l.pieces next.new.self r next.ensures.took next.ensures.limits c.in-Ok-Piece.field-0 Piece c.in-Ok-Piece.field-0-is (c.in-Ok-Piece.ensures.next r.text r.has) in
    ends-without-memory g.S.Source.left g.S.Source.faults c.args.source.now l.source next.new.source l.pieces next.new.self r next.ensures.took next.ensures.limits gives

pub returns-in-Ok-TooLong : goal.returns-in-Ok-TooLong
returns-in-Ok-TooLong g c =
    let l = c.loop-text in
    let r = l.invariant.so_far in
    let next = c.next_piece in
    let gives = taken-here g.S.Source.left g.S.Source.faults c.args.source.now l.source next.new.source l.pieces next.new.self r next.ensures.took next.ensures.limits c.in-Ok-TooLong.field-0 TooLong c.in-Ok-TooLong.field-0-is (c.in-Ok-TooLong.ensures.next r.text r.has) in
    ends-too-long g.S.Source.left g.S.Source.faults c.args.source.now l.source next.new.source l.pieces next.new.self r next.ensures.took next.ensures.limits gives

pub returns-in-Ok-End : goal.returns-in-Ok-End
returns-in-Ok-End g c =
    let l = c.loop-text in
    let r = l.invariant.so_far in
    let next = c.next_piece in
    let gives = taken-here g.S.Source.left g.S.Source.faults c.args.source.now l.source next.new.source l.pieces next.new.self r next.ensures.took next.ensures.limits c.in-Ok-End.field-0 End c.in-Ok-End.field-0-is (c.in-Ok-End.ensures.next r.text r.has) in (
      subst (IsTaken g.S.Source.left c.args.source.now next.new.source) (sym l.invariant.is)
          (ends-taking g.S.Source.left g.S.Source.faults c.args.source.now l.source next.new.source l.pieces next.new.self r next.ensures.took next.ensures.limits gives),
      gives.kept ∙ r.kept,
    )
