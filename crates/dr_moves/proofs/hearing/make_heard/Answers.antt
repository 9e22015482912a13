use Rattle.std.proofs.Common.{sym, subst}
use Rattle.dr_moves.specs.Beside.{Takes}
use Rattle.dr_moves.proofs.HeardLemmas.{takes-if}
use Rattle.dr_moves.proofs.hearing.make_heard.Goals as goal

pub hear-requires-in-Err : goal.hear-requires-in-Err
hear-requires-in-Err g c =
    let takes = g.B.Beside.takes c.args.beside.now in
    record { takes = subst (Takes takes) (sym c.if_counts.ensures) (takes-if takes c.in-Err.stop.counts c.args.in_stop c.requires.in_stop) }
