use Rattle.std.proofs.Common.{sym, subst}
use Rattle.dr_sweep.specs.Comes.{Stops}
use Rattle.dr_sweep.specs.Seen.{run_seen}
use Rattle.dr_sweep.proofs.PointLemmas.{stops-there}
use Rattle.dr_sweep.proofs.point.stop_in_pieces.Goals as goal

pub returns-clause-stops : goal.returns-clause-stops
returns-clause-stops c =
    let x = c.args.pieces.now in
    let cut = c.requires.cut in
    subst (Stops c.args.plan.now c.args.point) (sym c.stop_of.ensures)
    (stops-there c.args.plan.now c.requires.sweep c.args.point cut.0 cut.1 (run_seen c.new-run.result).plant c.new-run.ensures.fresh x.front x.strike x.stops cut.2 (run_seen c.approach.new.run) _ _ (c.in_ok-reached.ensures.comes cut.0 cut.1 cut.2))
