use Rattle.std.proofs.Common.{ap, refl, sym, subst, ◌∙◌}
use Rattle.dr_model.specs.Layout.{is_part}
use Rattle.dr_model.specs.Moves.{Follow, fields_left}
use Rattle.dr_volume.specs.View.{volume_seen}
use Rattle.dr_gcopy.specs.Both.{CanBegin, CanEnd}
use Rattle.dr_gcopy.proofs.PairLemmas.{primary-stays}
use Rattle.dr_gcopy.proofs.TwoMoves.{still-running}
use Rattle.dr_gcopy.proofs.both.first_next.Goals as goal

pub returns-in-Make-clause-stands : goal.returns-in-Make-clause-stands
returns-in-Make-clause-stands g c u went =
    let s = g.P.Plant.state c.args.plant.now in
    let t = c.args.config.now in
    let can = subst (CanBegin s t c.args.a.0 c.args.b.0) c.in-Make.is c.requires.can in
    subst (CanEnd u t c.args.a.0 c.args.b.0) (sym c.in-Make.is)
    (record { primary = can.ends.primary; secondary = can.ends.secondary; asks = (still-running s u t c.args.a.0 can.ends.primary went.on can.ends.asks.0, can.ends.asks.1) })

pub returns-in-Remove-clause-stands : goal.returns-in-Remove-clause-stands
returns-in-Remove-clause-stands g c u went =
    let s = g.P.Plant.state c.args.plant.now in
    let t = c.args.config.now in
    let can = subst (CanBegin s t c.args.a.0 c.args.b.0) c.in-Remove.is c.requires.can in
    subst (CanEnd u t c.args.a.0 c.args.b.0) (sym c.in-Remove.is)
    (record { primary = can.ends.primary; secondary = can.ends.secondary; asks = still-running s u t c.args.b.0 can.ends.secondary went.on can.ends.asks })

pub returns-in-Resume-clause-stands : goal.returns-in-Resume-clause-stands
returns-in-Resume-clause-stands g c u went =
    let s = g.P.Plant.state c.args.plant.now in
    let t = c.args.config.now in
    let can = subst (CanBegin s t c.args.a.0 c.args.b.0) c.in-Resume.is c.requires.can in
    let f = fields_left (Follow c.args.b.0 c.next_state-state.result) (volume_seen s t c.args.b.0) in
    subst (CanEnd u t c.args.a.0 c.args.b.0) (sym c.in-Resume.is)
    (record {
      primary = can.ends.primary;
      secondary = can.ends.secondary;
      asks = (still-running s u t c.args.a.0 can.ends.primary went.on can.ends.asks.0, ap is_part (primary-stays s u t c.args.b.0 f went.moved refl went.others c.args.a.0) ∙ can.ends.asks.1);
    })
