use Rattle.std.proofs.Common.{◌≤◌, arith, sym, subst}
use Rattle.dr_volume.specs.View.{volume_seen}
use Rattle.dr_moves.specs.Coming.{MayCome, cost_of, Acted}
use Rattle.dr_cgflash.proofs.HoldLemmas.{may-hold, hold-cost}
use Rattle.dr_cgflash.proofs.holding.hold.Goals as goal

pub act-requires-clause-may : goal.act-requires-clause-may
act-requires-clause-may g c =
    let s = g.P.Plant.state c.args.plant.now in
    let t = c.args.config.now in
    subst (MayCome s t) (sym c.hold_next-next.ensures) (may-hold s t c.args.s (volume_seen s t c.args.s.0).fields.flash_hold c.requires.source c.requires.running)

pub act-requires-clause-room : goal.act-requires-clause-room
act-requires-clause-room g c =
    let s = g.P.Plant.state c.args.plant.now in
    let t = c.args.config.now in
    let few = subst (λ n. cost_of n s t ≤ 1) (sym c.hold_next-next.ensures) (hold-cost s t c.args.s (volume_seen s t c.args.s.0).fields.flash_hold) in
    let room = c.requires.room in
    omega (arith, few, room)

pub returns : goal.returns
returns g c = record {
  acted = subst (λ n. Acted (g.P.Plant.state c.args.plant.now) (g.P.Plant.state c.act.new.plant) c.args.config.now c.args.journal.now c.act.new.journal n c.act.result) c.hold_next-next.ensures c.act.ensures.acted;
}
