use Rattle.std.proofs.Common.{[], refl}
use Rattle.dr_volume.specs.View.{Rest}
use Rattle.dr_moves.specs.Here.{world_seen, armed_in}
use Rattle.dr_moves.proofs.EntryLemmas.{made-ok}
use Rattle.dr_moves.proofs.TurnLemmas.{ok-along, err-along}
use Rattle.dr_failover.specs.Steps.{failback_moves}
use Rattle.dr_failover.specs.Turning.{BothMade}
use Rattle.dr_failover.proofs.turning.turn_both.Goals as goal

pub returns-clause-turned : goal.returns-clause-turned
returns-clause-turned g c =
    let s = g.P.Plant.state c.args.plant.now in
    let u = g.P.Plant.state c.carry.new.plant in
    let t = c.args.config.now in
    ok-along c.carry.result (made-ok c.carry.result (λ over. BothMade over s u t c.args.x.0 c.args.y.0) c.carry.ensures.makes) (λ made. made.turned refl)
