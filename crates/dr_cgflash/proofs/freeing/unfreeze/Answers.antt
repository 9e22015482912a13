use Rattle.std.proofs.Common.{map}
use Rattle.dr_model.specs.WriteEntries.{flash_free_on}
use Rattle.dr_volume.specs.View.{ids_of}
use Rattle.dr_moves.specs.Here.{world_seen, armed_in}
use Rattle.dr_moves.proofs.TurnLemmas.{ok-along, err-along}
use Rattle.dr_freeze.specs.Checks.{owner_in, thaw_checks}
use Rattle.dr_cgflash.proofs.EndLemmas.{ends-behind, all-released}
use Rattle.dr_cgflash.proofs.freeing.unfreeze.Goals as goal

pub returns-in-Some-clause-carried : goal.returns-in-Some-clause-carried
returns-in-Some-clause-carried g c r =
    c.in-Some.ensures.checked r c.args.journal.now.events (armed_in (g.P.Plant.state c.args.plant.now)) (map (flash_free_on c.args.l.0) (ids_of c.args.config.now.volumes))

pub returns-clause-carried : goal.returns-clause-carried
returns-clause-carried g c r =
    let s = g.P.Plant.state c.args.plant.now in
    let t = c.args.config.now in
    let last = world_seen (g.P.Plant.state c.free_all.new.plant) t r c.free_all.new.journal.events in
    ends-behind c.free_all.result (armed_in s) (world_seen s t r c.args.journal.now.events) last (thaw_checks (owner_in t c.args.l.0)) (map (flash_free_on c.args.l.0) (ids_of t.volumes)) (c.in_default.ensures.checked r c.args.journal.now.events)
    (ok-along c.free_all.result c.free_all.ensures.leads (λ leads. leads r)) (err-along c.free_all.result c.free_all.ensures.fails c.free_all.ensures.stops (λ fails stops. fails r))

pub returns-clause-released : goal.returns-clause-released
returns-clause-released g c =
    ok-along c.free_all.result c.free_all.ensures.released
    (all-released (g.P.Plant.state c.args.plant.now) (g.P.Plant.state c.free_all.new.plant) c.args.config.now c.args.l.0 c.in_default.ensures.sound c.in_default.ensures.running)
