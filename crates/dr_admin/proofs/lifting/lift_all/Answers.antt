use Rattle.dr_moves.specs.Here.{world_seen, armed_in}
use Rattle.dr_moves.proofs.EntryLemmas.{ends-by}
use Rattle.dr_admin.specs.Starting.{lift_from}
use Rattle.dr_admin.proofs.lifting.lift_all.Goals as goal

pub returns-clause-carried : goal.returns-clause-carried
returns-clause-carried g c =
    let s = g.P.Plant.state c.args.plant.now in
    let t = c.args.config.now in
    ends-by c.carry.result (armed_in s) (λ r. world_seen s t r c.args.journal.now.events) (λ r. world_seen (g.P.Plant.state c.carry.new.plant) t r c.carry.new.journal.events) (λ r. lift_from t c.args.s.0 0) c.carry.ensures.leads c.carry.ensures.fails
