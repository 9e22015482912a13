use Rattle.dr_moves.specs.Here.{world_seen, armed_in, refusal_of}
use Rattle.dr_moves.proofs.EntryLemmas.{only-stops}
use Rattle.dr_flash.proofs.making.establish.Goals as goal

pub returns-in-Some-clause-carried : goal.returns-in-Some-clause-carried
returns-in-Some-clause-carried g c r = c.in-Some.ensures.checked r c.args.journal.now.events (armed_in (g.P.Plant.state c.args.plant.now)) _

pub returns-clause-carried : goal.returns-clause-carried
returns-clause-carried g c r =
    let s = g.P.Plant.state c.args.plant.now in
    let u = world_seen (g.P.Plant.state c.make_target.new.plant) c.args.config.now r c.make_target.new.journal.events in
    c.in_default.ensures.checked r c.args.journal.now.events (armed_in s) u (refusal_of c.make_target.result) _ (c.make_target.ensures.carried r)

pub returns-clause-unchanged : goal.returns-clause-unchanged
returns-clause-unchanged g c calm = only-stops _ c.make_target.result _ c.make_target.ensures.refused calm
