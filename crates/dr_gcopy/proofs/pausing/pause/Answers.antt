use Rattle.std.proofs.Common.{false, [], ◌∷◌}
use Rattle.dr_model.specs.Carry.{now}
use Rattle.dr_model.specs.Moves.{Suspend}
use Rattle.dr_model.specs.PairEntries.{tell_paused}
use Rattle.dr_moves.specs.Here.{world_seen, armed_in, refusal_of}
use Rattle.dr_gcopy.proofs.PairChecks.{unless-stopped}
use Rattle.dr_moves.proofs.EntryLemmas.{ends-by}
use Rattle.dr_gcopy.proofs.pausing.pause.Goals as goal

pub returns-clause-carried : goal.returns-clause-carried
returns-clause-carried g c r =
    c.in_default.ensures.checked r c.args.journal.now.events (armed_in (g.P.Plant.state c.args.plant.now)) (world_seen (g.P.Plant.state c.carry_both.new.plant) c.args.config.now r c.carry_both.new.journal.events) (refusal_of c.carry_both.result) _
    (ends-by c.carry_both.result (armed_in (g.P.Plant.state c.args.plant.now)) (λ r. (world_seen (g.P.Plant.state c.args.plant.now) c.args.config.now r c.args.journal.now.events)) (λ r. (world_seen (g.P.Plant.state c.carry_both.new.plant) c.args.config.now r c.carry_both.new.journal.events)) (λ r. now (Suspend c.args.a.0 false) ∷ tell_paused c.args.a.0 c.args.b.0 ∷ []) c.carry_both.ensures.leads c.carry_both.ensures.fails r)

pub returns-clause-unchanged : goal.returns-clause-unchanged
returns-clause-unchanged g c calm = unless-stopped _ c.carry_both.result c.carry_both.ensures.stops calm
