use Rattle.std.proofs.Common.{refl, subst, None}
use Rattle.dr_model.specs.Forming.{part, stays}
use Rattle.dr_model.specs.Plans.{drain_plan}
use Rattle.dr_moves.specs.Here.{refusal_of}
use Rattle.dr_steps.specs.Formed.{Reaches, drain_next}
use Rattle.dr_steps.specs.Here.{here}
use Rattle.dr_steps.proofs.ExchangeLemmas.{members-ready}
use Rattle.dr_steps.proofs.FormingLemmas.{reaches-alone}
use Rattle.dr_steps.proofs.forming.drain_place.Goals as goal

pub primary_to_drain-requires-clause-members : goal.primary_to_drain-requires-clause-members
primary_to_drain-requires-clause-members g c = members-ready (g.P.Plant.state c.args.plant.now) c.args.config.now c.args.tables.now c.args.journal.now.events c.requires.sound c.args.s.0

pub returns-in-Some-clause-way : goal.returns-in-Some-clause-way
returns-in-Some-clause-way g c =
    let s = g.P.Plant.state c.args.plant.now in let t = c.args.config.now in let h = c.args.tables.now in let ev = c.args.journal.now.events in
    let w = here s t h ev in let v = here (g.P.Plant.state c.drain_alone.new.plant) t c.drain_alone.new.tables c.drain_alone.new.journal.events in
    subst (λ o. Reaches (drain_next w o stays) v (refusal_of c.drain_alone.result)) (c.in-Some.ensures.next h ev)
    (reaches-alone (part w (drain_plan w.control c.in-Some.primary.a.0 None)) v (refusal_of c.drain_alone.result) c.drain_alone.ensures.way)

pub returns-in-None-clause-way : goal.returns-in-None-clause-way
returns-in-None-clause-way g c =
    let s = g.P.Plant.state c.args.plant.now in let t = c.args.config.now in let h = c.args.tables.now in let ev = c.args.journal.now.events in
    let w = here s t h ev in
    subst (λ o. Reaches (drain_next w o stays) w None) (c.in-None.ensures.next h ev) (record { world = refl; refusal = refl })
