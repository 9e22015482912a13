use Rattle.std.proofs.Common.{subst, Some, None}
use Rattle.dr_model.specs.declared.said.Said.TheVariants.{Done}
use Rattle.dr_model.specs.declared.said.Addition.TheVariants.{Alone}
use Rattle.dr_model.specs.Layout as part
use Rattle.dr_model.specs.Plans.{found_volumes}
use Rattle.dr_model.specs.PairEntries.{failover_entries}
use Rattle.dr_model.specs.ReadStops.{Ends}
use Rattle.dr_moves.specs.Here.{armed_in}
use Rattle.dr_steps.specs.Here.{here, rest_of}
use Rattle.dr_steps.proofs.RelationLemmas.{relations-fit}
use Rattle.dr_steps.proofs.FlashLemmas.{step-nowhere, step-done, step-refused, step-ready}
use Rattle.dr_steps.proofs.returning.fail_over.Goals as goal

pub returns-in-Some-clause-step : goal.returns-in-Some-clause-step
returns-in-Some-clause-step g c =
    let s = g.P.Plant.state c.args.plant.now in let t = c.args.config.now in let h = c.args.tables.now in let ev = c.args.journal.now.events in
    step-nowhere t s s h ev ev (found_volumes c.args.devs.now c.args.b.0 c.args.a.0) (failover_entries (here s t h ev).control c.args.b.0 c.args.a.0 (part.kind_of c.args.kind)) (Done Alone) c.requires.ready.reads c.in-Some.why (c.in-Some.ensures.checked s h ev)

pub take_or_leave-requires-clause-fit : goal.take_or_leave-requires-clause-fit
take_or_leave-requires-clause-fit g c = relations-fit (g.P.Plant.state c.args.plant.now) c.args.config.now c.args.tables.now c.args.journal.now.events c.requires.sound

pub returns-in-Ok-clause-step : goal.returns-in-Ok-clause-step
returns-in-Ok-clause-step g c =
    let s = g.P.Plant.state c.args.plant.now in let t = c.args.config.now in let h = c.args.tables.now in let ev = c.args.journal.now.events in
    step-done t s (g.P.Plant.state c.take_or_leave.new.plant) h ev c.take_or_leave.new.journal.events (found_volumes c.args.devs.now c.args.b.0 c.args.a.0) (failover_entries (here s t h ev).control c.args.b.0 c.args.a.0 (part.kind_of c.args.kind)) (Done Alone) c.requires.ready.reads
    (c.in_default.ensures.checked s h ev) (subst (λ k. Ends (armed_in s) (here (g.P.Plant.state c.take_or_leave.new.plant) t h c.take_or_leave.new.journal.events) None (here s t h ev) (failover_entries (here s t h ev).control c.args.b.0 c.args.a.0 k)) c.kind_of.ensures (c.in-Ok.ensures.carried (rest_of h ev)))

pub returns-in-Ok-clause-ready : goal.returns-in-Ok-clause-ready
returns-in-Ok-clause-ready g c =
    let s = g.P.Plant.state c.args.plant.now in let t = c.args.config.now in let h = c.args.tables.now in let ev = c.args.journal.now.events in
    step-ready t s (g.P.Plant.state c.take_or_leave.new.plant) h ev c.take_or_leave.new.journal.events (found_volumes c.args.devs.now c.args.b.0 c.args.a.0) (failover_entries (here s t h ev).control c.args.b.0 c.args.a.0 (part.kind_of c.args.kind)) (Done Alone) c.requires.ready.reads
    None (c.in_default.ensures.checked s h ev) (subst (λ k. Ends (armed_in s) (here (g.P.Plant.state c.take_or_leave.new.plant) t h c.take_or_leave.new.journal.events) None (here s t h ev) (failover_entries (here s t h ev).control c.args.b.0 c.args.a.0 k)) c.kind_of.ensures (c.in-Ok.ensures.carried (rest_of h ev))) c.in-Ok.ensures.rest c.in-Ok.ensures.unarmed c.requires.ready.told

pub returns-in-Err-clause-step : goal.returns-in-Err-clause-step
returns-in-Err-clause-step g c =
    let s = g.P.Plant.state c.args.plant.now in let t = c.args.config.now in let h = c.args.tables.now in let ev = c.args.journal.now.events in
    step-refused t s (g.P.Plant.state c.take_or_leave.new.plant) h ev c.take_or_leave.new.journal.events (found_volumes c.args.devs.now c.args.b.0 c.args.a.0) (failover_entries (here s t h ev).control c.args.b.0 c.args.a.0 (part.kind_of c.args.kind)) (Done Alone) c.requires.ready.reads
    c.in-Err.refusal (c.in_default.ensures.checked s h ev) (subst (λ k. Ends (armed_in s) (here (g.P.Plant.state c.take_or_leave.new.plant) t h c.take_or_leave.new.journal.events) (Some c.in-Err.refusal) (here s t h ev) (failover_entries (here s t h ev).control c.args.b.0 c.args.a.0 k)) c.kind_of.ensures (c.in-Err.ensures.carried (rest_of h ev)))

pub returns-in-Err-clause-ready : goal.returns-in-Err-clause-ready
returns-in-Err-clause-ready g c =
    let s = g.P.Plant.state c.args.plant.now in let t = c.args.config.now in let h = c.args.tables.now in let ev = c.args.journal.now.events in
    step-ready t s (g.P.Plant.state c.take_or_leave.new.plant) h ev c.take_or_leave.new.journal.events (found_volumes c.args.devs.now c.args.b.0 c.args.a.0) (failover_entries (here s t h ev).control c.args.b.0 c.args.a.0 (part.kind_of c.args.kind)) (Done Alone) c.requires.ready.reads
    (Some c.in-Err.refusal) (c.in_default.ensures.checked s h ev) (subst (λ k. Ends (armed_in s) (here (g.P.Plant.state c.take_or_leave.new.plant) t h c.take_or_leave.new.journal.events) (Some c.in-Err.refusal) (here s t h ev) (failover_entries (here s t h ev).control c.args.b.0 c.args.a.0 k)) c.kind_of.ensures (c.in-Err.ensures.carried (rest_of h ev))) c.in-Err.ensures.rest c.in-Err.ensures.unarmed c.requires.ready.told
