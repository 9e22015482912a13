use Rattle.std.proofs.Common.{sym, ◌∙◌, Some, None}
use Rattle.dr_model.specs.Layout as part
use Rattle.dr_gcopy.specs.Kinds.{part_of}
use Rattle.dr_steps.specs.Here.{rest_of}
use Rattle.dr_steps.proofs.RelationLemmas.{relations-fit}
use Rattle.dr_steps.proofs.PairLemmas.{make-nowhere, make-done, make-refused, make-ready, cascades-global}
use Rattle.dr_steps.proofs.pairs.make_pair.Goals as goal

pub returns-in-Some-clause-step : goal.returns-in-Some-clause-step
returns-in-Some-clause-step g c =
    let s = g.P.Plant.state c.args.plant.now in let t = c.args.config.now in let h = c.args.tables.now in let ev = c.args.journal.now.events in
    make-nowhere t s s h ev ev c.args.devs.now c.args.a.0 c.args.b.0 (part.kind_of c.args.kind) c.args.choices c.requires.ready.reads c.requires.sound c.cascades-cascade.result c.cascades-cascade.ensures c.in-Some.why (c.in-Some.ensures.checked s ev)

pub make_by-requires-clause-fit : goal.make_by-requires-clause-fit
make_by-requires-clause-fit g c = relations-fit (g.P.Plant.state c.args.plant.now) c.args.config.now c.args.tables.now c.args.journal.now.events c.requires.sound

pub make_by-requires-clause-only : goal.make_by-requires-clause-only
make_by-requires-clause-only g c = λ is. c.kind_of.ensures ∙ cascades-global (part.kind_of c.args.kind) c.args.choices (sym c.cascades-cascade.ensures ∙ is)

pub returns-in-Ok-clause-step : goal.returns-in-Ok-clause-step
returns-in-Ok-clause-step g c =
    let s = g.P.Plant.state c.args.plant.now in let t = c.args.config.now in let h = c.args.tables.now in let ev = c.args.journal.now.events in
    make-done t s (g.P.Plant.state c.make_by.new.plant) h ev c.make_by.new.journal.events c.args.devs.now c.args.a.0 c.args.b.0 (part.kind_of c.args.kind) c.args.choices c.requires.ready.reads c.requires.sound c.cascades-cascade.result c.cascades-cascade.ensures (part_of c.kind_of.result) c.kind_of.ensures (c.in_default.ensures.checked s ev) (c.in-Ok.ensures.carried (rest_of h ev))

pub returns-in-Ok-clause-ready : goal.returns-in-Ok-clause-ready
returns-in-Ok-clause-ready g c =
    let s = g.P.Plant.state c.args.plant.now in let t = c.args.config.now in let h = c.args.tables.now in let ev = c.args.journal.now.events in
    make-ready t s (g.P.Plant.state c.make_by.new.plant) h ev c.make_by.new.journal.events c.args.devs.now c.args.a.0 c.args.b.0 (part.kind_of c.args.kind) c.args.choices c.requires.ready.reads c.requires.sound c.cascades-cascade.result c.cascades-cascade.ensures None (part_of c.kind_of.result) c.kind_of.ensures (c.in_default.ensures.checked s ev) (c.in-Ok.ensures.carried (rest_of h ev)) c.in-Ok.ensures.rest c.in-Ok.ensures.unarmed c.requires.ready.told

pub returns-in-Err-clause-step : goal.returns-in-Err-clause-step
returns-in-Err-clause-step g c =
    let s = g.P.Plant.state c.args.plant.now in let t = c.args.config.now in let h = c.args.tables.now in let ev = c.args.journal.now.events in
    make-refused t s (g.P.Plant.state c.make_by.new.plant) h ev c.make_by.new.journal.events c.args.devs.now c.args.a.0 c.args.b.0 (part.kind_of c.args.kind) c.args.choices c.requires.ready.reads c.requires.sound c.cascades-cascade.result c.cascades-cascade.ensures c.in-Err.refusal (part_of c.kind_of.result) c.kind_of.ensures (c.in_default.ensures.checked s ev) (c.in-Err.ensures.carried (rest_of h ev))

pub returns-in-Err-clause-ready : goal.returns-in-Err-clause-ready
returns-in-Err-clause-ready g c =
    let s = g.P.Plant.state c.args.plant.now in let t = c.args.config.now in let h = c.args.tables.now in let ev = c.args.journal.now.events in
    make-ready t s (g.P.Plant.state c.make_by.new.plant) h ev c.make_by.new.journal.events c.args.devs.now c.args.a.0 c.args.b.0 (part.kind_of c.args.kind) c.args.choices c.requires.ready.reads c.requires.sound c.cascades-cascade.result c.cascades-cascade.ensures (Some c.in-Err.refusal) (part_of c.kind_of.result) c.kind_of.ensures (c.in_default.ensures.checked s ev) (c.in-Err.ensures.carried (rest_of h ev)) c.in-Err.ensures.rest c.in-Err.ensures.unarmed c.requires.ready.told
