use Rattle.std.proofs.Common.{◌≡◌, [], ◌∷◌, sym, ◌∙◌, Some, None, true, false}
use Rattle.dr_model.specs.WriteEntries.{freeze_entries, end_freeze}
use Rattle.dr_volume.specs.View.{ids_of}
use Rattle.dr_moves.specs.Here.{world_seen, armed_in}
use Rattle.dr_freeze.proofs.EndLemmas.{freeze-ends, rest-without, fit-without, all-frozen}
use Rattle.dr_freeze.proofs.freezing.freeze.Goals as goal

pub returns-in-Some-clause-carried : goal.returns-in-Some-clause-carried
returns-in-Some-clause-carried g c r =
    c.in-Some.ensures.checked r c.args.journal.now.events (armed_in (g.P.Plant.state c.args.plant.now)) (freeze_entries (ids_of c.args.config.now.volumes) c.args.l.0 c.args.m.0)

pub returns-in-Ok-clause-carried : goal.returns-in-Ok-clause-carried
returns-in-Ok-clause-carried g c r =
    let s = g.P.Plant.state c.args.plant.now in
    let u = g.P.Plant.state c.change_all.new.plant in
    let t = c.args.config.now in
    let last = world_seen u c.end_freeze.new.config r c.end_freeze.new.journal.events in
    c.in_default.ensures.checked r c.args.journal.now.events (armed_in s) last None (freeze_entries (ids_of t.volumes) c.args.l.0 c.args.m.0)
    (c.in-Ok.ensures.leads r (armed_in s) last None (end_freeze c.args.l.0 c.args.m.0 ∷ [])
    (freeze-ends (armed_in s) u t c.end_freeze.new.config r c.change_all.new.journal.events c.end_freeze.new.journal.events c.args.l.0 c.args.m.0 c.end_freeze.ensures.removed c.end_freeze.ensures.events))

pub returns-in-Err-clause-carried : goal.returns-in-Err-clause-carried
returns-in-Err-clause-carried g c r =
    let s = g.P.Plant.state c.args.plant.now in
    let u = g.P.Plant.state c.change_all.new.plant in
    let t = c.args.config.now in
    let last = world_seen u t r c.change_all.new.journal.events in
    c.in_default.ensures.checked r c.args.journal.now.events (armed_in s) last (Some c.in-Err.why) (freeze_entries (ids_of t.volumes) c.args.l.0 c.args.m.0)
    (c.in-Err.ensures.fails r (end_freeze c.args.l.0 c.args.m.0 ∷ []))

pub returns-in-Ok-clause-rest : goal.returns-in-Ok-clause-rest
returns-in-Ok-clause-rest g c = rest-without (g.P.Plant.state c.change_all.new.plant) c.args.config.now c.end_freeze.new.config c.args.l.0 c.args.m.0 c.end_freeze.ensures.removed c.in-Ok.ensures.kept.at.rest

pub returns-in-Ok-clause-fit : goal.returns-in-Ok-clause-fit
returns-in-Ok-clause-fit g c = fit-without (g.P.Plant.state c.change_all.new.plant) c.args.config.now c.end_freeze.new.config c.args.l.0 c.args.m.0 c.end_freeze.ensures.removed c.in-Ok.ensures.kept.at.fit

pub returns-in-Ok-clause-frozen : goal.returns-in-Ok-clause-frozen
returns-in-Ok-clause-frozen g c =
    all-frozen (g.P.Plant.state c.change_all.new.plant) c.args.config.now c.end_freeze.new.config c.args.l.0 c.args.m.0 c.end_freeze.ensures.removed (g.P.Plant.state c.args.plant.now) c.in_default.ensures.sound c.in_default.ensures.running c.in-Ok.ensures.changed

pub returns-in-Err-clause-unchanged : goal.returns-in-Err-clause-unchanged
returns-in-Err-clause-unchanged g c calm = absurd (let no : true ≡ false = sym c.in-Err.ensures.stops ∙ calm in cc)
