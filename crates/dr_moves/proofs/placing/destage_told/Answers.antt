use Rattle.std.proofs.Common.{arith, refl, sym, subst, None, Some}
use Rattle.dr_ids.specs.declared.refusal.Refusal.{Refusal}
use Rattle.dr_model.specs.Plans.{destage_entries}
use Rattle.dr_volume.specs.View.{volume_seen}
use Rattle.dr_moves.specs.Here.{world_seen, armed_in}
use Rattle.dr_moves.specs.Turns.{Fails}
use Rattle.dr_moves.proofs.DestageLemmas.{destaged-leads, destaged-fails, none-written, fields-fit}
use Rattle.dr_moves.proofs.KeptLemmas.{at-after}
use Rattle.dr_moves.proofs.placing.destage_told.Goals as goal

pub returns-in-Ok-clause-leads : goal.returns-in-Ok-clause-leads
returns-in-Ok-clause-leads g c r =
    let s = g.P.Plant.state c.args.plant.now in
    let u = g.P.Plant.state c.destage.new.plant in
    let t = c.args.config.now in
    let x = volume_seen s t c.args.v.0 in
    destaged-leads s u t r c.args.journal.now.events c.args.v.0 c.requires.running x.staged (none-written s u t c.args.v.0 _ _ _ c.in-Ok.ensures.written) (c.in-Ok.ensures.exact (record r { events = c.args.journal.now.events }))

pub returns-in-Err-clause-fails : goal.returns-in-Err-clause-fails
returns-in-Err-clause-fails g c r =
    let s = g.P.Plant.state c.args.plant.now in
    let u = g.P.Plant.state c.destage.new.plant in
    let t = c.args.config.now in
    let x = volume_seen s t c.args.v.0 in
    let fails = destaged-fails s u t r c.args.journal.now.events c.args.v.0 c.requires.running c.gone_off.new.journal.events (c.gone_off.ensures.events s) x.staged refl (c.gone_off.ensures.known s) (c.in-Err.ensures.exact (record r { events = c.args.journal.now.events })) in
    subst (λ (e : Refusal). Fails (armed_in s) (world_seen s t r c.args.journal.now.events) (destage_entries x.staged c.args.v.0) (world_seen u t r c.gone_off.new.journal.events) (Some e)) (sym (c.gone_off.ensures.refusal s)) fails

pub returns-in-Ok-clause-at : goal.returns-in-Ok-clause-at
returns-in-Ok-clause-at g c =
    let s = g.P.Plant.state c.args.plant.now in
    let u = g.P.Plant.state c.destage.new.plant in
    let t = c.args.config.now in
    at-after s u t c.args.v.0 (volume_seen s t c.args.v.0).fields None c.destage.ensures.old_or_new c.destage.ensures.others c.requires.at c.destage.ensures.stands (fields-fit s t c.args.v.0 c.requires.at.fit)

pub returns-in-Err-clause-at : goal.returns-in-Err-clause-at
returns-in-Err-clause-at g c =
    let s = g.P.Plant.state c.args.plant.now in
    let u = g.P.Plant.state c.destage.new.plant in
    let t = c.args.config.now in
    at-after s u t c.args.v.0 (volume_seen s t c.args.v.0).fields None c.destage.ensures.old_or_new c.destage.ensures.others c.requires.at c.destage.ensures.stands (fields-fit s t c.args.v.0 c.requires.at.fit)

pub returns-in-Err-clause-faults : goal.returns-in-Err-clause-faults
returns-in-Err-clause-faults g c = let e = c.in-Err.ensures.fault in omega (arith, e)
