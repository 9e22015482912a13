use Rattle.std.proofs.Common.{ℕ, List, Option, ◌<◌, ap, subst, sym, refl, ◌∙◌, true, not, cond}
use Rattle.std.specs.Prelude.{is_err, IfSome}
use Rattle.dr_logic.specs.Counts.{risen}
use Rattle.dr_ids.specs.Sizes.{track_block}
use Rattle.dr_record.specs.Slots.{slot_of}
use Rattle.dr_plant.specs.Writes.{after_writes}
use Rattle.dr_model.specs.Moves.{Carried}
use Rattle.dr_model.specs.Lawful.{HasEntries}
use Rattle.dr_volume.specs.Update.{update_writes, next_record}
use Rattle.dr_volume.proofs.RanLaws.{ran-written, on_ok, on_err}
use Rattle.dr_volume.proofs.VolumeLaws.{lies-opened, device-lies}
use Rattle.dr_volume.proofs.UpdateLaws.{Run, Changed, task, changed, saving-lies}
use Rattle.dr_volume.proofs.SavingLaws.{tracks-there, side-fits}
use Rattle.dr_volume.proofs.RedoLaws.{seen-staged, seen-fits}
use Rattle.dr_volume.proofs.OpenedLaws.{opened-next, others-opened}
use Rattle.dr_volume.proofs.opened.Gate.change.Goals as goal

pub rewrite-requires-clause-device : goal.rewrite-requires-clause-device
rewrite-requires-clause-device g c =
    let lies = lies-opened c.args.config.now c.args.v.0 c.args.self.now.device.0 c.tell_sound.ensures c.requires.defined c.requires.gate.device in
    device-lies (g.P.Plant.state c.args.plant.now) c.args.config.now c.args.v.0 _ lies.0 lies.1 c.requires.stands

pub rewrite-requires-clause-chosen : goal.rewrite-requires-clause-chosen
rewrite-requires-clause-chosen g c = ap (slot_of (g.P.Plant.state c.args.plant.now)) c.requires.gate.device ∙ c.requires.gate.slot

pub rewrite-requires-clause-track : goal.rewrite-requires-clause-track
rewrite-requires-clause-track g c =
    let s = g.P.Plant.state c.args.plant.now in
    let d = c.args.self.now.device.0 in
    let lies = lies-opened c.args.config.now c.args.v.0 d c.tell_sound.ensures c.requires.defined c.requires.gate.device in
    subst (λ (m : Carried). IfSome m (λ t. (t.0 < 256) × (track_block t.0 < s.size d))) (sym c.requires.staged)
    (seen-fits c.args.config.now s c.args.v.0 d lies.0 lies.1 c.requires.stands).1

pub saving-side-requires-clause-slot : goal.saving-side-requires-clause-slot
saving-side-requires-clause-slot g c = c.requires.gate.slot

pub saving-side-requires-clause-lawful : goal.saving-side-requires-clause-lawful
saving-side-requires-clause-lawful g c = c.requires.lawful.entries

pub rewrite-requires-clause-side : goal.rewrite-requires-clause-side
rewrite-requires-clause-side g c =
    let s = g.P.Plant.state c.args.plant.now in
    let table = c.args.config.now in
    let v = c.args.v.0 in
    let d = c.args.self.now.device.0 in
    let lies = lies-opened table v d c.tell_sound.ensures c.requires.defined c.requires.gate.device in
    let law = subst (λ n. HasEntries n c.args.next.now.entries) (tracks-there s table v d lies.0 lies.1) c.requires.lawful.entries in
    subst (λ (x : Option (ℕ × List ℕ)). IfSome x (λ y. y.0 < s.size d)) (sym c.saving-side.ensures) (side-fits s table v d lies.0 lies.1 c.args.next.now.entries c.requires.stands law)

pub returns : goal.returns
returns g c =
    let s = g.P.Plant.state c.args.plant.now in
    let t = g.P.Plant.state c.rewrite.new.plant in
    let table = c.args.config.now in
    let v = c.args.v.0 in
    let d = c.args.self.now.device.0 in
    let f = c.args.next.now in
    let m = c.args.staged in
    let b = is_err c.rewrite.result in
    let lies = lies-opened table v d c.tell_sound.ensures c.requires.defined c.requires.gate.device in
    let k = task table s v d lies.0 f m lies.1 c.requires.stands c.requires.lawful c.requires.within c.requires.covers c.requires.follows in
    let old = c.requires.staged ∙ seen-staged table s v d k.0 k.1.lies in
    let side = c.saving-side.ensures ∙ saving-lies table s v d k.0 k.1.lies f in
    let run : Run s t d k.0.tracks true f m b = (λ i. after_writes s d (update_writes (not (slot_of s d)) (sym side i) (sym old i) f m)) ∙ c.rewrite.ensures.written in
    let all : Changed table s t v true f m b = changed table s t v d k.0 true f m b c.requires.stands k.1 run in
    record {
      written = all.written;
      exact = all.exact;
      opened = on_ok c.rewrite.result (λ ok. opened-next table s t v d k.0 f m c.args.self.now _ _ k.1 (run ∙ (λ i. (t, ok i))) c.requires.gate refl refl (c.rewrite.ensures.staged ∙ ap (λ o. next_record true o f m) old));
      others_opened = others-opened table s t v d k.0 k.1.lies (ran-written s t d _ b run).apart all.others;
      done = on_ok c.rewrite.result all.done;
      old_or_new = all.old_or_new;
      others = all.others;
      stands = all.stands;
      unarmed = all.unarmed;
      servers = all.servers;
      on = on_ok c.rewrite.result all.on;
      off = on_err c.rewrite.result all.off;
      fault = on_err c.rewrite.result (λ stopped. all.faults ∙ ap (λ x. cond x (risen s.faults) s.faults) stopped);
      no_fault = on_ok c.rewrite.result (λ ok. all.faults ∙ ap (λ x. cond x (risen s.faults) s.faults) ok);
    }
