use Rattle.std.proofs.Common.{ℕ, List, Option, ◌≡◌, ◌<◌, ap, sym, subst, ◌∙◌, not, cond, inl, refl, true, false, rules}
use Rattle.std.specs.Prelude.{is_err, IfSome}
use Rattle.dr_logic.specs.Counts.{risen}
use Rattle.dr_ids.specs.Sizes.{record_blocks, track_block}
use Rattle.dr_plant.specs.State.{PlantState, after_read, can_read}
use Rattle.dr_record.specs.Slots.{slot_of}
use Rattle.dr_plant.specs.Writes.{IsDevice, after_writes}
use Rattle.dr_config.specs.Table.{StandsFor}
use Rattle.dr_model.specs.Lawful.{HasEntries}
use Rattle.dr_model.specs.Moves.{Carried}
use Rattle.dr_volume.specs.View.{volume_seen}
use Rattle.dr_volume.specs.Update.{saving_seen, staged_seen, stages, update_writes, read_and_write, IsAsBefore}
use Rattle.dr_volume.proofs.VolumeLaws.{device-placed, device-lies}
use Rattle.dr_volume.proofs.RanLaws.{ran, ran-stands, read-goes, read-stops, on_ok, on_err}
use Rattle.dr_volume.proofs.SeenLaws.{lies-of, others-stay}
use Rattle.dr_volume.proofs.UpdateLaws.{Run, Changed, task, changed, saving-lies, read-first, idle, server-seen, update-unread}
use Rattle.dr_volume.proofs.RedoLaws.{seen-staged, seen-fits, staged-looked, staging-stages, restaged}
use Rattle.dr_volume.proofs.SavingLaws.{tracks-there, side-fits}
use Rattle.dr_volume.proofs.change.update.Goals as goal

-- the volume could not be read
pub returns-in_err-slot : goal.returns-in_err-slot
returns-in_err-slot g c =
    let s = g.P.Plant.state c.args.plant.now in
    let t = g.P.Plant.state c.read_choice.new.plant in
    let table = c.args.config.now in
    let v = c.args.v.0 in
    let d = c.find-place.result.device.0 in
    let at = device-placed table v d c.find-place.ensures.place in
    let x = lies-of table s v d _ c.find-place.ensures c.requires.stands in
    let stuck : can_read s d ≡ false = sym c.in_err-slot.ensures.done in
    let is : t ≡ after_read s d = c.in_err-slot.ensures.state in
    let failed = c.from_residual.ensures.0 in
    let ws = update_writes (not (volume_seen s table v).slot) (saving_seen s table v c.args.next.now.entries) (staged_seen s table v) c.args.next.now c.args.staged in
    let r = ran s t d ws true (read-stops s d ws stuck ∙ (λ i. (sym is i, true))) in
    let others = others-stay table s t v d x.0 x.1 r.apart in
    let server = server-seen table s v d x.0 x.1 in
    record {
      written = ap (λ q. read_and_write s q ws) at ∙ read-stops s d ws stuck ∙ (λ i. (sym is i, sym failed i));
      exact = λ rest. update-unread table s t v d x.0 c.args.next.now c.args.staged _ rest x.1 others stuck is failed;
      done = search rules;
      old_or_new = inl (subst (λ u. IsAsBefore s u table v) (sym is) (idle table s v d x.0 x.1));
      others = others;
      stands = ran-stands table s t d true r c.requires.stands;
      unarmed = r.unarmed;
      servers = λ q ne. r.others q (λ e. ne (e ∙ sym server));
      on = search rules;
      off = on_err c.from_residual.result (λ stopped. ap t.on server ∙ r.off refl);
      fault = on_err c.from_residual.result (λ stopped. r.faults);
      no_fault = search rules;
    }

pub rewrite-requires-clause-device : goal.rewrite-requires-clause-device
rewrite-requires-clause-device g c =
    subst (λ y. IsDevice y c.find-place.result.device.0 record_blocks) (sym c.in_ok-slot.ensures.same)
    (device-lies (g.P.Plant.state c.args.plant.now) c.args.config.now c.args.v.0 _ _ c.find-place.ensures c.requires.stands)

pub rewrite-requires-clause-track : goal.rewrite-requires-clause-track
rewrite-requires-clause-track g c =
    let s = g.P.Plant.state c.args.plant.now in
    let table = c.args.config.now in
    let v = c.args.v.0 in
    let d = c.find-place.result.device.0 in
    let x = lies-of table s v d _ c.find-place.ensures c.requires.stands in
    let old = staged-looked table s _ v d _ x.0 _ c.find-place.ensures x.1 c.in_ok-slot.ensures.same c.staged_on-old.ensures in
    let is = ap stages c.stage.ensures ∙ staging-stages c.staged_on-old.result c.args.next.now in
    subst (λ (y : PlantState). IfSome (stages c.stage.new.fields) (λ t. (t.0 < 256) × (track_block t.0 < y.size d))) (sym c.in_ok-slot.ensures.same)
    (subst (λ (m : Carried). IfSome m (λ t. (t.0 < 256) × (track_block t.0 < s.size d))) (seen-staged table s v d x.0 x.1 ∙ sym old ∙ sym is)
    (seen-fits table s v d _ c.find-place.ensures c.requires.stands).1)

pub saving-side-requires-clause-stands : goal.saving-side-requires-clause-stands
saving-side-requires-clause-stands g c = subst (λ y. StandsFor c.args.config.now y) (sym c.in_ok-slot.ensures.same) c.requires.stands

pub saving-side-requires-clause-slot : goal.saving-side-requires-clause-slot
saving-side-requires-clause-slot g c =
    (λ i. slot_of (c.in_ok-slot.ensures.same i) (device-placed c.args.config.now c.args.v.0 c.find-place.result.device.0 c.find-place.ensures.place i)) ∙ sym c.in_ok-slot.ensures.slot

pub saving-side-requires-clause-lawful : goal.saving-side-requires-clause-lawful
saving-side-requires-clause-lawful g c =
    subst (λ (y : PlantState). HasEntries (volume_seen y c.args.config.now c.args.v.0).tracks c.args.next.now.entries) (sym c.in_ok-slot.ensures.same) c.requires.lawful.entries

pub rewrite-requires-clause-side : goal.rewrite-requires-clause-side
rewrite-requires-clause-side g c =
    let s = g.P.Plant.state c.args.plant.now in
    let table = c.args.config.now in
    let v = c.args.v.0 in
    let d = c.find-place.result.device.0 in
    let law = subst (λ n. HasEntries n c.args.next.now.entries) (tracks-there s table v d _ c.find-place.ensures) c.requires.lawful.entries in
    subst (λ (y : PlantState). IfSome c.saving-side.result (λ x. x.0 < y.size d)) (sym c.in_ok-slot.ensures.same)
    (subst (λ (o : Option (ℕ × List ℕ)). IfSome o (λ x. x.0 < s.size d)) (sym (c.saving-side.ensures ∙ ap (λ (y : PlantState). saving_seen y table v c.args.next.now.entries) c.in_ok-slot.ensures.same))
    (side-fits s table v d _ c.find-place.ensures c.args.next.now.entries c.requires.stands law))

pub returns : goal.returns
returns g c =
    let s = g.P.Plant.state c.args.plant.now in
    let t = g.P.Plant.state c.rewrite.new.plant in
    let table = c.args.config.now in
    let v = c.args.v.0 in
    let d = c.find-place.result.device.0 in
    let f = c.args.next.now in
    let m = c.args.staged in
    let b = is_err c.rewrite.result in
    let same = c.in_ok-slot.ensures.same in
    let at = device-placed table v d c.find-place.ensures.place in
    let k = task table s v d _ f m c.find-place.ensures c.requires.stands c.requires.lawful c.requires.within c.requires.covers c.requires.follows in
    let old = staged-looked table s _ v d _ k.0 _ c.find-place.ensures k.1.lies same c.staged_on-old.ensures in
    let x = c.saving-side.result in
    let side = c.saving-side.ensures ∙ ap (λ (y : PlantState). saving_seen y table v f.entries) same ∙ saving-lies table s v d k.0 k.1.lies f in
    let run : Run s t d k.0.tracks true f m b =
    (λ i. after_writes s d (update_writes (not (slot_of s d)) (sym side i) (sym old i) f m))
    ∙ ap (after_writes s d) (sym (ap (λ g. update_writes (not (slot_of s d)) x (stages g) g m) c.stage.ensures ∙ restaged (not (slot_of s d)) x c.staged_on-old.result m f))
    ∙ subst (λ (y : PlantState). after_writes y d (update_writes (not (slot_of y d)) x (stages c.stage.new.fields) c.stage.new.fields m) ≡ (t, b)) same c.rewrite.ensures.written in
    let all : Changed table s t v true f m b = changed table s t v d k.0 true f m b c.requires.stands k.1 run in
    let can : can_read s d ≡ true = sym c.in_ok-slot.ensures.done in
    record {
      written = ap (λ q. read_and_write s q (update_writes (not (volume_seen s table v).slot) (saving_seen s table v f.entries) (staged_seen s table v) f m)) at ∙ read-goes s d _ can ∙ ap (λ q. after_writes s q (update_writes (not (volume_seen s table v).slot) (saving_seen s table v f.entries) (staged_seen s table v) f m)) (sym at) ∙ all.written;
      exact = λ rest. read-first table s t v d k.0 _ b rest _ k.1.lies all.others (λ stuck. absurd (let never : true ≡ false = sym can ∙ stuck in cc)) (λ pass. all.exact rest) refl;
      done = on_ok c.rewrite.result all.done;
      old_or_new = all.old_or_new;
      others = all.others;
      stands = all.stands;
      unarmed = all.unarmed;
      servers = all.servers;
      on = on_ok c.rewrite.result all.on;
      off = on_err c.rewrite.result all.off;
      fault = on_err c.rewrite.result (λ stopped. all.faults ∙ ap (λ x. cond x (risen s.faults) s.faults) stopped);
      no_fault = on_ok c.rewrite.result (λ ok. all.faults ∙ ap (λ x. cond x (risen s.faults) s.faults) ok);
    }
