use Rattle.std.proofs.Common.{ℕ, ◌≡◌, Bool, ap, sym, subst, ◌∙◌, not, refl, true, false, rules}
use Rattle.std.specs.Prelude.{is_some}
use Rattle.dr_ids.specs.Sizes.{record_blocks}
use Rattle.dr_plant.specs.State.{PlantState, can_read}
use Rattle.dr_record.specs.Slots.{slot_of}
use Rattle.dr_plant.specs.Writes.{IsDevice, after_writes}
use Rattle.dr_model.specs.Moves.{Carried}
use Rattle.dr_config.specs.Table.{ConfigTable, StandsFor}
use Rattle.dr_volume.specs.declared.fields.Fields.{Fields}
use Rattle.dr_volume.specs.View.{volume_seen}
use Rattle.dr_volume.specs.Volume.{LiesOn, Shows}
use Rattle.dr_volume.specs.Update.{track_with, IsDestaged, destage_writes}
use Rattle.dr_volume.proofs.VolumeLaws.{device-lies, shows-normal}
use Rattle.dr_volume.proofs.RanLaws.{on_err}
use Rattle.dr_volume.proofs.RedoLaws.{staged-fits}
use Rattle.dr_volume.proofs.DestageLaws.{fields_on, Destaged, destaged-unread, destaged-read}
use Rattle.dr_volume.proofs.change.destage.Goals as goal

pub returns-in_err-slot : goal.returns-in_err-slot
returns-in_err-slot g c =
    let s = g.P.Plant.state c.args.plant.now in
    let t = g.P.Plant.state c.read_choice.new.plant in
    let failed = c.from_residual.ensures.0 in
    let all : Destaged c.args.config.now s t c.args.v.0 true = destaged-unread c.args.config.now s t c.args.v.0 c.find-place.result.device.0 _ c.find-place.ensures c.requires.stands (sym c.in_err-slot.ensures.done) c.in_err-slot.ensures.state in
    record {
      answer = search rules;
      written = all.written ∙ (λ i. (t, sym failed i));
      exact = λ rest. record { world = (all.exact rest).world; stopped = failed ∙ (all.exact rest).stopped };
      done = search rules;
      old_or_new = all.old_or_new;
      others = all.others;
      stands = all.stands;
      unarmed = all.unarmed;
      servers = all.servers;
      on = search rules;
      off = on_err c.from_residual.result (λ stopped. all.off refl);
      fault = on_err c.from_residual.result (λ stopped. all.faults);
      no_fault = search rules;
    }

pub unstage-requires-clause-device : goal.unstage-requires-clause-device
unstage-requires-clause-device g c =
    subst (λ y. IsDevice y c.find-place.result.device.0 record_blocks) (sym c.in_ok-slot.ensures.same)
    (device-lies (g.P.Plant.state c.args.plant.now) c.args.config.now c.args.v.0 _ _ c.find-place.ensures c.requires.stands)

pub unstage-requires-clause-track : goal.unstage-requires-clause-track
unstage-requires-clause-track g c =
    let s = g.P.Plant.state c.args.plant.now in
    let same = c.in_ok-slot.ensures.same in
    let d = c.find-place.result.device.0 in
    let shows : Shows s c.args.config.now c.args.v.0 c.fields_on-fields.result =
    shows-normal s c.args.config.now c.args.v.0 d _ _ c.find-place.ensures (c.fields_on-fields.ensures ∙ ap (λ (y : PlantState). fields_on c.find-place.result.tracks (y.block d)) same) in
    (staged-fits c.args.config.now s _ c.args.v.0 d _ c.fields_on-fields.result c.staged_track-old.result c.find-place.ensures c.requires.stands same shows c.staged_track-old.ensures).1

-- what is left where the device could be read
all-read : (c : ConfigTable) (s s1 t : PlantState) (v d n : ℕ) (f : Fields) (o : Carried) (b : Bool) → LiesOn c v d n → StandsFor c s → can_read s d ≡ true → s1 ≡ s → f ≡ fields_on n (s1.block d) → o ≡ track_with f.staged f.staged_bytes → after_writes s1 d (destage_writes (not (slot_of s1 d)) o f) ≡ (t, b) → Destaged c s t v b
all-read c s s1 t v d n f o b on stands can same fields old run =
    destaged-read c s t v d n f b on stands can (fields ∙ ap (λ (y : PlantState). fields_on n (y.block d)) same)
    ((λ i. after_writes (sym same i) d (destage_writes (not (slot_of (sym same i) d)) (sym old i) f)) ∙ run)

pub returns-in_err-unstage : goal.returns-in_err-unstage
returns-in_err-unstage g c =
    let s = g.P.Plant.state c.args.plant.now in
    let t = g.P.Plant.state c.unstage.new.plant in
    let failed = c.from_residual-in_err-unstage.ensures.0 in
    let all : Destaged c.args.config.now s t c.args.v.0 true =
    all-read c.args.config.now s _ t c.args.v.0 c.find-place.result.device.0 _ c.fields_on-fields.result c.staged_track-old.result true c.find-place.ensures c.requires.stands (sym c.in_ok-slot.ensures.done) c.in_ok-slot.ensures.same c.fields_on-fields.ensures c.staged_track-old.ensures c.in_err-unstage.ensures in
    record {
      answer = search rules;
      written = all.written ∙ (λ i. (t, sym failed i));
      exact = λ rest. record { world = (all.exact rest).world; stopped = failed ∙ (all.exact rest).stopped };
      done = search rules;
      old_or_new = all.old_or_new;
      others = all.others;
      stands = all.stands;
      unarmed = all.unarmed;
      servers = all.servers;
      on = search rules;
      off = on_err c.from_residual-in_err-unstage.result (λ stopped. all.off refl);
      fault = on_err c.from_residual-in_err-unstage.result (λ stopped. all.faults);
      no_fault = search rules;
    }

pub returns : goal.returns
returns g c =
    let s = g.P.Plant.state c.args.plant.now in
    let t = g.P.Plant.state c.unstage.new.plant in
    let table = c.args.config.now in
    let v = c.args.v.0 in
    let d = c.find-place.result.device.0 in
    let same = c.in_ok-slot.ensures.same in
    let shows : Shows s table v c.fields_on-fields.result =
    shows-normal s table v d _ _ c.find-place.ensures (c.fields_on-fields.ensures ∙ ap (λ (y : PlantState). fields_on c.find-place.result.tracks (y.block d)) same) in
    let all : Destaged table s t v false =
    all-read table s _ t v d _ c.fields_on-fields.result c.staged_track-old.result false c.find-place.ensures c.requires.stands (sym c.in_ok-slot.ensures.done) same c.fields_on-fields.ensures c.staged_track-old.ensures c.in_ok-unstage.ensures in
    let there : c.is_some-there.result ≡ is_some (volume_seen s table v).staged = c.is_some-there.ensures ∙ ap is_some shows.staged in
    record {
      answer = there;
      written = all.written;
      exact = all.exact;
      done = subst (λ x. IsDestaged x s t table v) (sym there) (all.done refl);
      old_or_new = all.old_or_new;
      others = all.others;
      stands = all.stands;
      unarmed = all.unarmed;
      servers = all.servers;
      on = all.on refl;
      off = tt;
      fault = tt;
      no_fault = all.faults;
    }
