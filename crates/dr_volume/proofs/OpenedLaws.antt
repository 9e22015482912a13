-- What was read of a volume, once a move was made.
use Rattle.std.proofs.Common.{ℕ, ◌≡◌, ◌≢◌, true, false, not, List, refl, sym, ◌∙◌, ap, subst, None, Some}
use Rattle.std.specs.Prelude.{is_some, unwrap_or}
use Rattle.dr_logic.specs.Bytes.{zeros}
use Rattle.dr_plant.specs.State.{PlantState}
use Rattle.dr_record.specs.Slots.{slot_of, choice}
use Rattle.dr_config.specs.Table.{ConfigTable, place_of}
use Rattle.dr_config.specs.declared.entries.VolumeEntry.{VolumeEntry}
use Rattle.dr_model.specs.Layout as layout
use Rattle.dr_model.specs.Layout.{chosen, only_if}
use Rattle.dr_model.specs.Lawful.{IsLawful}
use Rattle.dr_model.specs.Control.{Volume}
use Rattle.dr_model.specs.Moves.{Carried, carried_bytes, staged_after}
use Rattle.dr_volume.specs.declared.fields.Fields.{Fields}
use Rattle.dr_volume.specs.declared.opened.Gate.{Gate}
use Rattle.dr_volume.specs.declared.opened.Opened.{Opened}
use Rattle.dr_volume.specs.Plain.{plain}
use Rattle.dr_volume.specs.View.{device_of, volume_seen}
use Rattle.dr_volume.specs.Volume.{Shows}
use Rattle.dr_volume.specs.Update.{staging, staged_next, next_record, IsAsBefore, IsMoved, OthersStay}
use Rattle.dr_volume.specs.Opened.{IsGate, IsOpened, OthersOpened}
use Rattle.dr_volume.proofs.VolumeLaws.{placed, volume-placed, device-placed, chosen_slot}
use Rattle.dr_volume.proofs.ReadingLaws.{ReadsNext, bytes-next, next-staged, staged_on, plain-staging, bytes-staging}
use Rattle.dr_volume.proofs.SeenLaws.{Lies, seen, apart_devices}
use Rattle.dr_volume.proofs.UpdateLaws.{Task, Run, done-next, update-done}

-- what was opened is what the update leaves
only_some : (m : Carried) (f : Fields) → carried_bytes m ≡ only_if (is_some (staging m f).staged) (carried_bytes m) zeros
only_some None f = refl
only_some (Some t) f = refl

pub opened-next : (c : ConfigTable) (s t : PlantState) (v d : ℕ) (e : VolumeEntry) (f : Fields) (m : Carried) (o g : Gate) (x : Fields) → Task c s v d e true f m → Run s t d e.tracks true f m false → IsGate s c v o → g.device.0 ≡ o.device.0 → g.slot ≡ not o.slot → x ≡ next_record true (staged_on e.tracks (s.block d)) f m → IsOpened t c v (record { gate = g; fields = x })
opened-next c s t v d e f m o g x k run opened device turned fields =
    let next : ReadsNext e.tracks (s.block d) (t.block d) true f m = done-next c s t v d e true f m k run in
    let moved : IsMoved s t c v (plain f) m = update-done c s t v d e true f m k run in
    let kept : Carried = staged_next true f.blank m (staged_on e.tracks (s.block d)) in
    let new : Fields = staging kept f in
    let at : device_of c v ≡ d = device-placed c v d k.lies.place in
    let was : layout.staged e.tracks (s.block d) ≡ (volume_seen s c v).staged = ap (λ (w : Volume). w.staged) (sym (seen c s v d e k.lies s)) in
    let staged : new.staged ≡ (volume_seen t c v).staged =
    next-staged true (layout.staged e.tracks (s.block d)) (chosen (s.block d) 5) f m
    ∙ ap (λ y. staged_after true y f.blank m) was
    ∙ sym (ap (λ (w : Volume). w.staged) moved.volume) in
    let slot : slot_of t d ≡ not o.slot =
    chosen_slot t d ∙ next.slot ∙ ap (λ b. not b) (sym (chosen_slot s d) ∙ ap (λ q. slot_of s q) (sym at) ∙ opened.slot) in
    let shows : Shows t c v new = record {
      fields = plain-staging kept f ∙ sym (ap (λ (w : Volume). w.fields) moved.volume);
      staged = staged;
      staged_bytes =
          bytes-staging kept f ∙ only_some kept f
          ∙ ap (λ bs. only_if (is_some new.staged) bs zeros) (sym (bytes-next e.tracks (s.block d) (t.block d) true f m k.fits next))
          ∙ (λ i. only_if (is_some (staged i)) (chosen (t.block (sym at i)) 5) zeros);
      lawful =
          subst (λ (w : Volume). IsLawful w.tracks (plain new)) (sym moved.volume)
          (subst (λ (w : Volume). IsLawful w.tracks (plain new)) (sym (seen c s v d e k.lies s))
          (subst (λ y. IsLawful e.tracks y) (sym (plain-staging kept f)) k.fits.lawful));
    } in
    record {
      gate = record { device = device ∙ opened.device; slot = ap (λ q. slot_of t q) at ∙ slot ∙ sym turned };
      shows = subst (λ y. Shows t c v y) (sym fields) shows;
    }

-- where a volume's device and what is seen of it are as before, so is what was opened
opened-along : (c : ConfigTable) (s t : PlantState) (u : ℕ) (o : Opened) → t.block (device_of c u) ≡ s.block (device_of c u) → IsAsBefore s t c u → IsOpened s c u o → IsOpened t c u o
opened-along c s t u o same before h = record {
  gate = record { device = h.gate.device; slot = ap (λ (b : ℕ → List ℕ). choice (b 0)) same ∙ h.gate.slot };
  shows = record {
    fields = h.shows.fields ∙ sym (ap (λ (w : Volume). w.fields) before.volume);
    staged = h.shows.staged ∙ sym (ap (λ (w : Volume). w.staged) before.volume);
    staged_bytes = h.shows.staged_bytes ∙ sym (λ i. only_if (is_some (before.volume i).staged) (chosen (same i) 5) zeros);
    lawful = subst (λ (w : Volume). IsLawful w.tracks (plain o.fields)) (sym before.volume) h.shows.lawful;
  };
}

pub others-opened : (c : ConfigTable) (s t : PlantState) (v d : ℕ) (e : VolumeEntry) → Lies c s v d e → ((j b : ℕ) → j ≢ d → t.block j b ≡ s.block j b) → OthersStay s t c v → OthersOpened s t c v
others-opened c s t v d e lies apart others u o ne defined h =
    opened-along c s t u o
    (elim (place_of c u) as (λ p. place_of c u ≡ p → is_some p ≡ true → t.block (unwrap_or p 0) ≡ s.block (unwrap_or p 0)) [
      | None ↦ λ is some. absurd (cc some)
      | Some j ↦ λ is some i b. apart j b (apart_devices c s v u d j e lies ne is) i
    ] refl defined)
    (others u ne) h

-- the slot that was read is the volume's
pub slot-opened : (s : PlantState) (t : ConfigTable) (v : ℕ) (g : Gate) → is_some (place_of t v) ≡ true → IsGate s t v g → g.slot ≡ (volume_seen s t v).slot
slot-opened s t v g defined gate =
    let at = placed t v defined in
    sym gate.slot ∙ ap (slot_of s) (device-placed t v at.0 at.2) ∙ chosen_slot s at.0 ∙ sym (ap (λ (w : Volume). w.slot) (volume-placed s t v at.0 at.1 at.2 at.3))
