-- A volume's staged track goes to its place, and then none is staged, as the machine sees it.
use Rattle.std.proofs.Common.{ℕ, ◌≡◌, ◌≢◌, Bool, true, false, not, ◌||◌, List, refl, sym, ◌∙◌, ap, subst, cond, ◌⊎◌, inl, inr, Option, None, Some}
use Rattle.std.specs.Prelude.{is_some, ◌<◌, if◌then◌else◌}
use Rattle.std.specs.FinSet.{contains}
use Rattle.dr_logic.specs.Counts.{risen}
use Rattle.dr_plant.specs.State.{PlantState, after_read, can_read, passes_read}
use Rattle.dr_plant.specs.Writes.{BlockWrite, after_writes}
use Rattle.dr_record.specs.Slots.{slot_of, record_writes}
use Rattle.dr_plant.proofs.WritesLemmas.{append-goes, append-stops}
use Rattle.dr_config.specs.Table.{ConfigTable, StandsFor}
use Rattle.dr_config.specs.declared.entries.VolumeEntry.{VolumeEntry}
use Rattle.dr_model.specs.Layout as layout
use Rattle.dr_model.specs.Layout.{chosen, entry_taken}
use Rattle.dr_model.specs.Lawful.{EntriesFollow}
use Rattle.dr_model.specs.Control.{Volume}
use Rattle.dr_model.specs.Moves.{moved_keeping, tracks_after, saved_after}
use Rattle.dr_model.specs.Carry as machine
use Rattle.dr_model.specs.Carry.{Ended}
use Rattle.dr_volume.specs.declared.fields.Fields.{Fields}
use Rattle.dr_volume.specs.Plain.{plain, normal}
use Rattle.dr_volume.specs.Record.{raw_of, record_block}
use Rattle.dr_volume.specs.View.{Rest, world, volume_seen, device_of}
use Rattle.dr_volume.specs.Volume.{LiesOn, Shows}
use Rattle.dr_volume.specs.Update.{track_with, staging, side_for, track_writes, writes_keeping, destage_writes, read_and_write, staged_seen, fields_seen, unstaged, destaged, IsAsBefore, IsMovedKeeping, IsDestaged, OthersStay, ServerStays, EndsAs, after_reading}
use Rattle.dr_volume.proofs.VolumeLaws.{device-placed, tracks-of, shows-normal}
use Rattle.dr_volume.proofs.RecordLaws.{plain-normal}
use Rattle.dr_volume.proofs.LawfulLaws.{lawful-normal}
use Rattle.dr_volume.proofs.ReadingLaws.{fields-raw, staged_on, track_of, saving_on}
use Rattle.dr_model.proofs.EntryLemmas.{follows-same}
use Rattle.dr_volume.proofs.TakenLaws.{taken-same}
use Rattle.dr_volume.proofs.RanLaws.{Ran, ran, ran-written, ran-stands, read-goes, read-stops}
use Rattle.dr_volume.proofs.RewriteLaws.{Spared, record-low, record-behind}
use Rattle.dr_volume.proofs.SeenLaws.{Lies, lies-of, seen, others-stay}
use Rattle.dr_volume.proofs.UpdateLaws.{Task, Run, Changed, changed, ends_as, read-first, server-seen, slot-seen}
use Rattle.dr_volume.proofs.RedoLaws.{Run as RedoRun, Redone, redone-on, redo-world, redo-spares, redo-stands, shows-staged, seen-staged}

-- the fields of the volume on its device
abbrev pub fields_on : ℕ → layout.Blocks → Fields
fields_on n b = normal n (raw_of (chosen b))

-- once the track was written to its place
module _ (c : ConfigTable) (s u t : PlantState) (v d : ℕ) (e : VolumeEntry) (b : Bool) (lies : Lies c s v d e) (stands : StandsFor c s)
    (first : after_writes s d (track_writes (staged_on e.tracks (s.block d))) ≡ (u, false))
    (last : after_writes u d (record_writes 6 (not (slot_of s d)) (record_block (staging None (fields_on e.tracks (s.block d))))) ≡ (t, b)) where
  abbrev n : ℕ
  n = e.tracks

  abbrev f : Fields
  f = fields_on n (s.block d)

  spared : Spared n (s.block d) (u.block d)
  spared = redo-spares s u d n false first

  frame : Ran s u d false
  frame = ran-written s u d (track_writes (staged_on n (s.block d))) false first

  owner : u.owner ≡ s.owner
  owner = frame.shape.owner

  lies-then : Lies c u v d e
  lies-then = record {
    place = lies.place;
    entry = lies.entry;
    owner = ap (λ (g : ℕ → ℕ). g d) owner ∙ lies.owner;
    low = subst (λ (g : ℕ → ℕ). g d < 8) (sym owner) lies.low;
    few = lies.few;
  }

  fields-then : layout.fields n (u.block d) ≡ plain f
  fields-then =
      fields-raw n (chosen (u.block d)) (chosen (s.block d)) lies.few (record-low (s.block d) (u.block d) spared.low)
      ∙ sym (plain-normal n (chosen (s.block d)) lies.few)

  covers-all : (x y : Bool) → x ≡ y → x ≡ true → (y || false) ≡ true
  covers-all x true is h = refl
  covers-all x false is h = absurd (let never : true ≡ false = sym h ∙ is in cc)

  task-then : Task c u v d e false f None
  task-then = record {
    lies = lies-then;
    fits = record {
      few = lies.few;
      lawful = lawful-normal n (raw_of (chosen (s.block d)));
      within = tt;
      covers = λ k. covers-all (contains (layout.fields n (u.block d)).blank k) (contains f.blank k) (ap (λ (g : layout.Fields). contains g.blank k) fields-then);
      stands = λ no_one. redo-stands s u d n first;
      follows = subst (λ (g : layout.Fields). EntriesFollow g.entries f.entries) (sym fields-then) (follows-same f.entries);
    };
  }

  stands-then : StandsFor c u
  stands-then = ran-stands c s u d false frame stands

  saves-none : saving_on n (u.block d) f ≡ None
  saves-none = ap (λ o. side_for n f.entries (track_of n (u.block d)) o) (ap (λ (g : layout.Fields). entry_taken g.entries f.entries) fields-then ∙ taken-same f.entries)

  run-then : Run u t d n false f None b
  run-then =
      ap (λ side. after_writes u d (writes_keeping false (not (slot_of u d)) side (staged_on n (u.block d)) f None)) saves-none
      ∙ ap (after_writes u d) (sym (record-behind n s u d (staging None f) spared)) ∙ last

  pub changed-then : Changed c u t v false f None b
  changed-then = changed c u t v d e false f None b stands-then task-then run-then

before-then : (c : ConfigTable) (s u t : PlantState) (v : ℕ) → IsAsBefore s u c v → IsAsBefore u t c v → IsAsBefore s t c v
before-then c s u t v h k = record { volume = k.volume ∙ h.volume; tracks = k.tracks ∙ h.tracks; saved = k.saved ∙ h.saved }

moved-then : (c : ConfigTable) (s u t : PlantState) (v : ℕ) (f : layout.Fields) → IsAsBefore s u c v → f ≡ (volume_seen s c v).fields → IsMovedKeeping false u t c v f None → IsMovedKeeping false s t c v (volume_seen s c v).fields None
moved-then c s u t v f h is k = record {
  volume = k.volume ∙ (λ i. moved_keeping false (h.volume i) (is i) None);
  tracks = k.tracks ∙ (λ i. tracks_after (is i) None (h.tracks i));
  saved = k.saved ∙ (λ i. saved_after (h.volume i).fields.entries (is i).entries (h.tracks i) (h.saved i));
}

unstaged-stopped : (o : Option ℕ) (v : ℕ) (e : Ended) → e.stopped ≡ true → unstaged o v e ≡ e
unstaged-stopped None v e is = refl
unstaged-stopped (Some q) v e is = ap (λ b. if b then e else machine.update_keeping false e.world v (e.world.control.volume v).fields None) is

-- How it ends behind a read that passed, and what it leaves of the volume.
record Core (c : ConfigTable) (s t : PlantState) (v d : ℕ) (e : VolumeEntry) (b : Bool) : Type 0 where
  exact : (r : Rest) → passes_read (s.read_fuse (s.owner d)) ≡ true → EndsAs (world t c r) b (destaged (world s c r) v)
  done : b ≡ false → IsDestaged (is_some (layout.staged e.tracks (s.block d))) s t c v
  moved : IsAsBefore s t c v ⊎ IsMovedKeeping false s t c v (volume_seen s c v).fields None

-- it stopped before the record
core-stopped : (c : ConfigTable) (s t : PlantState) (v d : ℕ) (e : VolumeEntry) (b : Bool) → Lies c s v d e → StandsFor c s → b ≡ true → RedoRun s t d e.tracks true → Core c s t v d e b
core-stopped c s t v d e b lies stands stopped run =
    let all : Redone c s t v true = redone-on c s t v d e true lies stands run in
    record {
      exact = λ r pass.
          let x = redo-world c s t v d e true r lies (all.same v) (λ u ne. all.same u) run pass in
          ends_as (world t c r) b _ _ (unstaged-stopped (volume_seen s c v).staged v (machine.redo (world s c r) v) (sym x.stopped))
          (record { world = x.world; stopped = stopped ∙ x.stopped });
      done = λ ok. absurd (let never : true ≡ false = sym stopped ∙ ok in cc);
      moved = inl (all.same v);
    }

-- none is staged
core-none : (c : ConfigTable) (s t : PlantState) (v d : ℕ) (e : VolumeEntry) (b : Bool) → Lies c s v d e → StandsFor c s → layout.staged e.tracks (s.block d) ≡ None → RedoRun s t d e.tracks b → Core c s t v d e b
core-none c s t v d e b lies stands none run =
    let all : Redone c s t v b = redone-on c s t v d e b lies stands run in
    let is : (volume_seen s c v).staged ≡ None = ap (λ (w : Volume). w.staged) (seen c s v d e lies s) ∙ none in
    record {
      exact = λ r pass.
          ends_as (world t c r) b _ _ (ap (λ o. unstaged o v (machine.redo (world s c r) v)) is)
          (redo-world c s t v d e b r lies (all.same v) (λ u ne. all.same u) run pass);
      done = λ ok. subst (λ o. IsDestaged (is_some o) s t c v) (sym none) (all.same v);
      moved = inl (all.same v);
    }

-- the track was written, and the record follows
core-then : (c : ConfigTable) (s u t : PlantState) (v d : ℕ) (e : VolumeEntry) (b : Bool) (q : ℕ) → Lies c s v d e → StandsFor c s → layout.staged e.tracks (s.block d) ≡ Some q → can_read s d ≡ true
    → after_writes s d (track_writes (staged_on e.tracks (s.block d))) ≡ (u, false)
    → after_writes u d (record_writes 6 (not (slot_of s d)) (record_block (staging None (fields_on e.tracks (s.block d))))) ≡ (t, b)
    → Core c s t v d e b
core-then c s u t v d e b q lies stands some can first last =
    let f : Fields = fields_on e.tracks (s.block d) in
    let run : RedoRun s u d e.tracks false = read-goes s d (track_writes (staged_on e.tracks (s.block d))) can ∙ first in
    let all : Redone c s u v false = redone-on c s u v d e false lies stands run in
    let then_all : Changed c u t v false f None b = changed-then c s u t v d e b lies stands first last in
    let is : (volume_seen s c v).staged ≡ Some q = ap (λ (w : Volume). w.staged) (seen c s v d e lies s) ∙ some in
    let same : plain f ≡ (volume_seen s c v).fields = plain-normal e.tracks (chosen (s.block d)) lies.few ∙ sym (ap (λ (w : Volume). w.fields) (seen c s v d e lies s)) in
    let later : (volume_seen u c v).fields ≡ plain f = ap (λ (w : Volume). w.fields) (all.same v).volume ∙ sym same in
    record {
      exact = λ r pass.
          let x = redo-world c s u v d e false r lies (all.same v) (λ k ne. all.same k) run pass in
          let y : Ended = machine.redo (world s c r) v in
          ends_as (world t c r) b _ _
          (ap (λ o. unstaged o v y) is
          ∙ (λ i. if sym x.stopped i then y else machine.update_keeping false (sym x.world i) v ((sym x.world i).control.volume v).fields None)
          ∙ ap (λ g. machine.update_keeping false (world u c r) v g None) later)
          (then_all.exact r);
      done = λ ok. subst (λ o. IsDestaged (is_some o) s t c v) (sym some) (moved-then c s u t v (plain f) (all.same v) same (then_all.done ok));
      moved = elim then_all.old_or_new [
        | inl h ↦ inl (before-then c s u t v (all.same v) h)
        | inr h ↦ inr (moved-then c s u t v (plain f) (all.same v) same h)
      ];
    }

-- the writes on the device
abbrev writes_on : PlantState → ℕ → ℕ → Option ℕ → List BlockWrite
writes_on s d n o = destage_writes (not (slot_of s d)) (track_with o (chosen (s.block d) 5)) (fields_on n (s.block d))

core-some : (c : ConfigTable) (s t : PlantState) (v d : ℕ) (e : VolumeEntry) (b : Bool) (q : ℕ) → Lies c s v d e → StandsFor c s → layout.staged e.tracks (s.block d) ≡ Some q → can_read s d ≡ true → after_writes s d (writes_on s d e.tracks (Some q)) ≡ (t, b) → Core c s t v d e b
core-some c s t v d e b q lies stands some can run =
    let ws = track_writes (Some (q, chosen (s.block d) 5)) in
    let last = record_writes 6 (not (slot_of s d)) (record_block (staging None (fields_on e.tracks (s.block d)))) in
    let r = after_writes s d ws in
    let is : track_writes (staged_on e.tracks (s.block d)) ≡ ws = ap (λ o. track_writes (track_with o (chosen (s.block d) 5))) some in
    elim r.1 as (λ x. r.1 ≡ x → Core c s t v d e b) [
      | true ↦ λ stuck.
          let stops : ◌≡◌ {A = PlantState × Bool} r (r.0, true) = (λ i. (r.0, stuck i)) in
          let same : ◌≡◌ {A = PlantState × Bool} (r.0, true) (t, b) = sym (append-stops s r.0 d ws last stops) ∙ run in
          core-stopped c s t v d e b lies stands (ap (λ (p : PlantState × Bool). p.1) (sym same))
          (read-goes s d _ can ∙ ap (after_writes s d) is ∙ stops ∙ (λ i. (ap (λ (p : PlantState × Bool). p.0) same i, true)))
      | false ↦ λ passed.
          let goes : ◌≡◌ {A = PlantState × Bool} r (r.0, false) = (λ i. (r.0, passed i)) in
          core-then c s r.0 t v d e b q lies stands some can (ap (after_writes s d) is ∙ goes) (sym (append-goes s r.0 d ws last goes) ∙ run)
    ] refl

core : (c : ConfigTable) (s t : PlantState) (v d : ℕ) (e : VolumeEntry) (b : Bool) → Lies c s v d e → StandsFor c s → read_and_write s d (writes_on s d e.tracks (layout.staged e.tracks (s.block d))) ≡ (t, b) → Core c s t v d e b
core c s t v d e b lies stands run =
    let ws = writes_on s d e.tracks (layout.staged e.tracks (s.block d)) in
    elim (can_read s d) as (λ x. can_read s d ≡ x → Core c s t v d e b) [
      | false ↦ λ stuck.
          let same : ◌≡◌ {A = PlantState × Bool} (after_read s d, true) (t, b) = sym (read-stops s d ws stuck) ∙ run in
          core-stopped c s t v d e b lies stands (ap (λ (p : PlantState × Bool). p.1) (sym same))
          (read-stops s d (track_writes (staged_on e.tracks (s.block d))) stuck ∙ (λ i. (ap (λ (p : PlantState × Bool). p.0) same i, true)))
      | true ↦ λ can.
          elim (layout.staged e.tracks (s.block d)) as (λ o. layout.staged e.tracks (s.block d) ≡ o → Core c s t v d e b) [
            | None ↦ λ none. core-none c s t v d e b lies stands none
                (ap (λ o. read_and_write s d (track_writes (track_with o (chosen (s.block d) 5)))) none ∙ sym (ap (λ o. read_and_write s d (writes_on s d e.tracks o)) none) ∙ run)
            | Some q ↦ λ some. core-some c s t v d e b q lies stands some can
                (sym (read-goes s d (writes_on s d e.tracks (Some q)) can) ∙ sym (ap (λ o. read_and_write s d (writes_on s d e.tracks o)) some) ∙ run)
          ] refl
    ] refl

-- What it leaves that a staged track goes to its place, and then none is staged.
pub record Destaged (c : ConfigTable) (s t : PlantState) (v : ℕ) (b : Bool) : Type 0 where
  pub written : read_and_write s (device_of c v) (destage_writes (not (volume_seen s c v).slot) (staged_seen s c v) (fields_seen s c v)) ≡ (t, b)
  pub exact : (r : Rest) → EndsAs (world t c r) b (after_reading s (volume_seen s c v).server (world s c r) (destaged (world s c r) v))
  pub done : b ≡ false → IsDestaged (is_some (volume_seen s c v).staged) s t c v
  pub old_or_new : IsAsBefore s t c v ⊎ IsMovedKeeping false s t c v (volume_seen s c v).fields None
  pub others : OthersStay s t c v
  pub stands : StandsFor c t
  pub unarmed : (q : ℕ) → s.read_fuse q ≡ None → t.read_fuse q ≡ None
  pub servers : (q : ℕ) → q ≢ (volume_seen s c v).server → ServerStays s t q
  pub on : b ≡ false → t.on ≡ s.on
  pub off : b ≡ true → t.on (volume_seen s c v).server ≡ false
  pub faults : t.faults ≡ cond b (risen s.faults) s.faults

destaged-on : (c : ConfigTable) (s t : PlantState) (v d : ℕ) (e : VolumeEntry) (b : Bool) → Lies c s v d e → StandsFor c s → read_and_write s d (writes_on s d e.tracks (layout.staged e.tracks (s.block d))) ≡ (t, b) → Destaged c s t v b
destaged-on c s t v d e b lies stands run =
    let ws = writes_on s d e.tracks (layout.staged e.tracks (s.block d)) in
    let r = ran s t d ws b run in
    let k : Core c s t v d e b = core c s t v d e b lies stands run in
    let there = others-stay c s t v d e lies r.apart in
    let server = server-seen c s v d e lies in
    record {
      written =
          (λ i. read_and_write s (device-placed c v d lies.place i) (destage_writes (not (slot-seen c s v d e lies i)) (track_with (seen c s v d e lies s i).staged (chosen (s.block (device-placed c v d lies.place i)) 5)) (normal (seen c s v d e lies s i).tracks (raw_of (chosen (s.block (device-placed c v d lies.place i)))))))
          ∙ run;
      exact = λ rest. read-first c s t v d e (world s c rest) b rest _ lies there
          (λ stuck. let x : ◌≡◌ {A = PlantState × Bool} (t, b) (after_read s d, true) = sym run ∙ read-stops s d ws stuck in (ap (λ (y : PlantState × Bool). y.0) x, ap (λ (y : PlantState × Bool). y.1) x))
          (k.exact rest) refl;
      done = λ ok. subst (λ (w : Volume). IsDestaged (is_some w.staged) s t c v) (sym (seen c s v d e lies s)) (k.done ok);
      old_or_new = k.moved;
      others = there;
      stands = ran-stands c s t d b r stands;
      unarmed = r.unarmed;
      servers = λ q ne. r.others q (λ is. ne (is ∙ sym server));
      on = r.on;
      off = λ stopped. ap t.on server ∙ r.off stopped;
      faults = r.faults;
    }

-- where the device could not be read
pub destaged-unread : (c : ConfigTable) (s t : PlantState) (v d n : ℕ) → LiesOn c v d n → StandsFor c s → can_read s d ≡ false → t ≡ after_read s d → Destaged c s t v true
destaged-unread c s t v d n on stands stuck is =
    let x = lies-of c s v d n on stands in
    destaged-on c s t v d x.0 true x.1 stands (read-stops s d (writes_on s d x.0.tracks (layout.staged x.0.tracks (s.block d))) stuck ∙ (λ i. (sym is i, true)))

-- and where it could
pub destaged-read : (c : ConfigTable) (s t : PlantState) (v d n : ℕ) (f : Fields) (b : Bool) → LiesOn c v d n → StandsFor c s → can_read s d ≡ true → f ≡ fields_on n (s.block d) → after_writes s d (destage_writes (not (slot_of s d)) (track_with f.staged f.staged_bytes) f) ≡ (t, b) → Destaged c s t v b
destaged-read c s t v d n f b on stands can fields run =
    let x = lies-of c s v d n on stands in
    let same : x.0.tracks ≡ n = tracks-of c v d n on x.0 x.1.entry in
    let all : f ≡ fields_on x.0.tracks (s.block d) = fields ∙ ap (λ k. fields_on k (s.block d)) (sym same) in
    let shows : Shows s c v f = shows-normal s c v d n f on fields in
    let staged : track_with f.staged f.staged_bytes ≡ staged_on x.0.tracks (s.block d) = shows-staged c s v f shows ∙ seen-staged c s v d x.0 x.1 in
    destaged-on c s t v d x.0 b x.1 stands
    (read-goes s d (writes_on s d x.0.tracks (layout.staged x.0.tracks (s.block d))) can
    ∙ (λ i. after_writes s d (destage_writes (not (slot_of s d)) (sym staged i) (sym all i)))
    ∙ run)
