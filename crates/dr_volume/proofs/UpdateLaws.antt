-- An update of a volume, as the machine sees it.
use Rattle.std.proofs.Common.{ℕ, ◌≡◌, ◌<◌, ◌+◌, ◌⊎◌, inl, inr, Bool, true, false, not, ◌&&◌, List, length, refl, sym, ◌∙◌, ap, subst, cond, arith, None, Some}
use Rattle.std.specs.Prelude.{IfSome, if◌then◌else◌, ◌≢◌}
use Rattle.std.proofs.lemmas.Bool.{cases_eq}
use Rattle.std.proofs.Math.Bool.{and-false}
use Rattle.dr_logic.specs.Counts.{risen}
use Rattle.dr_logic.specs.Tables.{at}
use Rattle.dr_plant.specs.State.{PlantState, after_read, can_read, passes_read, faulted}
use Rattle.dr_plant.specs.declared.plant.WriteFuse.{WriteFuse}
use Rattle.dr_plant.proofs.StateLemmas.{read_stopped, block-after_read, write_fuse-after_read}
use Rattle.dr_plant.specs.Writes.{BlockWrite, after_writes}
use Rattle.dr_record.specs.Slots.{slot_of}
use Rattle.dr_plant.proofs.WriteLists.{writes_off}
use Rattle.dr_config.specs.Table.{ConfigTable, StandsFor}
use Rattle.dr_config.specs.declared.entries.VolumeEntry.{VolumeEntry}
use Rattle.dr_model.specs.Layout as layout
use Rattle.dr_model.specs.Layout.{chosen, only_if}
use Rattle.dr_model.specs.Control.{Volume, World}
use Rattle.dr_model.specs.Moves.{Carried, updated_keeping}
use Rattle.dr_model.specs.Carry as machine
use Rattle.dr_model.specs.Carry.{Ended, ended}
use Rattle.dr_model.specs.ReadStops.{shut}
use Rattle.dr_volume.specs.declared.fields.Fields.{Fields}
use Rattle.dr_model.specs.Lawful.{IsLawful, EntriesFollow}
use Rattle.dr_volume.specs.Plain.{plain}
use Rattle.dr_volume.specs.Record.{IsWhole}
use Rattle.dr_volume.specs.View.{Rest, world, volume_seen, device_of, fuse_seen, torn_seen}
use Rattle.dr_volume.specs.Volume.{LiesOn}
use Rattle.dr_volume.specs.Update.{track_with, next_record, saving, writes_keeping, saving_seen, staged_seen, Covers, IsAsBefore, IsMovedKeeping, OthersStay, EndsAs, ServerStays, after_reading}
use Rattle.dr_volume.proofs.VolumeLaws.{device-placed, chosen_slot}
use Rattle.dr_volume.proofs.RecordLaws.{whole-of_normal}
use Rattle.dr_volume.proofs.ReadingLaws.{ReadsNext, Fitting, staged_on, entries_on, track_of, saving_on, next-normal}
use Rattle.dr_volume.proofs.RanLaws.{ran-written, ran-stands}
use Rattle.dr_volume.proofs.RewriteLaws.{AreIdle, writes_before, before-idle, Outcome, writes-end, reads-next, stays-as, stays-same}
use Rattle.dr_volume.proofs.FuseLaws.{Passed, Cut, CutEnds, writes-passed, below_number, writes-cut, length-before, length-behind, move-cut}
use Rattle.dr_volume.proofs.WorldLaws.{shown, world-still, world-spent, world-off, on-at, fuses-same, shown-before, shown-moved, fuse-seen, on-seen, update-off, update-passed, update-cut_short}
use Rattle.dr_volume.proofs.SeenLaws.{Lies, lies-of, seen, track-seen, is-before, is-moved, others-stay}
use Rattle.dr_logic.proofs.Tables.{at_same, at_other}

-- What is asked of a move, as it lies on the device.
pub record Task (c : ConfigTable) (s : PlantState) (v d : ℕ) (e : VolumeEntry) (keeps : Bool) (f : Fields) (m : Carried) : Type 0 where
  pub lies : Lies c s v d e
  pub fits : Fitting e.tracks (s.block d) keeps f m

pub task : (c : ConfigTable) (s : PlantState) (v d n : ℕ) (f : Fields) (m : Carried) → LiesOn c v d n → StandsFor c s → IsLawful (volume_seen s c v).tracks (plain f) → IfSome m (λ t. t.0 < (volume_seen s c v).tracks) → Covers (volume_seen s c v).fields.blank f.blank m → EntriesFollow (volume_seen s c v).fields.entries f.entries → (e : VolumeEntry) × Task c s v d e true f m
task c s v d n f m on stands lawful within covers follows =
    let x = lies-of c s v d n on stands in
    let is = seen c s v d x.0 x.1 s in (
      x.0,
      record {
        lies = x.1;
        fits = record {
          few = x.1.few;
          lawful = subst (λ (w : Volume). IsLawful w.tracks (plain f)) is lawful;
          within = subst (λ (w : Volume). IfSome m (λ t. t.0 < w.tracks)) is within;
          covers = subst (λ (w : Volume). Covers w.fields.blank f.blank m) is covers;
          follows = subst (λ (w : Volume). EntriesFollow w.fields.entries f.entries) is follows;
          stands = λ no_one. absurd (cc);
        };
      },
    )

-- what is saved is written, and the track that gives way, then this record
abbrev before : PlantState → ℕ → ℕ → Fields → Carried → List BlockWrite
before s d n f m = writes_before n (s.block d) f m

abbrev pub record_of : PlantState → ℕ → ℕ → Bool → Fields → Carried → Fields
record_of s d n keeps f m = next_record keeps (staged_on n (s.block d)) f m

whole : (c : ConfigTable) (s : PlantState) (v d : ℕ) (e : VolumeEntry) (keeps : Bool) (f : Fields) (m : Carried) → Task c s v d e keeps f m → IsWhole (record_of s d e.tracks keeps f m)
whole c s v d e keeps f m k =
    let fit = k.fits in
    whole-of_normal e.tracks (record_of s d e.tracks keeps f m) fit.few (next-normal e.tracks (s.block d) keeps f m fit.few fit.lawful fit.within)

-- the move was carried out
abbrev pub Run : PlantState → PlantState → ℕ → ℕ → Bool → Fields → Carried → Bool → Type 0
Run s t d n keeps f m b = after_writes s d (writes_keeping keeps (not (slot_of s d)) (saving_on n (s.block d) f) (staged_on n (s.block d)) f m) ≡ (t, b)

idle-before : (s : PlantState) (d n : ℕ) (f : Fields) (m : Carried) → AreIdle n (s.block d) (before s d n f m)
idle-before s d n f m = before-idle n (s.block d) f m

outcome : (c : ConfigTable) (s t : PlantState) (v d : ℕ) (e : VolumeEntry) (keeps : Bool) (f : Fields) (m : Carried) (b : Bool) → Task c s v d e keeps f m → Run s t d e.tracks keeps f m b → Outcome e.tracks s t d (before s d e.tracks f m) (record_of s d e.tracks keeps f m) b
outcome c s t v d e keeps f m b k run =
    writes-end e.tracks s t d (before s d e.tracks f m) (record_of s d e.tracks keeps f m) b (whole c s v d e keeps f m k) (idle-before s d e.tracks f m) run

-- what the move saves, on the device
pub saving-lies : (c : ConfigTable) (s : PlantState) (v d : ℕ) (e : VolumeEntry) → Lies c s v d e → (f : Fields) → saving_seen s c v f.entries ≡ saving_on e.tracks (s.block d) f
saving-lies c s v d e lies f i = saving (seen c s v d e lies s i).tracks (seen c s v d e lies s i).fields.entries f.entries (λ q. track-seen c s v d e lies s q i)

-- what is done is the next record
pub done-next : (c : ConfigTable) (s t : PlantState) (v d : ℕ) (e : VolumeEntry) (keeps : Bool) (f : Fields) (m : Carried) → Task c s v d e keeps f m → Run s t d e.tracks keeps f m false → ReadsNext e.tracks (s.block d) (t.block d) keeps f m
done-next c s t v d e keeps f m k run = reads-next e.tracks s t d keeps f m ((outcome c s t v d e keeps f m false k run).done refl)

-- how many writes it has
gate-is : (c : ConfigTable) (s : PlantState) (v d : ℕ) (e : VolumeEntry) (f : Fields) (m : Carried) → Lies c s v d e → length (before s d e.tracks f m) + 6 ≡ machine.gate_at (volume_seen s c v) (plain f) m
gate-is c s v d e f m lies =
    length-before e.tracks (entries_on e.tracks (s.block d)) f.entries (track_of e.tracks (s.block d)) m (layout.staged e.tracks (s.block d)) (chosen (s.block d) 5) ∙ ap (λ (w : Volume). machine.gate_at w (plain f) m) (sym (seen c s v d e lies s))

many : (c : ConfigTable) (s : PlantState) (v d : ℕ) (e : VolumeEntry) (keeps : Bool) (f : Fields) (m : Carried) → Lies c s v d e → length (writes_keeping keeps (not (slot_of s d)) (saving_on e.tracks (s.block d) f) (staged_on e.tracks (s.block d)) f m) ≡ machine.writes (volume_seen s c v) (plain f) m
many c s v d e keeps f m lies = length-behind (before s d e.tracks f m) (not (slot_of s d)) (record_of s d e.tracks keeps f m) ∙ ap (λ k. k + 1) (gate-is c s v d e f m lies)

-- the owner of a device that can't be read
pub read-off : (s : PlantState) (d : ℕ) → s.on (s.owner d) ≡ false → can_read s d ≡ false
read-off s d off = ap (λ b. b && passes_read (s.read_fuse (s.owner d))) off

pub read-on : (s : PlantState) (d : ℕ) → passes_read (s.read_fuse (s.owner d)) ≡ true → s.on (s.owner d) ≡ true → can_read s d ≡ true
read-on s d pass up = (λ i. up i && pass i)

-- one whose read fuse lets no read pass
pub read-burnt : (s : PlantState) (d : ℕ) → passes_read (s.read_fuse (s.owner d)) ≡ false → can_read s d ≡ false
read-burnt s d stuck = ap (λ b. s.on (s.owner d) && b) stuck ∙ and-false (s.on (s.owner d))

-- on a server that is off nothing is done but that a fault is counted
pub idle : (c : ConfigTable) (s : PlantState) (v d : ℕ) (e : VolumeEntry) → Lies c s v d e → IsAsBefore s (after_read s d) c v
idle c s v d e lies =
    is-before c s (after_read s d) v d e lies (stays-as e.tracks (s.block d) ((after_read s d).block d) (stays-same (s.block d) ((after_read s d).block d) (ap (λ (g : ℕ → ℕ → List ℕ). g d) (block-after_read s d))))

-- nor is anything written
still : (s t : PlantState) (d n : ℕ) (keeps : Bool) (f : Fields) (m : Carried) (b : Bool) → s.on (s.owner d) ≡ false → Run s t d n keeps f m b → (t ≡ faulted s) × (b ≡ true)
still s t d n keeps f m b off run =
    let slot = not (slot_of s d) in
    let ws = writes_keeping keeps slot (saving_on n (s.block d) f) (staged_on n (s.block d)) f m in
    let size = length-behind (before s d n f m) slot (record_of s d n keeps f m) in
    let e : ◌≡◌ {A = PlantState × Bool} (t, b) (faulted s, true) = sym run ∙ writes_off s d ws off (omega arith) in
    (ap (λ (r : PlantState × Bool). r.0) e, ap (λ (r : PlantState × Bool). r.1) e)

pub update-ending : (c : ConfigTable) (s t : PlantState) (v d : ℕ) (e : VolumeEntry) (keeps : Bool) (f : Fields) (m : Carried) (b : Bool) → Task c s v d e keeps f m → Run s t d e.tracks keeps f m b → IsAsBefore s t c v ⊎ IsMovedKeeping keeps s t c v (plain f) m
update-ending c s t v d e keeps f m b k run = elim (outcome c s t v d e keeps f m b k run).ends [
  | inl h ↦ inl (is-before c s t v d e k.lies h)
  | inr h ↦ inr (is-moved c s t v d e keeps f m k.lies k.fits (reads-next e.tracks s t d keeps f m h))
]

pub update-done : (c : ConfigTable) (s t : PlantState) (v d : ℕ) (e : VolumeEntry) (keeps : Bool) (f : Fields) (m : Carried) → Task c s v d e keeps f m → Run s t d e.tracks keeps f m false → IsMovedKeeping keeps s t c v (plain f) m
update-done c s t v d e keeps f m k run = is-moved c s t v d e keeps f m k.lies k.fits (done-next c s t v d e keeps f m k run)

pub ends_as : (w : World) (b : Bool) (e f : Ended) → f ≡ e → EndsAs w b e → EndsAs w b f
ends_as w b e f is h = subst (λ (x : Ended). EndsAs w b x) (sym is) h

at_kept : (f : ℕ → Bool) (o : ℕ) → f o ≡ false → at f o false ≡ f
at_kept f o h i q = (elim (cases_eq q o) as (λ w. at f o false q ≡ f q) [ inl e ↦ ap (at f o false) e ∙ at_same f o false ∙ sym (ap f e ∙ h) | inr ne ↦ at_other f o false q ne ]) i

-- the world where the server was off
pub idle-world : (c : ConfigTable) (s : PlantState) (v d : ℕ) (e : VolumeEntry) (r : Rest) → Lies c s v d e → OthersStay s (after_read s d) c v → s.on (s.owner d) ≡ false → world (after_read s d) c r ≡ world s c r
idle-world c s v d e r lies others off =
    let on = ap (λ (t : PlantState). t.on) (read_stopped s d (read-off s d off)) ∙ at_kept s.on (s.owner d) off in
    world-still s (after_read s d) c r on (write_fuse-after_read s d) ∙ shown-before s (after_read s d) c r v (idle c s v d e lies) others

-- and where a server's read fuse let no read pass, it is off
pub burnt-world : (c : ConfigTable) (s : PlantState) (v d : ℕ) (e : VolumeEntry) (r : Rest) → Lies c s v d e → OthersStay s (after_read s d) c v → can_read s d ≡ false → world (after_read s d) c r ≡ shut (world s c r) (s.owner d)
burnt-world c s v d e r lies others stuck =
    let on = on-at s (after_read s d) (s.owner d) false lies.low (ap (λ (t : PlantState). t.on) (read_stopped s d stuck)) in
    let fuses = fuses-same s (after_read s d) (write_fuse-after_read s d) in
    let before = shown-before s (after_read s d) c r v (idle c s v d e lies) others in
    (λ i. record (shown s (after_read s d) c r) { control = record (shown s (after_read s d) c r).control { on = on i; fuse = fuses i } })
    ∙ ap (λ w. shut w (s.owner d)) before

-- the server as the machine sees it
pub server-seen : (c : ConfigTable) (s : PlantState) (v d : ℕ) (e : VolumeEntry) → Lies c s v d e → (volume_seen s c v).server ≡ s.owner d
server-seen c s v d e lies = ap (λ (w : Volume). w.server) (seen c s v d e lies s) ∙ sym lies.owner

-- the slot that the machine sees
pub slot-seen : (c : ConfigTable) (s : PlantState) (v d : ℕ) (e : VolumeEntry) → Lies c s v d e → (volume_seen s c v).slot ≡ slot_of s d
slot-seen c s v d e lies = ap (λ (w : Volume). w.slot) (seen c s v d e lies s) ∙ sym (chosen_slot s d)

-- how the world follows the machine in a move
module _ (c : ConfigTable) (s t : PlantState) (v d : ℕ) (e : VolumeEntry) (keeps : Bool) (f : Fields) (m : Carried) (b : Bool) (r : Rest) (k : Task c s v d e keeps f m) (run : Run s t d e.tracks keeps f m b) where
  abbrev o : ℕ
  o = s.owner d

  abbrev w : World
  w = world s c r

  abbrev ws : List BlockWrite
  ws = writes_keeping keeps (not (slot_of s d)) (saving_on e.tracks (s.block d) f) (staged_on e.tracks (s.block d)) f m

  abbrev count : ℕ
  count = machine.writes (volume_seen s c v) (plain f) m

  abbrev Ends : Type 0
  Ends = EndsAs (world t c r) b (machine.update_keeping keeps w v (plain f) m)

  others : OthersStay s t c v
  others = others-stay c s t v d e k.lies (ran-written s t d ws b run).apart

  size : length ws ≡ count
  size = many c s v d e keeps f m k.lies

  world-idle : s.on o ≡ false → Ends
  world-idle off =
      let x = still s t d e.tracks keeps f m b off run in
      ends_as (world t c r) b _ _ (update-off keeps w v (plain f) m o (server-seen c s v d e k.lies) (on-seen s o k.lies.low ∙ off))
      (record { world = ap (λ u. world u c r) x.0; stopped = x.1 })

  world-passed : s.on o ≡ true → machine.pass (fuse_seen (s.write_fuse o)) count ≡ true → Ends
  world-passed up pass =
      let p : Passed s t d count b = writes-passed s t d ws count b size up pass run in
      let moved = update-done c s t v d e keeps f m k (run ∙ (λ i. (t, p.done i))) in
      ends_as (world t c r) b _ _ (update-passed keeps w v (plain f) m o (server-seen c s v d e k.lies) (on-seen s o k.lies.low ∙ up) (ap (λ g. machine.pass g count) (fuse-seen s o k.lies.low) ∙ pass))
      (record {
        world = world-spent s t c r o count k.lies.low p.on p.fuse ∙ ap (λ x. machine.spent x o count) (shown-moved s t c r v keeps (plain f) m moved others);
        stopped = p.done;
      })

  cut_end : (g : WriteFuse) (done : Bool) → s.write_fuse o ≡ Some g → Cut s t d g b → CutEnds e.tracks s t d (before s d e.tracks f m) (record_of s d e.tracks keeps f m) done → EndsAs (world t c r) b (if done then ended (machine.off (updated_keeping keeps w v (plain f) m) o) true true else ended (machine.off w o) true false)
  cut_end g true fuse cut ends = record {
    world =
        world-off s t c r o g k.lies.low cut.on cut.fuse fuse
        ∙ ap (λ x. machine.off x o) (shown-moved s t c r v keeps (plain f) m (is-moved c s t v d e keeps f m k.lies k.fits (reads-next e.tracks s t d keeps f m (ends.next refl))) others);
    stopped = cut.cut;
  }
  cut_end g false fuse cut ends = record {
    world =
        world-off s t c r o g k.lies.low cut.on cut.fuse fuse
        ∙ ap (λ x. machine.off x o) (shown-before s t c r v (is-before c s t v d e k.lies (ends.stays refl)) others);
    stopped = cut.cut;
  }

  world-cut : s.on o ≡ true → machine.pass (fuse_seen (s.write_fuse o)) count ≡ false → Ends
  world-cut up stuck =
      let low = below_number count (s.write_fuse o) stuck in
      let g : WriteFuse = low.0 in
      let cut : Cut s t d g b = writes-cut s t d ws g b up low.1 (subst (λ n. g.after < n) (sym size) low.2) run in
      let gate = length (before s d e.tracks f m) + 6 in
      let done = machine.counts gate g.after (torn_seen g.torn) (not (slot_of s d)) in
      let is_gate : gate ≡ machine.gate_at (volume_seen s c v) (plain f) m = gate-is c s v d e f m k.lies in
      let below : g.after < gate + 1 = subst (λ n. g.after < n) (ap (λ n. n + 1) (sym is_gate)) low.2 in
      let ends : CutEnds e.tracks s t d (before s d e.tracks f m) (record_of s d e.tracks keeps f m) done =
      move-cut e.tracks s t d (before s d e.tracks f m) (record_of s d e.tracks keeps f m) g b (whole c s v d e keeps f m k) (idle-before s d e.tracks f m) up low.1 below run in
      let slot = slot-seen c s v d e k.lies in
      let fuse = fuse-seen s o k.lies.low ∙ ap fuse_seen low.1 in
      let counts : machine.counts_by (machine.gate_at (volume_seen s c v) (plain f) m) (w.control.fuse o) (not (volume_seen s c v).slot) ≡ done = (λ i. machine.counts_by (sym is_gate i) (fuse i) (not (slot i))) in
      ends_as (world t c r) b _ _
      (update-cut_short keeps w v (plain f) m o done (server-seen c s v d e k.lies) (on-seen s o k.lies.low ∙ up) (ap (λ x. machine.pass x count) (fuse-seen s o k.lies.low) ∙ stuck) counts)
      (cut_end g done low.1 cut ends)

  pub update-world : Ends
  update-world =
      elim (s.on o) as (λ x. s.on o ≡ x → Ends) [
        | true ↦ λ up. elim (machine.pass (fuse_seen (s.write_fuse o)) count) as (λ x. machine.pass (fuse_seen (s.write_fuse o)) count ≡ x → Ends) [
          | true ↦ λ passes. world-passed up passes
          | false ↦ λ stuck. world-cut up stuck
        ] refl
        | false ↦ λ off. world-idle off
      ] refl

-- an act that begins with a read, by whether that passes
pub read-first : (c : ConfigTable) (s t : PlantState) (v d : ℕ) (e : VolumeEntry) (w : World) (b : Bool) (r : Rest) (end : Ended) → Lies c s v d e → OthersStay s t c v → (can_read s d ≡ false → (t ≡ after_read s d) × (b ≡ true)) → (passes_read (s.read_fuse (s.owner d)) ≡ true → EndsAs (world t c r) b end) → w ≡ world s c r → EndsAs (world t c r) b (after_reading s (volume_seen s c v).server w end)
read-first c s t v d e w b r end lies others unread passed is =
    elim (passes_read (s.read_fuse (s.owner d))) as (λ p. passes_read (s.read_fuse (s.owner d)) ≡ p → EndsAs (world t c r) b (after_reading s (volume_seen s c v).server w end)) [
      | true ↦ λ pass. ends_as (world t c r) b _ _ (ap (λ o. after_reading s o w end) (server-seen c s v d e lies) ∙ ap (λ p. if p then end else ended (shut w (s.owner d)) true false) pass) (passed pass)
      | false ↦ λ stuck.
          let x = unread (read-burnt s d stuck) in
          ends_as (world t c r) b _ _ (ap (λ o. after_reading s o w end) (server-seen c s v d e lies) ∙ ap (λ p. if p then end else ended (shut w (s.owner d)) true false) stuck)
          (record {
            world = ap (λ u. world u c r) x.0 ∙ burnt-world c s v d e r lies (subst (λ u. OthersStay s u c v) x.0 others) (read-burnt s d stuck) ∙ ap (λ x. shut x (s.owner d)) (sym is);
            stopped = x.1;
          })
    ] refl

pub update-written : (c : ConfigTable) (s t : PlantState) (v d : ℕ) (e : VolumeEntry) (keeps : Bool) (f : Fields) (m : Carried) (b : Bool) → Task c s v d e keeps f m → Run s t d e.tracks keeps f m b → after_writes s (device_of c v) (writes_keeping keeps (not (volume_seen s c v).slot) (saving_seen s c v f.entries) (staged_seen s c v) f m) ≡ (t, b)
update-written c s t v d e keeps f m b k run =
    (λ i. after_writes s (device-placed c v d k.lies.place i) (writes_keeping keeps (not (slot-seen c s v d e k.lies i)) (saving-lies c s v d e k.lies f i) (track_with (seen c s v d e k.lies s i).staged (chosen (s.block (device-placed c v d k.lies.place i)) 5)) f m))
    ∙ run

-- What a move of a volume that was read leaves.
pub record Changed (c : ConfigTable) (s t : PlantState) (v : ℕ) (keeps : Bool) (f : Fields) (m : Carried) (b : Bool) : Type 0 where
  pub written : after_writes s (device_of c v) (writes_keeping keeps (not (volume_seen s c v).slot) (saving_seen s c v f.entries) (staged_seen s c v) f m) ≡ (t, b)
  pub exact : (r : Rest) → EndsAs (world t c r) b (machine.update_keeping keeps (world s c r) v (plain f) m)
  pub done : b ≡ false → IsMovedKeeping keeps s t c v (plain f) m
  pub old_or_new : IsAsBefore s t c v ⊎ IsMovedKeeping keeps s t c v (plain f) m
  pub others : OthersStay s t c v
  pub stands : StandsFor c t
  pub unarmed : (q : ℕ) → s.read_fuse q ≡ None → t.read_fuse q ≡ None
  pub servers : (q : ℕ) → q ≢ (volume_seen s c v).server → ServerStays s t q
  pub on : b ≡ false → t.on ≡ s.on
  pub off : b ≡ true → t.on (volume_seen s c v).server ≡ false
  pub faults : t.faults ≡ cond b (risen s.faults) s.faults

pub changed : (c : ConfigTable) (s t : PlantState) (v d : ℕ) (e : VolumeEntry) (keeps : Bool) (f : Fields) (m : Carried) (b : Bool) → StandsFor c s → Task c s v d e keeps f m → Run s t d e.tracks keeps f m b → Changed c s t v keeps f m b
changed c s t v d e keeps f m b stands k run =
    let server = server-seen c s v d e k.lies in
    let r = ran-written s t d (writes_keeping keeps (not (slot_of s d)) (saving_on e.tracks (s.block d) f) (staged_on e.tracks (s.block d)) f m) b run in
    record {
      written = update-written c s t v d e keeps f m b k run;
      exact = λ rest. update-world c s t v d e keeps f m b rest k run;
      done = λ ok. update-done c s t v d e keeps f m k (run ∙ (λ i. (t, ok i)));
      old_or_new = update-ending c s t v d e keeps f m b k run;
      others = others-stay c s t v d e k.lies r.apart;
      stands = ran-stands c s t d b r stands;
      unarmed = r.unarmed;
      servers = λ q ne. r.others q (λ is. ne (is ∙ sym server));
      on = r.on;
      off = λ stopped. ap t.on server ∙ r.off stopped;
      faults = r.faults;
    }

-- an update whose volume could not be read
on_or_stuck : (on pass : Bool) → (on && pass) ≡ false → pass ≡ true → on ≡ false
on_or_stuck false pass h p = refl
on_or_stuck true pass h p = absurd (let never : true ≡ false = sym p ∙ h in cc)

pub update-unread : (c : ConfigTable) (s t : PlantState) (v d : ℕ) (e : VolumeEntry) (f : Fields) (m : Carried) (b : Bool) (r : Rest) → Lies c s v d e → OthersStay s t c v → can_read s d ≡ false → t ≡ after_read s d → b ≡ true → EndsAs (world t c r) b (after_reading s (volume_seen s c v).server (world s c r) (machine.update (world s c r) v (plain f) m))
update-unread c s t v d e f m b r lies others stuck is stopped =
    read-first c s t v d e (world s c r) b r _ lies others (λ h. (is, stopped))
    (λ pass.
    let off = on_or_stuck (s.on (s.owner d)) (passes_read (s.read_fuse (s.owner d))) stuck pass in
    ends_as (world t c r) b _ _ (update-off true (world s c r) v (plain f) m (s.owner d) (server-seen c s v d e lies) (on-seen s (s.owner d) lies.low ∙ off))
    (record { world = ap (λ u. world u c r) is ∙ idle-world c s v d e r lies (subst (λ u. OthersStay s u c v) is others) off; stopped = stopped }))
    refl
