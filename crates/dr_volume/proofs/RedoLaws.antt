-- Writing a staged track to its own place, as the machine sees it.
use Rattle.std.proofs.Common.{ℕ, ◌≡◌, ◌≢◌, ◌≤◌, ◌<◌, ◌++◌, Bool, true, false, not, arith, List, length, refl, sym, ◌∙◌, ap, subst, cond, inl, inr, Option, None, Some}
use Rattle.std.specs.Prelude.{is_some, IfSome, if◌then◌else◌}
use Rattle.std.proofs.lemmas.Bool.{cases_eq}
use Rattle.dr_logic.specs.Bytes.{zeros}
use Rattle.dr_logic.specs.Counts.{risen}
use Rattle.dr_ids.specs.Sizes.{blocks_of, track_block}
use Rattle.dr_plant.specs.State.{PlantState, after_read, can_read, passes_read}
use Rattle.dr_plant.specs.declared.plant.WriteFuse.{WriteFuse}
use Rattle.dr_record.specs.Slots.{record_writes}
use Rattle.dr_plant.specs.Writes.{after_writes}
use Rattle.dr_config.specs.Table.{ConfigTable, StandsFor}
use Rattle.dr_config.specs.declared.entries.VolumeEntry.{VolumeEntry}
use Rattle.dr_model.specs.Layout as layout
use Rattle.dr_model.specs.Layout.{Blocks, chosen, is_staged, only_if}
use Rattle.dr_model.specs.Control.{Volume, World}
use Rattle.dr_model.specs.Moves.{Carried, is_carried, carried_bytes}
use Rattle.dr_model.specs.Carry as machine
use Rattle.dr_model.specs.Carry.{Ended, ended}
use Rattle.dr_volume.specs.declared.fields.Fields.{Fields}
use Rattle.dr_volume.specs.Record.{record_block}
use Rattle.dr_volume.specs.View.{Rest, world, volume_seen, device_of, fuse_seen}
use Rattle.dr_volume.specs.Volume.{LiesOn, Shows}
use Rattle.dr_volume.specs.Update.{track_with, stages, staging, staged_next, given_way, track_writes, update_writes, read_and_write, staged_seen, IsAsBefore, OthersStay, ServerStays, EndsAs, after_reading, side_writes}
use Rattle.dr_volume.proofs.VolumeLaws.{device-placed, device-stands, tracks-of}
use Rattle.dr_volume.proofs.ReadingLaws.{staged-raw, bytes-raw, staged_on, staged-low, StandsOwn}
use Rattle.dr_volume.proofs.RanLaws.{ran, ran-stands, read-goes, read-stops}
use Rattle.dr_volume.proofs.RewriteLaws.{Spared, idle-spares, staged-idle, spared-as, track-written, record-low}
use Rattle.dr_volume.proofs.FuseLaws.{Passed, Cut, writes-passed, below_number, writes-cut}
use Rattle.dr_volume.proofs.WorldLaws.{world-spent, world-off, shown-before, fuse-seen, on-seen}
use Rattle.dr_volume.proofs.SeenLaws.{Lies, lies-of, seen, is-before, others-stay}
use Rattle.dr_volume.proofs.UpdateLaws.{ends_as, read-off, read-on, read-first, idle, idle-world, server-seen}

-- the staged track of that device was written
abbrev pub Run : PlantState → PlantState → ℕ → ℕ → Bool → Type 0
Run s t d n b = read_and_write s d (track_writes (staged_on n (s.block d))) ≡ (t, b)

is_carried-staged : (o : Option ℕ) (bytes : List ℕ) (k : ℕ) → is_staged o k ≡ true → (is_carried (track_with o bytes) k ≡ true) × (carried_bytes (track_with o bytes) ≡ bytes)
is_carried-staged None bytes k is = absurd (cc)
is_carried-staged (Some t) bytes k is = (is, refl)

-- the writes of the staged track are idle, and where they were done it stands in its own block
pub redo-spares : (s t : PlantState) (d n : ℕ) (b : Bool) → after_writes s d (track_writes (staged_on n (s.block d))) ≡ (t, b) → Spared n (s.block d) (t.block d)
redo-spares s t d n b h = idle-spares n s t d (track_writes (staged_on n (s.block d))) b (staged-idle n (s.block d) (layout.staged n (s.block d)) (chosen (s.block d) 5) refl) h

pub redo-stands : (s t : PlantState) (d n : ℕ) → after_writes s d (track_writes (staged_on n (s.block d))) ≡ (t, false) → StandsOwn n (t.block d)
redo-stands s t d n h k is =
    let spared = redo-spares s t d n false h in
    let same = record-low (s.block d) (t.block d) spared.low in
    let was : is_staged (layout.staged n (s.block d)) k ≡ true = ap (λ o. is_staged o k) (sym (staged-raw n (chosen (t.block d)) (chosen (s.block d)) same)) ∙ is in
    let one = is_carried-staged (layout.staged n (s.block d)) (chosen (s.block d) 5) k was in
    (track-written s t d (staged_on n (s.block d)) false h).done refl k one.0 ∙ one.1 ∙ sym (bytes-raw (chosen (t.block d)) (chosen (s.block d)) same)

-- the machine's work again on a staged track
abbrev number : World → ℕ → ℕ
number w v = machine.redo_writes (w.control.volume v).staged

redo-off : (w : World) (v o : ℕ) → (w.control.volume v).server ≡ o → w.control.on o ≡ false → machine.redo w v ≡ ended w true false
unfolding machine.redo
redo-off w v o is h =
    (λ i. if not (w.control.on (is i)) then ended w true false
    else if machine.pass (w.control.fuse (is i)) (number w v) then ended (machine.spent w (is i) (number w v)) false true
    else ended (machine.off w (is i)) true false)
    ∙ (λ i. if not (h i) then ended w true false
    else if machine.pass (w.control.fuse o) (number w v) then ended (machine.spent w o (number w v)) false true
    else ended (machine.off w o) true false)

redo-on : (w : World) (v o : ℕ) (pass : Bool) → (w.control.volume v).server ≡ o → w.control.on o ≡ true → machine.pass (w.control.fuse o) (number w v) ≡ pass → machine.redo w v ≡ (if pass then ended (machine.spent w o (number w v)) false true else ended (machine.off w o) true false)
unfolding machine.redo
redo-on w v o pass is up h =
    (λ i. if not (w.control.on (is i)) then ended w true false
    else if machine.pass (w.control.fuse (is i)) (number w v) then ended (machine.spent w (is i) (number w v)) false true
    else ended (machine.off w (is i)) true false)
    ∙ (λ i. if not (up i) then ended w true false
    else if h i then ended (machine.spent w o (number w v)) false true
    else ended (machine.off w o) true false)

length-staged : (o : Option ℕ) (bytes : List ℕ) → length (track_writes (track_with o bytes)) ≡ machine.redo_writes o
length-staged None bytes = refl
length-staged (Some t) bytes = refl

-- What the work again on a staged track leaves.
pub record Redone (c : ConfigTable) (s t : PlantState) (v : ℕ) (b : Bool) : Type 0 where
  pub written : read_and_write s (device_of c v) (track_writes (staged_seen s c v)) ≡ (t, b)
  pub exact : (r : Rest) → EndsAs (world t c r) b (after_reading s (volume_seen s c v).server (world s c r) (machine.redo (world s c r) v))
  pub same : (u : ℕ) → IsAsBefore s t c u
  pub stands : StandsFor c t
  pub unarmed : (q : ℕ) → s.read_fuse q ≡ None → t.read_fuse q ≡ None
  pub servers : (q : ℕ) → q ≢ (volume_seen s c v).server → ServerStays s t q
  pub on : b ≡ false → t.on ≡ s.on
  pub off : b ≡ true → t.on (volume_seen s c v).server ≡ false
  pub faults : t.faults ≡ cond b (risen s.faults) s.faults

pub same-all : (c : ConfigTable) (s t : PlantState) (v : ℕ) → IsAsBefore s t c v → OthersStay s t c v → (u : ℕ) → IsAsBefore s t c u
same-all c s t v here there u = elim (cases_eq u v) [ inl is ↦ subst (λ w. IsAsBefore s t c w) (sym is) here | inr ne ↦ there u ne ]

redo-here : (c : ConfigTable) (s t : PlantState) (v d : ℕ) (e : VolumeEntry) (b : Bool) → Lies c s v d e → Run s t d e.tracks b → IsAsBefore s t c v
redo-here c s t v d e b lies run =
    let ws = track_writes (staged_on e.tracks (s.block d)) in
    elim (can_read s d) as (λ w. can_read s d ≡ w → IsAsBefore s t c v) [
      | true ↦ λ can. is-before c s t v d e lies (spared-as e.tracks (s.block d) (t.block d) (redo-spares s t d e.tracks b (sym (read-goes s d ws can) ∙ run)))
      | false ↦ λ stuck. subst (λ u. IsAsBefore s u c v) (ap (λ (x : PlantState × Bool). x.0) (sym (read-stops s d ws stuck) ∙ run)) (idle c s v d e lies)
    ] refl

world-idle : (c : ConfigTable) (s t : PlantState) (v d : ℕ) (e : VolumeEntry) (b : Bool) (r : Rest) → Lies c s v d e → OthersStay s t c v → Run s t d e.tracks b → s.on (s.owner d) ≡ false → EndsAs (world t c r) b (machine.redo (world s c r) v)
world-idle c s t v d e b r lies others run off =
    let ws = track_writes (staged_on e.tracks (s.block d)) in
    let is : ◌≡◌ {A = PlantState × Bool} (after_read s d, true) (t, b) = sym (read-stops s d ws (read-off s d off)) ∙ run in
    let same : after_read s d ≡ t = ap (λ (x : PlantState × Bool). x.0) is in
    ends_as (world t c r) b _ _ (redo-off (world s c r) v (s.owner d) (server-seen c s v d e lies) (on-seen s (s.owner d) lies.low ∙ off))
    (record {
      world = sym (ap (λ u. world u c r) same) ∙ idle-world c s v d e r lies (subst (λ u. OthersStay s u c v) (sym same) others) off;
      stopped = sym (ap (λ (x : PlantState × Bool). x.1) is);
    })

world-on : (c : ConfigTable) (s t : PlantState) (v d : ℕ) (e : VolumeEntry) (b : Bool) (r : Rest) → Lies c s v d e → IsAsBefore s t c v → OthersStay s t c v → s.on (s.owner d) ≡ true → after_writes s d (track_writes (staged_on e.tracks (s.block d))) ≡ (t, b) → EndsAs (world t c r) b (machine.redo (world s c r) v)
world-on c s t v d e b r lies here there up h =
    let o = s.owner d in
    let w : World = world s c r in
    let n = number w v in
    let ws = track_writes (staged_on e.tracks (s.block d)) in
    let many : length ws ≡ n = length-staged (layout.staged e.tracks (s.block d)) (chosen (s.block d) 5) ∙ ap (λ (x : Volume). machine.redo_writes x.staged) (sym (seen c s v d e lies s)) in
    let before = shown-before s t c r v here there in
    elim (machine.pass (fuse_seen (s.write_fuse o)) n) as (λ p. machine.pass (fuse_seen (s.write_fuse o)) n ≡ p → EndsAs (world t c r) b (machine.redo w v)) [
      | true ↦ λ pass.
          let p : Passed s t d n b = writes-passed s t d ws n b many up pass h in
          ends_as (world t c r) b _ _ (redo-on w v o true (server-seen c s v d e lies) (on-seen s o lies.low ∙ up) (ap (λ x. machine.pass x n) (fuse-seen s o lies.low) ∙ pass))
          (record { world = world-spent s t c r o n lies.low p.on p.fuse ∙ ap (λ x. machine.spent x o n) before; stopped = p.done })
      | false ↦ λ stuck.
          let low = below_number n (s.write_fuse o) stuck in
          let g : WriteFuse = low.0 in
          let cut : Cut s t d g b = writes-cut s t d ws g b up low.1 (subst (λ k. g.after < k) (sym many) low.2) h in
          ends_as (world t c r) b _ _ (redo-on w v o false (server-seen c s v d e lies) (on-seen s o lies.low ∙ up) (ap (λ x. machine.pass x n) (fuse-seen s o lies.low) ∙ stuck))
          (record { world = world-off s t c r o g lies.low cut.on cut.fuse low.1 ∙ ap (λ x. machine.off x o) before; stopped = cut.cut })
    ] refl

pub redo-world : (c : ConfigTable) (s t : PlantState) (v d : ℕ) (e : VolumeEntry) (b : Bool) (r : Rest) → Lies c s v d e → IsAsBefore s t c v → OthersStay s t c v → Run s t d e.tracks b → passes_read (s.read_fuse (s.owner d)) ≡ true → EndsAs (world t c r) b (machine.redo (world s c r) v)
redo-world c s t v d e b r lies here there run pass =
    elim (s.on (s.owner d)) as (λ w. s.on (s.owner d) ≡ w → EndsAs (world t c r) b (machine.redo (world s c r) v)) [
      | true ↦ λ up. world-on c s t v d e b r lies here there up (sym (read-goes s d (track_writes (staged_on e.tracks (s.block d))) (read-on s d pass up)) ∙ run)
      | false ↦ λ off. world-idle c s t v d e b r lies there run off
    ] refl

pub redone-on : (c : ConfigTable) (s t : PlantState) (v d : ℕ) (e : VolumeEntry) (b : Bool) → Lies c s v d e → StandsFor c s → Run s t d e.tracks b → Redone c s t v b
redone-on c s t v d e b lies stands run =
    let r = ran s t d (track_writes (staged_on e.tracks (s.block d))) b run in
    let here = redo-here c s t v d e b lies run in
    let there = others-stay c s t v d e lies r.apart in
    record {
      written =
          (λ i. read_and_write s (device-placed c v d lies.place i) (track_writes (track_with (seen c s v d e lies s i).staged (chosen (s.block (device-placed c v d lies.place i)) 5))))
          ∙ run;
      exact = λ rest. read-first c s t v d e (world s c rest) b rest _ lies there
          (λ stuck. let x : ◌≡◌ {A = PlantState × Bool} (t, b) (after_read s d, true) = sym run ∙ read-stops s d (track_writes (staged_on e.tracks (s.block d))) stuck in (ap (λ (y : PlantState × Bool). y.0) x, ap (λ (y : PlantState × Bool). y.1) x))
          (λ pass. redo-world c s t v d e b rest lies here there run pass) refl;
      same = same-all c s t v here there;
      stands = ran-stands c s t d b r stands;
      unarmed = r.unarmed;
      servers = λ q ne. r.others q (λ is. ne (is ∙ sym (server-seen c s v d e lies)));
      on = r.on;
      off = λ stopped. ap t.on (server-seen c s v d e lies) ∙ r.off stopped;
      faults = r.faults;
    }

-- the work again where the device could not be read
pub redone-unread : (c : ConfigTable) (s t : PlantState) (v d n : ℕ) → LiesOn c v d n → StandsFor c s → can_read s d ≡ false → t ≡ after_read s d → Redone c s t v true
redone-unread c s t v d n on stands stuck is =
    let x = lies-of c s v d n on stands in
    redone-on c s t v d x.0 true x.1 stands (read-stops s d (track_writes (staged_on x.0.tracks (s.block d))) stuck ∙ (λ i. (sym is i, true)))

-- what the fields that the device shows stage is what the volume does
shown_staged : (o : Option ℕ) (f : Option ℕ) (bytes chosen_bytes : List ℕ) → f ≡ o → bytes ≡ only_if (is_some o) chosen_bytes zeros → track_with f bytes ≡ track_with o chosen_bytes
shown_staged None f bytes chosen_bytes is h = ap (λ x. track_with x bytes) is
shown_staged (Some t) f bytes chosen_bytes is h = (λ i. track_with (is i) (h i))

pub shows-staged : (c : ConfigTable) (s : PlantState) (v : ℕ) (f : Fields) → Shows s c v f → track_with f.staged f.staged_bytes ≡ staged_seen s c v
shows-staged c s v f shows = shown_staged (volume_seen s c v).staged f.staged f.staged_bytes (chosen (s.block (device_of c v)) 5) shows.staged shows.staged_bytes

-- it lies on the device
pub seen-staged : (c : ConfigTable) (s : PlantState) (v d : ℕ) (e : VolumeEntry) → Lies c s v d e → staged_seen s c v ≡ staged_on e.tracks (s.block d)
seen-staged c s v d e lies = (λ i. track_with (seen c s v d e lies s i).staged (chosen (s.block (device-placed c v d lies.place i)) 5))

-- what is staged was looked at
pub staged-looked : (table : ConfigTable) (s s1 : PlantState) (v d n : ℕ) (e : VolumeEntry) (o : Carried) → LiesOn table v d n → Lies table s v d e → s1 ≡ s → o ≡ track_with (layout.staged n (s1.block d)) (chosen (s1.block d) 5) → o ≡ staged_on e.tracks (s.block d)
staged-looked table s s1 v d n e o on lies same is =
    is ∙ (λ i. track_with (layout.staged (sym (tracks-of table v d n on e lies.entry) i) ((same i).block d)) (chosen ((same i).block d) 5))

-- fields that stage a track, or none, stage that
pub staging-stages : (m : Carried) (f : Fields) → track_with (staging m f).staged (staging m f).staged_bytes ≡ m
staging-stages None f = refl
staging-stages (Some c) f = refl

-- the writes of an update look at what fields stage by `old` alone
restaging : (x o : Carried) (f : Fields) → staging x (staging o f) ≡ staging x f
restaging None None f = refl
restaging None (Some c) f = refl
restaging (Some c) None f = refl
restaging (Some c) (Some o) f = refl

blank-staging : (o : Carried) (f : Fields) → (staging o f).blank ≡ f.blank
blank-staging None f = refl
blank-staging (Some c) f = refl

pub restaged : (slot : Bool) (side : Option (ℕ × List ℕ)) (o m : Carried) (f : Fields) → update_writes slot side (stages (staging o f)) (staging o f) m ≡ update_writes slot side o f m
restaged slot side o m f =
    let ws = side_writes side ++ track_writes (given_way m o) in
    ap (λ x. update_writes slot side x (staging o f) m) (staging-stages o f)
    ∙ ap (λ b. ws ++ record_writes 6 slot (record_block (staging (staged_next true b m o) (staging o f)))) (blank-staging o f)
    ∙ ap (λ g. ws ++ record_writes 6 slot (record_block g)) (restaging (staged_next true f.blank m o) o f)

-- the work again where it could
pub redone-read : (c : ConfigTable) (s t : PlantState) (v d n : ℕ) (f : Fields) (b : Bool) → LiesOn c v d n → StandsFor c s → can_read s d ≡ true → Shows s c v f → after_writes s d (track_writes (track_with f.staged f.staged_bytes)) ≡ (t, b) → Redone c s t v b
redone-read c s t v d n f b on stands can shows h =
    let x = lies-of c s v d n on stands in
    let m = shows-staged c s v f shows ∙ seen-staged c s v d x.0 x.1 in
    redone-on c s t v d x.0 b x.1 stands
    (read-goes s d (track_writes (staged_on x.0.tracks (s.block d))) can ∙ ap (λ y. after_writes s d (track_writes y)) (sym m) ∙ h)

fits : (n d : ℕ) (s : PlantState) (o : Option ℕ) (bytes : List ℕ) → n ≤ 256 → s.size d ≡ blocks_of n → IfSome o (λ t. t < n) → IfSome (track_with o bytes) (λ t. (t.0 < 256) × (track_block t.0 < s.size d))
fits n d s None bytes few size low = tt
fits n d s (Some t) bytes few size low = ((omega arith), (omega arith))

-- so its block is on the device
pub seen-fits : (c : ConfigTable) (s : PlantState) (v d n : ℕ) → LiesOn c v d n → StandsFor c s → (d < s.count) × IfSome (staged_seen s c v) (λ t. (t.0 < 256) × (track_block t.0 < s.size d))
seen-fits c s v d n on stands =
    let x = lies-of c s v d n on stands in
    let device = device-stands s c v d x.0 x.1.place x.1.entry stands in
    let low = fits x.0.tracks d s (layout.staged x.0.tracks (s.block d)) (chosen (s.block d) 5) x.1.few device.1 (staged-low x.0.tracks (s.block d)) in
    (device.0, subst (λ (y : Carried). IfSome y (λ t. (t.0 < 256) × (track_block t.0 < s.size d))) (sym (seen-staged c s v d x.0 x.1)) low)

pub staged-fits : (c : ConfigTable) (s s1 : PlantState) (v d n : ℕ) (f : Fields) (m : Carried) → LiesOn c v d n → StandsFor c s → s1 ≡ s → Shows s c v f → m ≡ track_with f.staged f.staged_bytes → (d < s1.count) × IfSome m (λ t. (t.0 < 256) × (track_block t.0 < s1.size d))
staged-fits c s s1 v d n f m on stands same shows is =
    let all = seen-fits c s v d n on stands in
    subst (λ (u : PlantState). (d < u.count) × IfSome m (λ t. (t.0 < 256) × (track_block t.0 < u.size d))) (sym same)
    (all.0, subst (λ (y : Carried). IfSome y (λ t. (t.0 < 256) × (track_block t.0 < s.size d))) (sym (is ∙ shows-staged c s v f shows)) all.1)
