-- The laws of a move's writes: how they end, and what they leave on the device. First come writes to blocks that the volume doesn't look at,
-- then the record, then the gate.
use Rattle.std.proofs.Common.{ℕ, ◌≡◌, ◌≢◌, ◌<◌, ◌+◌, ◌⊎◌, Bool, true, false, not, List, [], ◌∷◌, refl, sym, ◌∙◌, ap, arith, nat_eq, ◌≤◌, ◌||◌, ◌++◌, Option, None, Some, cond, inl, inr, subst}
use Rattle.std.specs.Prelude.{IfSome, unwrap_or}
use Rattle.std.proofs.lemmas.Bool.Decides.{Decides-eqb}
use Rattle.dr_plant.specs.State.{PlantState, after_write, can_write}
use Rattle.dr_plant.proofs.StateLemmas.{other-after_write, same-after_write}
use Rattle.dr_plant.specs.Writes.{BlockWrite, write, after_writes}
use Rattle.dr_record.specs.Slots.{slot_of, choice, stored, Chooses, record_writes, SameElsewhere}
use Rattle.dr_plant.proofs.WritesLemmas.{goes, stops, ends, append-goes, append-stops}
use Rattle.dr_record.proofs.PutLemmas.{put-done, put-old_or_new, put-elsewhere}
use Rattle.dr_model.specs.Layout as layout
use Rattle.dr_model.specs.Layout.{Blocks, chosen, slot_chosen, slot_begin, is_staged, entry_at, entry_taken}
use Rattle.std.specs.FinSet.{contains}
use Rattle.dr_ids.specs.Sizes.{record_blocks, track_block, side_block}
use Rattle.dr_model.specs.Moves.{Carried, is_carried, carried_bytes}
use Rattle.dr_volume.specs.declared.fields.Fields.{Fields}
use Rattle.dr_volume.specs.Record.{record_block, with_block, no_record, raw_of, IsWhole}
use Rattle.dr_volume.specs.ReadsBack.{read_back}
use Rattle.dr_volume.specs.Update.{track_with, given_way, track_writes, next_record, side_for, side_writes}
use Rattle.dr_volume.proofs.VolumeLaws.{chosen_value, chosen_slot}
use Rattle.dr_volume.proofs.TakenLaws.{taken-some}
use Rattle.dr_volume.proofs.ReadingLaws.{ReadsAs, ReadsNext, hides, staged_on, entries_on, track_of, saving_on, staged-low}

-- the same six blocks give the same record
pub raw-same : (x y : Blocks) → ((k : ℕ) → k < 6 → x k ≡ y k) → raw_of x ≡ raw_of y
raw-same x y h i =
    with_block (with_block (with_block (with_block (with_block (with_block no_record 0 (h 0 (omega arith) i)) 1 (h 1 (omega arith) i)) 2 (h 2 (omega arith) i)) 3 (h 3 (omega arith) i)) 4 (h 4 (omega arith) i)) 5 (h 5 (omega arith) i)

slot_low : (slot : Bool) (k : ℕ) → k < 6 → slot_begin slot + k < record_blocks
slot_low true k h = omega arith
slot_low false k h = omega arith

-- the same thirteen blocks: the same choice, and the same record
pub choice-low : (b c : Blocks) → ((q : ℕ) → q < record_blocks → c q ≡ b q) → slot_chosen c ≡ slot_chosen b
choice-low b c h = ap (λ (g : List ℕ). layout.bit (layout.byte g 0) 0) (h 0 (omega arith))

pub record-low : (b c : Blocks) → ((q : ℕ) → q < record_blocks → c q ≡ b q) → raw_of (chosen c) ≡ raw_of (chosen b)
record-low b c h =
    raw-same (chosen c) (chosen b) (λ k low.
    ap (λ slot. c (slot_begin slot + k)) (choice-low b c h) ∙ h (slot_begin (slot_chosen b) + k) (slot_low (slot_chosen b) k low))

-- A volume with n tracks doesn't look at block k: it lies after gate and slots, and is the own block of no track that is read there, nor
-- the side block of an entry that is used.
pub record IsIdle (n : ℕ) (b : Blocks) (k : ℕ) : Type 0 where
  pub behind : record_blocks ≤ k
  pub hidden : (t : ℕ) → t < n → k ≡ track_block t → hides n b t ≡ true
  pub unused : (j : ℕ) → k ≡ side_block n j → entry_at (entries_on n b) j ≡ None

-- nor at the blocks of these writes
abbrev pub AreIdle : ℕ → Blocks → List BlockWrite → Type 0
AreIdle n b [] = Unit {0}
AreIdle n b (w ∷ ws) = IsIdle n b w.block × AreIdle n b ws

-- none of the writes goes to block k
abbrev Misses : ℕ → List BlockWrite → Type 0
Misses k [] = Unit {0}
Misses k (w ∷ ws) = (k ≢ w.block) × Misses k ws

missed : (s : PlantState) (dev k : ℕ) (ws : List BlockWrite) → Misses k ws → (after_writes s dev ws).0.block dev k ≡ s.block dev k
missed s dev k [] h = ap (λ (r : PlantState × Bool). r.0.block dev k) (ends s dev)
missed s dev k (w ∷ ws) h =
    elim (can_write s dev) as (λ v. can_write s dev ≡ v → (after_writes s dev (w ∷ ws)).0.block dev k ≡ s.block dev k) [
      | true ↦ λ can.
          ap (λ (r : PlantState × Bool). r.0.block dev k) (goes s dev w ws can)
          ∙ missed (after_write s dev w.block w.bytes) dev k ws h.1
          ∙ other-after_write s dev w.block w.bytes dev k h.0
      | false ↦ λ stuck. ap (λ (r : PlantState × Bool). r.0.block dev k) (stops s dev w ws stuck) ∙ other-after_write s dev w.block w.bytes dev k h.0
    ] refl

idle-low : (n : ℕ) (b : Blocks) (ws : List BlockWrite) (q : ℕ) → AreIdle n b ws → q < record_blocks → Misses q ws
idle-low n b [] q idle low = tt
idle-low n b (w ∷ ws) q idle low = let behind : record_blocks ≤ w.block = idle.0.behind in ((λ e. absurd (omega arith)), idle-low n b ws q idle.1 low)

idle-own : (n : ℕ) (b : Blocks) (ws : List BlockWrite) (t : ℕ) → AreIdle n b ws → t < n → hides n b t ≡ false → Misses (track_block t) ws
idle-own n b [] t idle low read = tt
idle-own n b (w ∷ ws) t idle low read =
    ((λ e. absurd (let never : true ≡ false = sym (idle.0.hidden t low (sym e)) ∙ read in cc)), idle-own n b ws t idle.1 low read)

idle-side : (n : ℕ) (b : Blocks) (ws : List BlockWrite) (k t : ℕ) → AreIdle n b ws → entry_at (entries_on n b) k ≡ Some t → Misses (side_block n k) ws
idle-side n b [] k t idle used = tt
idle-side n b (w ∷ ws) k t idle used =
    ((λ e. absurd (let never : None ≡ Some t = sym (idle.0.unused k (sym e)) ∙ used in cc)), idle-side n b ws k t idle.1 used)

-- From b to c gate and slots are as they were, the own block of each track that is read there, and the side block of each entry that is
-- used.
pub record Spared (n : ℕ) (b c : Blocks) : Type 0 where
  pub low : (q : ℕ) → q < record_blocks → c q ≡ b q
  pub own : (t : ℕ) → t < n → hides n b t ≡ false → c (track_block t) ≡ b (track_block t)
  pub side : (k t : ℕ) → entry_at (entries_on n b) k ≡ Some t → c (side_block n k) ≡ b (side_block n k)

-- so it is however such writes end
pub idle-spares : (n : ℕ) (s t : PlantState) (dev : ℕ) (ws : List BlockWrite) (stopped : Bool) → AreIdle n (s.block dev) ws → after_writes s dev ws ≡ (t, stopped) → Spared n (s.block dev) (t.block dev)
idle-spares n s t dev ws stopped idle h =
    let is : t ≡ (after_writes s dev ws).0 = ap (λ (r : PlantState × Bool). r.0) (sym h) in
    record {
      low = λ q low. ap (λ (x : PlantState). x.block dev q) is ∙ missed s dev q ws (idle-low n (s.block dev) ws q idle low);
      own = λ k low read. ap (λ (x : PlantState). x.block dev (track_block k)) is ∙ missed s dev (track_block k) ws (idle-own n (s.block dev) ws k idle low read);
      side = λ k q used. ap (λ (x : PlantState). x.block dev (side_block n k)) is ∙ missed s dev (side_block n k) ws (idle-side n (s.block dev) ws k q idle used);
    }

pub spared-as : (n : ℕ) (b c : Blocks) → Spared n b c → ReadsAs n b c
spared-as n b c h = record { slot = choice-low b c h.low; record_same = record-low b c h.low; own = h.own; side = h.side }

pub spared-slot : (n : ℕ) (s t : PlantState) (dev : ℕ) → Spared n (s.block dev) (t.block dev) → slot_of t dev ≡ slot_of s dev
spared-slot n s t dev h = ap (λ (g : List ℕ). choice g) (h.low 0 (omega arith))

-- the own block of the staged track is idle, so that of the one that gives way is too
pub staged-idle : (n : ℕ) (b : Blocks) (o : Option ℕ) (bytes : List ℕ) → layout.staged n b ≡ o → AreIdle n b (track_writes (track_with o bytes))
staged-idle n b None bytes is = tt
staged-idle n b (Some t) bytes is = (
  record {
    behind = omega arith;
    unused = λ j e. absurd (let low : t < n = subst (λ (x : Option ℕ). IfSome x (λ t. t < n)) is (staged-low n b) in omega arith);
    hidden = λ q low e.
        let same : q ≡ t = omega arith in
        ap (λ p. p || contains (layout.fields n b).blank q) (ap (λ (x : Option ℕ). is_staged x q) is ∙ (Decides-eqb q t).1 same);
  },
  tt,
)

unless-idle : (n : ℕ) (b : Blocks) (t : ℕ) (bytes : List ℕ) (none : Bool) → layout.staged n b ≡ Some t → AreIdle n b (track_writes (cond none None (Some (t, bytes))))
unless-idle n b t bytes true is = tt
unless-idle n b t bytes false is = staged-idle n b (Some t) bytes is

pub way-idle : (n : ℕ) (b : Blocks) (m : Carried) (o : Option ℕ) (bytes : List ℕ) → layout.staged n b ≡ o → AreIdle n b (track_writes (given_way m (track_with o bytes)))
way-idle n b None o bytes is = tt
way-idle n b (Some x) None bytes is = tt
way-idle n b (Some x) (Some t) bytes is = unless-idle n b t bytes (nat_eq t x.0) is

-- the side block of the entry that is taken into use is idle: it was free
taken-idle : (n : ℕ) (b : Blocks) (f : Fields) (o : Option ℕ) → entry_taken (entries_on n b) f.entries ≡ o → AreIdle n b (side_writes (side_for n f.entries (track_of n b) o))
taken-idle n b f None is = tt
taken-idle n b f (Some k) is = (
  record {
    behind = omega arith;
    hidden = λ q low e. absurd (omega arith);
    unused = λ j e. let same : j ≡ k = omega arith in ap (entry_at (entries_on n b)) same ∙ (taken-some (entries_on n b) f.entries k is).0;
  },
  tt,
)

append-idle : (n : ℕ) (b : Blocks) (ws vs : List BlockWrite) → AreIdle n b ws → AreIdle n b vs → AreIdle n b (ws ++ vs)
append-idle n b [] vs first then = then
append-idle n b (w ∷ ws) vs first then = (first.0, append-idle n b ws vs first.1 then)

-- what a move writes before the record
abbrev pub writes_before : ℕ → Blocks → Fields → Carried → List BlockWrite
writes_before n b f m = side_writes (saving_on n b f) ++ track_writes (given_way m (staged_on n b))

pub before-idle : (n : ℕ) (b : Blocks) (f : Fields) (m : Carried) → AreIdle n b (writes_before n b f m)
before-idle n b f m = append-idle n b _ _ (taken-idle n b f _ refl) (way-idle n b m (layout.staged n b) (chosen b 5) refl)

-- The blocks c have the choice and the record of b, and all blocks after gate and slots.
pub record Stays (b c : Blocks) : Type 0 where
  pub slot : slot_chosen c ≡ slot_chosen b
  pub record_same : raw_of (chosen c) ≡ raw_of (chosen b)
  pub beyond : (q : ℕ) → record_blocks ≤ q → c q ≡ b q

pub stays-as : (n : ℕ) (b c : Blocks) → Stays b c → ReadsAs n b c
stays-as n b c h = record {
  slot = h.slot;
  record_same = h.record_same;
  own = λ t low read. h.beyond (track_block t) (omega arith);
  side = λ k t used. h.beyond (side_block n k) (omega arith);
}

-- The blocks c have that record in the other slot, and all blocks of b after gate and slots.
pub record Renewed (b c : Blocks) (x : Fields) : Type 0 where
  pub slot : slot_chosen c ≡ not (slot_chosen b)
  pub record_next : raw_of (chosen c) ≡ x
  pub beyond : (q : ℕ) → record_blocks ≤ q → c q ≡ b q

-- How the writes of a record end on a device: it chooses the record that it chose, or the new one.
record-old : (s t : PlantState) (dev : ℕ) → SameElsewhere record_blocks s t dev → Chooses with_block 6 no_record t dev (slot_of s dev) (stored with_block 6 no_record s dev (slot_of s dev)) → Stays (s.block dev) (t.block dev)
record-old s t dev beyond h = record {
  slot = sym (chosen_slot t dev) ∙ h.gate ∙ chosen_slot s dev;
  record_same =
      sym (chosen_value t dev (slot_of s dev) _ h)
      ∙ chosen_value s dev (slot_of s dev) (stored with_block 6 no_record s dev (slot_of s dev)) (record { gate = refl; value = refl });
  beyond = beyond.behind;
}

record-new : (s t : PlantState) (dev : ℕ) (x : Fields) → SameElsewhere record_blocks s t dev → Chooses with_block 6 no_record t dev (not (slot_of s dev)) x → Renewed (s.block dev) (t.block dev) x
record-new s t dev x beyond h = record {
  slot = sym (chosen_slot t dev) ∙ h.gate ∙ ap (λ b. not b) (chosen_slot s dev);
  record_next = sym (chosen_value t dev (not (slot_of s dev)) x h);
  beyond = beyond.behind;
}

-- the writes of the record, to the slot that the device doesn't choose
abbrev pub record_part : PlantState → ℕ → Fields → List BlockWrite
record_part s dev x = record_writes 6 (not (slot_of s dev)) (record_block x)

-- after these the device has what it had, or the next record
pub record-ends : (s t : PlantState) (dev : ℕ) (x : Fields) (b : Bool) → IsWhole x → after_writes s dev (record_part s dev x) ≡ (t, b) → Stays (s.block dev) (t.block dev) ⊎ Renewed (s.block dev) (t.block dev) x
record-ends s t dev x b whole h =
    let slot : Bool = slot_of s dev in
    let past = put-elsewhere s t dev 6 (not slot) (record_block x) b h in
    elim (put-old_or_new with_block no_record x (stored with_block 6 no_record s dev slot) s t dev 6 slot (record_block x) b (record { gate = refl; value = refl }) (read_back x whole) h) [
      | inl c ↦ inl (record-old s t dev past c)
      | inr c ↦ inr (record-new s t dev x past c)
    ]

-- and the next record where none of them was stopped
record-done : (s t : PlantState) (dev : ℕ) (x : Fields) → IsWhole x → after_writes s dev (record_part s dev x) ≡ (t, false) → Renewed (s.block dev) (t.block dev) x
record-done s t dev x whole h =
    let slot : Bool = slot_of s dev in
    record-new s t dev x (put-elsewhere s t dev 6 (not slot) (record_block x) false h)
    (put-done with_block no_record x s t dev 6 (not slot) (record_block x) (read_back x whole) h)

-- The idle writes were all done, and then the record took over.
pub record Follows (s t : PlantState) (dev : ℕ) (ws : List BlockWrite) (x : Fields) : Type 0 where
  pub between : PlantState
  pub before : after_writes s dev ws ≡ (between, false)
  pub slot : slot_chosen (t.block dev) ≡ not (slot_chosen (s.block dev))
  pub record_next : raw_of (chosen (t.block dev)) ≡ x
  pub beyond : (q : ℕ) → record_blocks ≤ q → t.block dev q ≡ between.block dev q

pub follows-renewed : (n : ℕ) (s u t : PlantState) (dev : ℕ) (ws : List BlockWrite) (x : Fields) → Spared n (s.block dev) (u.block dev) → after_writes s dev ws ≡ (u, false) → Renewed (u.block dev) (t.block dev) x → Follows s t dev ws x
follows-renewed n s u t dev ws x spared before h = record {
  between = u;
  before = before;
  slot = h.slot ∙ ap (λ b. not b) (choice-low (s.block dev) (u.block dev) spared.low);
  record_next = h.record_next;
  beyond = h.beyond;
}

pub reads-stayed : (n : ℕ) (b u c : Blocks) → Spared n b u → Stays u c → ReadsAs n b c
reads-stayed n b u c spared h = record {
  slot = h.slot ∙ choice-low b u spared.low;
  record_same = h.record_same ∙ record-low b u spared.low;
  own = λ t low read. h.beyond (track_block t) (omega arith) ∙ spared.own t low read;
  side = λ k t used. h.beyond (side_block n k) (omega arith) ∙ spared.side k t used;
}

-- How all writes of a move end: the device reads as it did, or the record took over; where none was stopped, that.
pub record Outcome (n : ℕ) (s t : PlantState) (dev : ℕ) (ws : List BlockWrite) (x : Fields) (stopped : Bool) : Type 0 where
  pub ends : ReadsAs n (s.block dev) (t.block dev) ⊎ Follows s t dev ws x
  pub done : stopped ≡ false → Follows s t dev ws x

-- the record's writes are those that the state between asks
pub record-behind : (n : ℕ) (s u : PlantState) (dev : ℕ) (x : Fields) → Spared n (s.block dev) (u.block dev) → record_writes 6 (not (slot_of s dev)) (record_block x) ≡ record_part u dev x
record-behind n s u dev x spared = ap (λ b. record_writes 6 (not b) (record_block x)) (sym (spared-slot n s u dev spared))

pub writes-end : (n : ℕ) (s t : PlantState) (dev : ℕ) (ws : List BlockWrite) (x : Fields) (b : Bool) → IsWhole x → AreIdle n (s.block dev) ws → after_writes s dev (ws ++ record_writes 6 (not (slot_of s dev)) (record_block x)) ≡ (t, b) → Outcome n s t dev ws x b
writes-end n s t dev ws x b whole idle h =
    let last = record_writes 6 (not (slot_of s dev)) (record_block x) in
    let r = after_writes s dev ws in
    let u = r.0 in
    elim r.1 as (λ v. r.1 ≡ v → Outcome n s t dev ws x b) [
      | true ↦ λ c.
          let is : ◌≡◌ {A = PlantState × Bool} r (u, true) = (λ i. (u, c i)) in
          let e : ◌≡◌ {A = PlantState × Bool} (u, true) (t, b) = sym (append-stops s u dev ws last is) ∙ h in
          record {
            ends = inl (spared-as n (s.block dev) (t.block dev) (idle-spares n s t dev ws b idle (is ∙ e)));
            done = λ done. absurd (let never : true ≡ false = ap (λ (p : PlantState × Bool). p.1) e ∙ done in cc);
          }
      | false ↦ λ c.
          let is : ◌≡◌ {A = PlantState × Bool} r (u, false) = (λ i. (u, c i)) in
          let spared : Spared n (s.block dev) (u.block dev) = idle-spares n s u dev ws false idle is in
          let all : after_writes u dev (record_part u dev x) ≡ (t, b) = ap (after_writes u dev) (sym (record-behind n s u dev x spared)) ∙ sym (append-goes s u dev ws last is) ∙ h in
          record {
            ends = elim (record-ends u t dev x b whole all) [
              | inl y ↦ inl (reads-stayed n (s.block dev) (u.block dev) (t.block dev) spared y)
              | inr y ↦ inr (follows-renewed n s u t dev ws x spared is y)
            ];
            done = λ done. follows-renewed n s u t dev ws x spared is (record-done u t dev x whole (all ∙ (λ i. (t, done i))));
          }
    ] refl

pub stays-same : (b c : ℕ → List ℕ) → c ≡ b → Stays b c
stays-same b c h = record {
  slot = ap (λ (x : Blocks). slot_chosen x) h;
  record_same = ap (λ (x : Blocks). raw_of (chosen x)) h;
  beyond = λ q far. ap (λ (x : Blocks). x q) h;
}

one-ends : (u t : PlantState) (dev : ℕ) (w : BlockWrite) (b : Bool) → after_writes u dev (w ∷ []) ≡ (t, b) → (t ≡ after_write u dev w.block w.bytes) × (b ≡ false → can_write u dev ≡ true)
one-ends u t dev w b h =
    elim (can_write u dev) as (λ v. can_write u dev ≡ v → (t ≡ after_write u dev w.block w.bytes) × (b ≡ false → can_write u dev ≡ true)) [
      | true ↦ λ can. let e = sym h ∙ goes u dev w [] can ∙ ends (after_write u dev w.block w.bytes) dev in (ap (λ (r : PlantState × Bool). r.0) e, λ done. can)
      | false ↦ λ stuck.
          let e = sym h ∙ stops u dev w [] stuck in
          let stopped : b ≡ true = ap (λ (r : PlantState × Bool). r.1) e in
          (ap (λ (r : PlantState × Bool). r.0) e, λ done. absurd (let never : true ≡ false = sym stopped ∙ done in cc))
    ] refl

-- From u to t the carried track was written to its own block, or its write was stopped.
pub record TrackWritten (u t : PlantState) (dev : ℕ) (m : Carried) (b : Bool) : Type 0 where
  pub low : (q : ℕ) → q < record_blocks → t.block dev q ≡ u.block dev q
  pub own : (k : ℕ) → is_carried m k ≡ false → t.block dev (track_block k) ≡ u.block dev (track_block k)
  pub other : (q : ℕ) → IfSome m (λ c. q ≢ track_block c.0) → t.block dev q ≡ u.block dev q
  pub done : b ≡ false → (k : ℕ) → is_carried m k ≡ true → t.block dev (track_block k) ≡ carried_bytes m

apart_of : (j k : ℕ) → nat_eq k j ≡ false → track_block k ≢ track_block j
apart_of j k free e = let same : nat_eq k j ≡ true = (Decides-eqb k j).1 (omega arith) in absurd (cc)

pub track-written : (u t : PlantState) (dev : ℕ) (m : Carried) (b : Bool) → after_writes u dev (track_writes m) ≡ (t, b) → TrackWritten u t dev m b
track-written u t dev None b h =
    let is : t ≡ u = ap (λ (r : PlantState × Bool). r.0) (sym h ∙ ends u dev) in
    record { low = λ q low. ap (λ (x : PlantState). x.block dev q) is; own = λ k free. ap (λ (x : PlantState). x.block dev (track_block k)) is; other = λ q apart. ap (λ (x : PlantState). x.block dev q) is; done = λ e k carried. absurd (cc) }
track-written u t dev (Some c) b h =
    let one = one-ends u t dev (write (track_block c.0) c.1) b h in
    record {
      low = λ q low. ap (λ (x : PlantState). x.block dev q) one.0 ∙ other-after_write u dev (track_block c.0) c.1 dev q (λ e. absurd (omega arith));
      own = λ k free. ap (λ (x : PlantState). x.block dev (track_block k)) one.0 ∙ other-after_write u dev (track_block c.0) c.1 dev (track_block k) (apart_of c.0 k free);
      other = λ q apart. ap (λ (x : PlantState). x.block dev q) one.0 ∙ other-after_write u dev (track_block c.0) c.1 dev q apart;
      done = λ e k carried.
          ap (λ q. t.block dev (track_block q)) ((Decides-eqb k c.0).0 carried)
          ∙ ap (λ (x : PlantState). x.block dev (track_block c.0)) one.0 ∙ same-after_write u dev (track_block c.0) c.1 (one.1 e);
    }

unless-bytes : (t k : ℕ) (bytes : List ℕ) (none : Bool) → is_carried (cond none None (Some (t, bytes))) k ≡ true → carried_bytes (cond none None (Some (t, bytes))) ≡ bytes
unless-bytes t k bytes true is = absurd (cc)
unless-bytes t k bytes false is = refl

way-bytes : (m : Carried) (o : Option ℕ) (bytes : List ℕ) (k : ℕ) → is_carried (given_way m (track_with o bytes)) k ≡ true → carried_bytes (given_way m (track_with o bytes)) ≡ bytes
way-bytes None o bytes k is = absurd (cc)
way-bytes (Some x) None bytes k is = absurd (cc)
way-bytes (Some x) (Some t) bytes k is = unless-bytes t k bytes (nat_eq t x.0) is

-- From s to u the side block was written, or its write was stopped.
record SideWritten (s u : PlantState) (dev : ℕ) (side : Option (ℕ × List ℕ)) : Type 0 where
  other : (q : ℕ) → IfSome side (λ x. q ≢ x.0) → u.block dev q ≡ s.block dev q
  done : (x : ℕ × List ℕ) → side ≡ Some x → u.block dev x.0 ≡ x.1

side-written : (s u : PlantState) (dev : ℕ) (side : Option (ℕ × List ℕ)) → after_writes s dev (side_writes side) ≡ (u, false) → SideWritten s u dev side
side-written s u dev None h =
    let is : u ≡ s = ap (λ (r : PlantState × Bool). r.0) (sym h ∙ ends s dev) in
    record { other = λ q apart. ap (λ (x : PlantState). x.block dev q) is; done = λ x none. absurd (cc) }
side-written s u dev (Some y) h =
    let one = one-ends s u dev (write y.0 y.1) false h in
    record {
      other = λ q apart. ap (λ (x : PlantState). x.block dev q) one.0 ∙ other-after_write s dev y.0 y.1 dev q apart;
      done = λ x is.
          let same : y ≡ x = cc in
          subst (λ (z : ℕ × List ℕ). u.block dev z.0 ≡ z.1) same (ap (λ (x : PlantState). x.block dev y.0) one.0 ∙ same-after_write s dev y.0 y.1 (one.1 refl));
    }

-- A move's side block is none of those that the volume reads, nor a track's.
record SideApart (n : ℕ) (b : Blocks) (side : Option (ℕ × List ℕ)) : Type 0 where
  track : (t : ℕ) → t < n → IfSome side (λ x. track_block t ≢ x.0)
  used : (k t : ℕ) → entry_at (entries_on n b) k ≡ Some t → IfSome side (λ x. side_block n k ≢ x.0)
  at : (x : ℕ × List ℕ) → side ≡ Some x → (k : ℕ) × (x.0 ≡ side_block n k)

side-apart : (n : ℕ) (b : Blocks) (f : Fields) (o : Option ℕ) → entry_taken (entries_on n b) f.entries ≡ o → SideApart n b (side_for n f.entries (track_of n b) o)
side-apart n b f None is = record { track = λ t low. tt; used = λ k t names. tt; at = λ x some. absurd (cc) }
side-apart n b f (Some j) is = record {
  track = λ t low e. absurd (omega arith);
  used = λ k t names e.
      let same : k ≡ j = omega arith in
      absurd (let never : None ≡ Some t = sym (taken-some (entries_on n b) f.entries j is).0 ∙ ap (entry_at (entries_on n b)) (sym same) ∙ names in cc);
  at = λ x some. (j, (let same : x ≡ (side_block n j, track_of n b (unwrap_or (entry_at f.entries j) 0)) = cc in ap (λ (y : ℕ × List ℕ). y.0) same));
}

-- the track that gives way is one of the volume's, so its block is no side block
unless-far : (n t k : ℕ) (bytes : List ℕ) (none : Bool) → t < n → IfSome {T = ℕ × List ℕ} (cond none None (Some (t, bytes))) (λ c. side_block n k ≢ track_block c.0)
unless-far n t k bytes true low = tt
unless-far n t k bytes false low = λ e. absurd (omega arith)

way-apart : (n k : ℕ) (m : Carried) (o : Option ℕ) (bytes : List ℕ) → IfSome o (λ t. t < n) → IfSome (given_way m (track_with o bytes)) (λ c. side_block n k ≢ track_block c.0)
way-apart n k None o bytes low = tt
way-apart n k (Some x) None bytes low = tt
way-apart n k (Some x) (Some t) bytes low = unless-far n t k bytes (nat_eq t x.0) low

-- how the two lists of writes ended, where none was stopped
parted : (s u : PlantState) (dev : ℕ) (ws vs : List BlockWrite) → after_writes s dev (ws ++ vs) ≡ (u, false) → (x : PlantState) × (after_writes s dev ws ≡ (x, false)) × (after_writes x dev vs ≡ (u, false))
parted s u dev ws vs h =
    let r = after_writes s dev ws in
    elim r.1 as (λ v. r.1 ≡ v → (x : PlantState) × (r ≡ (x, false)) × (after_writes x dev vs ≡ (u, false))) [
      | true ↦ λ c.
          let is : ◌≡◌ {A = PlantState × Bool} r (r.0, true) = (λ i. (r.0, c i)) in
          absurd (let never : true ≡ false = ap (λ (p : PlantState × Bool). p.1) (sym (append-stops s r.0 dev ws vs is) ∙ h) in cc)
      | false ↦ λ c. let is : ◌≡◌ {A = PlantState × Bool} r (r.0, false) = (λ i. (r.0, c i)) in (r.0, is, sym (append-goes s r.0 dev ws vs is) ∙ h)
    ] refl

-- so a move leaves the next fields, what is staged then, and the track that gives way in its own block
pub reads-next : (n : ℕ) (s t : PlantState) (dev : ℕ) (keeps : Bool) (f : Fields) (m : Carried) → Follows s t dev (writes_before n (s.block dev) f m) (next_record keeps (staged_on n (s.block dev)) f m) → ReadsNext n (s.block dev) (t.block dev) keeps f m
reads-next n s t dev keeps f m h =
    let b = s.block dev in
    let part = parted s h.between dev (side_writes (saving_on n b f)) (track_writes (given_way m (staged_on n b))) h.before in
    let side = side-written s part.0 dev (saving_on n b f) part.1 in
    let apart = side-apart n b f _ refl in
    let w = track-written part.0 h.between dev (given_way m (staged_on n b)) false part.2 in
    let past : (k : ℕ) → h.between.block dev (side_block n k) ≡ part.0.block dev (side_block n k) = λ k. w.other (side_block n k) (way-apart n k m (layout.staged n b) (chosen b 5) (staged-low n b)) in
    record {
      slot = h.slot;
      record_next = h.record_next;
      own = λ k low free. h.beyond (track_block k) (omega arith) ∙ w.own k free ∙ side.other (track_block k) (apart.track k low);
      way = λ k is. h.beyond (track_block k) (omega arith) ∙ w.done refl k is ∙ way-bytes m (layout.staged n b) (chosen b 5) k is;
      side = λ k t used. h.beyond (side_block n k) (omega arith) ∙ past k ∙ side.other (side_block n k) (apart.used k t used);
      saved = λ q is.
          let k = apart.at q is in
          ap (t.block dev) k.1 ∙ h.beyond (side_block n k.0) (omega arith) ∙ past k.0 ∙ sym (ap (part.0.block dev) k.1) ∙ side.done q is;
    }
