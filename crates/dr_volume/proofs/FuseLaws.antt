-- How writes end by the write fuse of their server: all of them pass, or one is cut short.
use Rattle.std.proofs.Common.{ℕ, ◌≡◌, ◌+◌, ◌-◌, ◌++◌, cond, ◌≤◌, ◌<◌, ◌/◌, ◌%◌, ◌^◌, ◌⊎◌, inl, inr, Bool, true, false, not, List, [], length, refl, sym, ◌∙◌, ap, subst, arith, nat_eq, nat_le, Option, None, Some}
use Rattle.std.specs.Prelude.{if◌then◌else◌, is_some}
use Rattle.std.proofs.lemmas.Bool.{cases_order}
use Rattle.std.proofs.lemmas.List.{length-append}
use Rattle.std.proofs.lemmas.Bool.Decides.{Decides-eqb, nat_tests}
use Rattle.dr_logic.specs.Tables.{at}
use Rattle.dr_logic.proofs.Tables.{at_same}
use Rattle.dr_plant.specs.State.{PlantState, torn_by}
use Rattle.dr_plant.specs.declared.plant.WriteFuse.{WriteFuse}
use Rattle.dr_plant.specs.declared.plant.Torn.{Torn}
use Rattle.dr_plant.specs.declared.plant.Torn.TheVariants.{Untouched, Bytes}
use Rattle.dr_plant.specs.Writes.{BlockWrite, write, block_writes, after_writes, Passes, write_fuse_after, all_written}
use Rattle.dr_record.specs.Slots.{slot_of, choice, torn_choice, record_writes, IsCutShort}
use Rattle.dr_plant.proofs.WritesLemmas.{append-goes, append-stops}
use Rattle.dr_plant.proofs.WriteLists.{writes_pass, writes_torn_at}
use Rattle.dr_record.proofs.PutLemmas.{put-cut_short}
use Rattle.dr_model.specs.Layout as layout
use Rattle.dr_model.specs.Layout.{Blocks, Entries, slot_chosen, entry_taken}
use Rattle.dr_model.specs.Moves.{Carried}
use Rattle.dr_model.specs.Carry as machine
use Rattle.dr_volume.specs.declared.fields.Fields.{Fields}
use Rattle.dr_volume.specs.Record.{record_block, IsWhole}
use Rattle.dr_volume.specs.View.{fuse_seen, torn_seen}
use Rattle.dr_volume.specs.Update.{track_with, given_way, track_writes, side_for, saving, side_writes}
use Rattle.dr_volume.proofs.VolumeLaws.{chosen_slot}
use Rattle.dr_volume.proofs.ReadingLaws.{ReadsAs}
use Rattle.dr_volume.proofs.RewriteLaws.{AreIdle, Spared, idle-spares, spared-as, spared-slot, Stays, Renewed, Follows, follows-renewed, reads-stayed, record_part, record-behind, record-ends}

-- From s to t so many writes were all done.
pub record Passed (s t : PlantState) (dev n : ℕ) (stopped : Bool) : Type 0 where
  pub done : stopped ≡ false
  pub on : t.on ≡ s.on
  pub fuse : t.write_fuse ≡ at s.write_fuse (s.owner dev) (write_fuse_after n (s.write_fuse (s.owner dev)))

-- From s to t the fuse g cut short a write.
pub record Cut (s t : PlantState) (dev : ℕ) (g : WriteFuse) (stopped : Bool) : Type 0 where
  pub cut : stopped ≡ true
  pub on : t.on ≡ at s.on (s.owner dev) false
  pub fuse : t.write_fuse ≡ at s.write_fuse (s.owner dev) (Some (record g { after = 0 }))

passes : (n : ℕ) (g : Option WriteFuse) → machine.pass (fuse_seen g) n ≡ true → Passes n g
passes n None h = tt
passes n (Some g) h = let e : nat_le n g.after ≡ true = h in grind (arith, nat_tests)

pub writes-passed : (s t : PlantState) (dev : ℕ) (ws : List BlockWrite) (n : ℕ) (b : Bool) → length ws ≡ n → s.on (s.owner dev) ≡ true → machine.pass (fuse_seen (s.write_fuse (s.owner dev))) n ≡ true → after_writes s dev ws ≡ (t, b) → Passed s t dev n b
writes-passed s t dev ws n b many on pass h =
    let fuse = s.write_fuse (s.owner dev) in
    let e : ◌≡◌ {A = PlantState × Bool} (t, b) (all_written s dev ws, false) = sym h ∙ writes_pass s dev ws on (subst (λ k. Passes k fuse) (sym many) (passes n fuse pass)) in
    record {
      done = ap (λ (r : PlantState × Bool). r.1) e;
      on = ap (λ (r : PlantState × Bool). r.0.on) e;
      fuse = ap (λ (r : PlantState × Bool). r.0.write_fuse) e ∙ ap (λ k. at s.write_fuse (s.owner dev) (write_fuse_after k fuse)) many;
    }

-- a fuse that does not let them all pass stands below their number
pub below_number : (n : ℕ) (g : Option WriteFuse) → machine.pass (fuse_seen g) n ≡ false → (f : WriteFuse) × (g ≡ Some f) × (f.after < n)
below_number n None h = absurd (cc)
below_number n (Some f) h = (f, refl, (let e : nat_le n f.after ≡ false = h in grind (arith, nat_tests)))

pub writes-cut : (s t : PlantState) (dev : ℕ) (ws : List BlockWrite) (g : WriteFuse) (b : Bool) → s.on (s.owner dev) ≡ true → s.write_fuse (s.owner dev) ≡ Some g → g.after < length ws → after_writes s dev ws ≡ (t, b) → Cut s t dev g b
writes-cut s t dev ws g b on fuse low h =
    let e = sym h ∙ writes_torn_at s dev ws (write 0 []) g on fuse low in
    record {
      cut = ap (λ (r : PlantState × Bool). r.1) e;
      on = ap (λ (r : PlantState × Bool). r.0.on) e;
      fuse = ap (λ (r : PlantState × Bool). r.0.write_fuse) e;
    }

-- how many writes a move has
length-side : (side : Option (ℕ × List ℕ)) → length (side_writes side) ≡ (if is_some side then 1 else 0)
length-side None = refl
length-side (Some x) = refl

some-side : (n : ℕ) (next : Entries) (bytes : ℕ → List ℕ) (o : Option ℕ) → is_some (side_for n next bytes o) ≡ is_some o
some-side n next bytes None = refl
some-side n next bytes (Some k) = refl

unless-way : (t : ℕ) (bytes : List ℕ) (same : Bool) → length (track_writes (cond same None (Some (t, bytes)))) + 6 ≡ (if not same then 7 else 6)
unless-way t bytes true = refl
unless-way t bytes false = refl

length-way : (m : Carried) (o : Option ℕ) (bytes : List ℕ) → length (track_writes (given_way m (track_with o bytes))) + 6 ≡ (if machine.gives_way o m then 7 else 6)
length-way None None bytes = refl
length-way None (Some t) bytes = refl
length-way (Some x) None bytes = refl
length-way (Some x) (Some t) bytes = unless-way t bytes (nat_eq t x.0)

pub length-before : (n : ℕ) (old next : Entries) (bytes : ℕ → List ℕ) (m : Carried) (o : Option ℕ) (staged : List ℕ)
    → length (side_writes (saving n old next bytes) ++ track_writes (given_way m (track_with o staged))) + 6 ≡ (if machine.gives_way o m then 7 else 6) + (if machine.saves old next then 1 else 0)
length-before n old next bytes m o staged =
    let all = length-append (side_writes (saving n old next bytes)) (track_writes (given_way m (track_with o staged))) in
    let side = length-side (saving n old next bytes) ∙ ap (λ b. if b then 1 else 0) (some-side n next bytes (entry_taken old next)) in
    let way = length-way m o staged in
    omega (arith, all, side, way)

pub length-part : (slot : Bool) (x : Fields) → length (record_writes 6 slot (record_block x)) ≡ 7
unfolding block_writes
length-part slot x = refl

pub length-behind : (ws : List BlockWrite) (slot : Bool) (x : Fields) → length (ws ++ record_writes 6 slot (record_block x)) ≡ length ws + 6 + 1
length-behind ws slot x =
    let part = length-part slot x in
    let all = length-append ws (record_writes 6 slot (record_block x)) in
    omega arith

-- The slot that is chosen where the fuse stood at the record's writes: the new one where the move counts as done.
equal-turned : (x old : Bool) → x ≡ (if machine.equal x (not old) then not old else old)
equal-turned true true = refl
equal-turned true false = refl
equal-turned false true = refl
equal-turned false false = refl

gate_read : (b : List ℕ) → choice b ≡ layout.bit (layout.byte b 0) 0
gate_read b = let n = layout.byte b 0 in ap (λ m. nat_eq m 1) (let e : n % 2 ≡ (n / 2 ^ 0) % 2 = omega arith in e)

gate-cut : (torn : Torn) (old : Bool) (gate : List ℕ) → choice gate ≡ old → choice (torn_by torn gate) ≡ (if machine.gate_turned (torn_seen torn) (not old) then not old else old)
gate-cut Untouched old gate h = h
gate-cut (Bytes b) old gate h = gate_read b ∙ equal-turned (layout.bit (layout.byte b 0) 0) old

turned-if : (torn : Torn) (old : Bool) (gate : List ℕ) (at : Bool) → choice gate ≡ old → (if at then choice (torn_by torn gate) else choice gate) ≡ (if (if at then machine.gate_turned (torn_seen torn) (not old) else false) then not old else old)
turned-if torn old gate true h = gate-cut torn old gate h
turned-if torn old gate false h = h

apart_low : (x y : ℕ) → x < y → nat_eq x y ≡ false
apart_low x y low = grind (arith, nat_tests)

apart_high : (x y : ℕ) → y < x → nat_eq x y ≡ false
apart_high x y high = grind (arith, nat_tests)

-- n writes later a fuse stands at the gate's where it stood there before
behind-at : (a n : ℕ) → n ≤ a → nat_eq (a - n) 6 ≡ nat_eq a (n + 6)
behind-at a n high = elim (cases_order a (n + 6)) [
  | inl e ↦ (Decides-eqb (a - n) 6).1 (omega arith) ∙ sym ((Decides-eqb a (n + 6)).1 e)
  | inr (inl l) ↦ apart_low (a - n) 6 (omega arith) ∙ sym (apart_low a (n + 6) l)
  | inr (inr l) ↦ apart_high (a - n) 6 (omega arith) ∙ sym (apart_high a (n + 6) l)
]

turned : (g : WriteFuse) (n : ℕ) (old : Bool) (gate : List ℕ) → choice gate ≡ old → n ≤ g.after → torn_choice 6 (Some (record g { after = g.after - n })) gate ≡ (if machine.counts (n + 6) g.after (torn_seen g.torn) (not old) then not old else old)
turned g n old gate h high =
    ap (λ at. if at then choice (torn_by g.torn gate) else choice gate) (behind-at g.after n high)
    ∙ turned-if g.torn old gate (nat_eq g.after (n + 6)) h

-- What the device reads as where the fuse cut short a move: the next record where it counts as done.
pub record CutEnds (n : ℕ) (s t : PlantState) (dev : ℕ) (ws : List BlockWrite) (x : Fields) (done : Bool) : Type 0 where
  pub next : done ≡ true → Follows s t dev ws x
  pub stays : done ≡ false → ReadsAs n (s.block dev) (t.block dev)

differs : (a : Bool) → not a ≡ a → ⊥
differs true h = cc
differs false h = cc

by_slot : (n : ℕ) (s u t : PlantState) (dev : ℕ) (ws : List BlockWrite) (x : Fields) (done : Bool) → Spared n (s.block dev) (u.block dev) → after_writes s dev ws ≡ (u, false) → Stays (u.block dev) (t.block dev) ⊎ Renewed (u.block dev) (t.block dev) x → slot_of t dev ≡ (if done then not (slot_of u dev) else slot_of u dev) → CutEnds n s t dev ws x done
by_slot n s u t dev ws x true spared before (inl w) h = record {
  next = λ e. absurd (differs (slot_of u dev) (sym h ∙ chosen_slot t dev ∙ w.slot ∙ sym (chosen_slot u dev)));
  stays = λ e. absurd (cc);
}
by_slot n s u t dev ws x true spared before (inr w) h = record { next = λ e. follows-renewed n s u t dev ws x spared before w; stays = λ e. absurd (cc) }
by_slot n s u t dev ws x false spared before (inl w) h = record { next = λ e. absurd (cc); stays = λ e. reads-stayed n (s.block dev) (u.block dev) (t.block dev) spared w }
by_slot n s u t dev ws x false spared before (inr w) h = record {
  next = λ e. absurd (cc);
  stays = λ e. absurd (differs (slot_of u dev) (ap (λ b. not b) (chosen_slot u dev) ∙ sym w.slot ∙ sym (chosen_slot t dev) ∙ h));
}

-- the fuse stood at one of the idle writes
cut-in_idle : (n : ℕ) (s t : PlantState) (dev : ℕ) (ws : List BlockWrite) (x : Fields) (g : WriteFuse) (b : Bool) → AreIdle n (s.block dev) ws → s.on (s.owner dev) ≡ true → s.write_fuse (s.owner dev) ≡ Some g → g.after < length ws → after_writes s dev (ws ++ record_writes 6 (not (slot_of s dev)) (record_block x)) ≡ (t, b) → CutEnds n s t dev ws x (machine.counts (length ws + 6) g.after (torn_seen g.torn) (not (slot_of s dev)))
cut-in_idle n s t dev ws x g b idle on fuse low h =
    let u = writes_torn_at s dev ws (write 0 []) g on fuse low in
    let e = sym (append-stops s _ dev ws (record_writes 6 (not (slot_of s dev)) (record_block x)) u) ∙ h in
    let other : nat_eq g.after (length ws + 6) ≡ false = grind (arith, nat_tests) in
    let not_done : machine.counts (length ws + 6) g.after (torn_seen g.torn) (not (slot_of s dev)) ≡ false = ap (λ p. if p then machine.gate_turned (torn_seen g.torn) (not (slot_of s dev)) else false) other in
    record {
      next = λ done. absurd (let never : true ≡ false = sym done ∙ not_done in cc);
      stays = λ e2. spared-as n (s.block dev) (t.block dev) (idle-spares n s t dev ws b idle (u ∙ e));
    }

-- it stood at one of the record's or at the gate's
cut-in_record : (n : ℕ) (s t : PlantState) (dev : ℕ) (ws : List BlockWrite) (x : Fields) (g : WriteFuse) (b : Bool) → IsWhole x → AreIdle n (s.block dev) ws → s.on (s.owner dev) ≡ true → s.write_fuse (s.owner dev) ≡ Some g → length ws ≤ g.after → g.after < length ws + 6 + 1 → after_writes s dev (ws ++ record_writes 6 (not (slot_of s dev)) (record_block x)) ≡ (t, b) → CutEnds n s t dev ws x (machine.counts (length ws + 6) g.after (torn_seen g.torn) (not (slot_of s dev)))
cut-in_record n s t dev ws x g b whole idle on fuse high low h =
    let o = s.owner dev in
    let k = length ws in
    let u = all_written s dev ws in
    let before = writes_pass s dev ws on (subst (λ f. Passes k f) (sym fuse) high) in
    let spared : Spared n (s.block dev) (u.block dev) = idle-spares n s u dev ws false idle before in
    let left : WriteFuse = record g { after = g.after - k } in
    let armed : u.write_fuse o ≡ Some left = at_same s.write_fuse o (write_fuse_after k (s.write_fuse o)) ∙ ap (write_fuse_after k) fuse in
    let all : after_writes u dev (record_part u dev x) ≡ (t, b) =
    ap (after_writes u dev) (sym (record-behind n s u dev x spared)) ∙ sym (append-goes s u dev ws (record_writes 6 (not (slot_of s dev)) (record_block x)) before) ∙ h in
    let torn = writes_torn_at u dev (record_part u dev x) (write 0 []) left on armed (subst (λ m. g.after - k < m) (sym (length-part (not (slot_of u dev)) x)) (let e : g.after - k < 7 = omega arith in e)) in
    let stopped : b ≡ true = ap (λ (r : PlantState × Bool). r.1) (sym all ∙ torn) in
    let cut : IsCutShort 6 u t dev = put-cut_short u t dev 6 (not (slot_of u dev)) (record_block x) (all ∙ (λ i. (t, stopped i))) in
    let same : slot_of u dev ≡ slot_of s dev = spared-slot n s u dev spared in
    by_slot n s u t dev ws x _ spared before (record-ends u t dev x b whole all)
    (cut.slot
    ∙ (λ i. if on i then torn_choice 6 (armed i) (u.block dev 0) else slot_of u dev)
    ∙ turned g k (slot_of s dev) (u.block dev 0) same high
    ∙ ap (λ old. if machine.counts (k + 6) g.after (torn_seen g.torn) (not (slot_of s dev)) then not old else old) (sym same))

pub move-cut : (n : ℕ) (s t : PlantState) (dev : ℕ) (ws : List BlockWrite) (x : Fields) (g : WriteFuse) (b : Bool) → IsWhole x → AreIdle n (s.block dev) ws → s.on (s.owner dev) ≡ true → s.write_fuse (s.owner dev) ≡ Some g → g.after < length ws + 6 + 1 → after_writes s dev (ws ++ record_writes 6 (not (slot_of s dev)) (record_block x)) ≡ (t, b) → CutEnds n s t dev ws x (machine.counts (length ws + 6) g.after (torn_seen g.torn) (not (slot_of s dev)))
move-cut n s t dev ws x g b whole idle on fuse low h = elim (cases_order g.after (length ws)) [
  | inl e ↦ cut-in_record n s t dev ws x g b whole idle on fuse (omega arith) low h
  | inr (inl l) ↦ cut-in_idle n s t dev ws x g b idle on fuse l h
  | inr (inr l) ↦ cut-in_record n s t dev ws x g b whole idle on fuse (omega arith) low h
]
