use Rattle.std.proofs.Common.{ℕ, ◌≡◌, ◌≢◌, ◌<◌, ◌≤◌, ◌+◌, ◌*◌, ◌⊎◌, inl, inr, Bool, true, false, not, List, [], ◌∷◌, ◌++◌, refl, ap, ◌∙◌, sym, cond, length, arith, subst, nat_eq, length-append}
use Rattle.std.specs.Prelude.{Some, None, ◌↔◌}
use Rattle.std.proofs.lemmas.Bool.{cases_order}
use Rattle.std.proofs.lemmas.Bool.Decides.{nat_tests}
use Rattle.dr_plant.specs.declared.plant.WriteFuse.{WriteFuse}
use Rattle.dr_plant.specs.State.{PlantState, after_write, can_write, torn_by}
use Rattle.dr_plant.proofs.StateLemmas.{other-after_write, same-after_write}
use Rattle.dr_record.specs.Taken.{taken_from}
use Rattle.dr_plant.specs.Writes.{BlockWrite, write, block_writes, after_writes, Passes, all_put, torn_after, SameShape}
use Rattle.dr_record.specs.Slots.{choice, slot_of, gate_of, start_of, stored, Chooses, IsOldOrNew, record_writes, torn_choice, slot_when_stopped, IsCutShort, SameElsewhere}
use Rattle.dr_record.proofs.TakenLemmas.{taken_same}
use Rattle.dr_plant.proofs.WritesLemmas.{goes, stops, ends, append-goes, append-stops, shape-after_writes, apart-after_writes, off-after_writes, faults-after_writes}
use Rattle.dr_plant.proofs.BlocksLemmas.{all_put-outside, outside-block_writes, done-block_writes, length-block_writes}
use Rattle.dr_plant.proofs.WriteLists.{writes_pass, writes_torn, writes_torn_at, writes_off}
use Rattle.dr_logic.proofs.Tables.{at2_same}

-- How the writes of a record went: stopped in its blocks, or those are all done and the gate is written.
record InBlocks (s t : PlantState) (dev : ℕ) (blocks : List BlockWrite) (b : Bool) : Type 0 where
  stopped : b ≡ true
  way : after_writes s dev blocks ≡ (t, true)

record AtGate (s t : PlantState) (dev : ℕ) (blocks : List BlockWrite) (gate : List ℕ) (b : Bool) : Type 0 where
  middle : PlantState
  way : after_writes s dev blocks ≡ (middle, false)
  last : t ≡ after_write middle dev 0 gate
  can : can_write middle dev ≡ not b

one : (s t : PlantState) (dev : ℕ) (gate : List ℕ) (b : Bool) → after_writes s dev (write 0 gate ∷ []) ≡ (t, b) → (t ≡ after_write s dev 0 gate) × (can_write s dev ≡ not b)
one s t dev gate b h =
    elim (can_write s dev) as (λ v. can_write s dev ≡ v → (t ≡ after_write s dev 0 gate) × (can_write s dev ≡ not b)) [
      | true ↦ λ c.
          let e = sym h ∙ goes s dev (write 0 gate) [] c ∙ ends (after_write s dev 0 gate) dev in
          (ap (λ (r : PlantState × Bool). r.0) e, c ∙ ap (λ (r : PlantState × Bool). not r.1) (sym e))
      | false ↦ λ c.
          let e = sym h ∙ stops s dev (write 0 gate) [] c in
          (ap (λ (r : PlantState × Bool). r.0) e, c ∙ ap (λ (r : PlantState × Bool). not r.1) (sym e))
    ] refl

ways : (s t : PlantState) (dev : ℕ) (blocks : List BlockWrite) (gate : List ℕ) (b : Bool) → after_writes s dev (blocks ++ write 0 gate ∷ []) ≡ (t, b) → InBlocks s t dev blocks b ⊎ AtGate s t dev blocks gate b
ways s t dev blocks gate b h =
    let r = after_writes s dev blocks in
    elim r.1 as (λ v. r.1 ≡ v → InBlocks s t dev blocks b ⊎ AtGate s t dev blocks gate b) [
      | true ↦ λ c.
          let is : ◌≡◌ {A = PlantState × Bool} r (r.0, true) = (λ i. (r.0, c i)) in
          let e = sym h ∙ append-stops s r.0 dev blocks (write 0 gate ∷ []) is in
          inl (record { stopped = ap (λ (p : PlantState × Bool). p.1) e; way = is ∙ (λ i. (sym (ap (λ (p : PlantState × Bool). p.0) e) i, true)) })
      | false ↦ λ c.
          let is : ◌≡◌ {A = PlantState × Bool} r (r.0, false) = (λ i. (r.0, c i)) in
          let w = one r.0 t dev gate b (sym (append-goes s r.0 dev blocks (write 0 gate ∷ []) is) ∙ h) in
          inr (record { middle = r.0; way = is; last = w.0; can = w.1 })
    ] refl

-- the two slots share no block with the gate nor with each other, and lie below block 2 * n + 1
start-above : (n : ℕ) (slot : Bool) → 0 < start_of n slot
start-above n true = omega arith
start-above n false = omega arith

start-below : (n : ℕ) (slot : Bool) → start_of n slot + n ≤ 2 * n + 1
start-below n true = omega arith
start-below n false = omega arith

apart : (n i : ℕ) (slot : Bool) → i < n → (start_of n slot + i < start_of n (not slot) + 0) ⊎ (start_of n (not slot) + 0 + n ≤ start_of n slot + i)
apart n i true h = inr (omega arith)
apart n i false h = inl (omega arith)

-- the writes of a record leave each block that is not the gate nor of the slot that is written
outside : (s t : PlantState) (dev n : ℕ) (slot : Bool) (f : ℕ → List ℕ) (b : Bool) → after_writes s dev (record_writes n slot f) ≡ (t, b) → (q : ℕ) → q ≢ 0 → (q < start_of n slot + 0) ⊎ (start_of n slot + 0 + n ≤ q) → t.block dev q ≡ s.block dev q
outside s t dev n slot f b h q nz out =
    let kept = outside-block_writes s dev (start_of n slot) 0 n f dev q out in
    elim (ways s t dev (block_writes (start_of n slot) 0 n f) (gate_of slot) b h) [
      | inl w ↦ ap (λ (r : PlantState × Bool). r.0.block dev q) (sym w.way) ∙ kept
      | inr w ↦ ap (λ (u : PlantState). u.block dev q) w.last ∙ other-after_write w.middle dev 0 (gate_of slot) dev q nz ∙ ap (λ (r : PlantState × Bool). r.0.block dev q) (sym w.way) ∙ kept
    ]

-- so the slot that isn't written gives the value that it gave
other-slot : {F : Type 0} (taken : F → ℕ → List ℕ → F) (fresh : F) (s t : PlantState) (dev n : ℕ) (old : Bool) (f : ℕ → List ℕ) (b : Bool) → after_writes s dev (record_writes n (not old) f) ≡ (t, b) → stored taken n fresh t dev old ≡ stored taken n fresh s dev old
other-slot taken fresh s t dev n old f b h =
    taken_same taken 0 n _ _ fresh (λ i l u. outside s t dev n (not old) f b h (start_of n old + i) (let z = start-above n old in λ e. absurd (omega arith)) (apart n i old (omega arith)))

-- and the slot that is written, once its blocks are all done, gives the new value
new-slot : {F : Type 0} (taken : F → ℕ → List ℕ → F) (fresh x : F) (s t : PlantState) (dev n : ℕ) (slot : Bool) (f : ℕ → List ℕ) (b : Bool) → taken_from taken 0 n f fresh ≡ x → AtGate s t dev (block_writes (start_of n slot) 0 n f) (gate_of slot) b → stored taken n fresh t dev slot ≡ x
new-slot taken fresh x s t dev n slot f b reads w =
    taken_same taken 0 n _ _ fresh (λ i l u.
    ap (λ (v : PlantState). v.block dev (start_of n slot + i)) w.last
    ∙ other-after_write w.middle dev 0 (gate_of slot) dev (start_of n slot + i) (let z = start-above n slot in λ e. absurd (omega arith))
    ∙ done-block_writes s w.middle dev (start_of n slot) 0 n f w.way i l u)
    ∙ reads

choice-gate_of : (slot : Bool) → choice (gate_of slot) ≡ slot
unfolding gate_of
choice-gate_of true = refl
choice-gate_of false = refl

-- once every write is done the gate chooses the slot that was written
slot-done : (s t : PlantState) (dev n : ℕ) (slot : Bool) (f : ℕ → List ℕ) → AtGate s t dev (block_writes (start_of n slot) 0 n f) (gate_of slot) false → slot_of t dev ≡ slot
slot-done s t dev n slot f w =
    ap (λ (v : PlantState). slot_of v dev) w.last ∙ ap choice (same-after_write w.middle dev 0 (gate_of slot) w.can) ∙ choice-gate_of slot

gate-kept : (s t : PlantState) (dev n : ℕ) (slot : Bool) (f : ℕ → List ℕ) (b : Bool) → InBlocks s t dev (block_writes (start_of n slot) 0 n f) b → slot_of t dev ≡ slot_of s dev
gate-kept s t dev n slot f b w =
    ap (λ (r : PlantState × Bool). slot_of r.0 dev) (sym w.way)
    ∙ ap choice (outside-block_writes s dev (start_of n slot) 0 n f dev 0 (let z = start-above n slot in inl (omega arith)))

-- the new value is read back once every write is done
pub put-done : {F : Type 0} (taken : F → ℕ → List ℕ → F) (fresh x : F) (s t : PlantState) (dev n : ℕ) (slot : Bool) (f : ℕ → List ℕ) → taken_from taken 0 n f fresh ≡ x → after_writes s dev (record_writes n slot f) ≡ (t, false) → Chooses taken n fresh t dev slot x
put-done taken fresh x s t dev n slot f reads h =
    elim (ways s t dev (block_writes (start_of n slot) 0 n f) (gate_of slot) false h) [
      | inl w ↦ let e = w.stopped in absurd (cc)
      | inr w ↦ record { gate = slot-done s t dev n slot f w; value = new-slot taken fresh x s t dev n slot f false reads w }
    ]

either : (a old : Bool) → (a ≡ old) ⊎ (a ≡ not old)
either true true = inl refl
either true false = inr refl
either false true = inr refl
either false false = inl refl

-- whatever became of the writes, the device chooses the old value or the new one
pub put-old_or_new : {F : Type 0} (taken : F → ℕ → List ℕ → F) (fresh x y : F) (s t : PlantState) (dev n : ℕ) (old : Bool) (f : ℕ → List ℕ) (b : Bool) → Chooses taken n fresh s dev old y → taken_from taken 0 n f fresh ≡ x → after_writes s dev (record_writes n (not old) f) ≡ (t, b) → IsOldOrNew taken n fresh t dev old y x
put-old_or_new taken fresh x y s t dev n old f b held reads h =
    let kept = other-slot taken fresh s t dev n old f b h ∙ held.value in
    elim (ways s t dev (block_writes (start_of n (not old)) 0 n f) (gate_of (not old)) b h) [
      | inl w ↦ inl (record { gate = gate-kept s t dev n (not old) f b w ∙ held.gate; value = kept })
      | inr w ↦ elim (either (slot_of t dev) old) [
        | inl e ↦ inl (record { gate = e; value = kept })
        | inr e ↦ inr (record { gate = e; value = new-slot taken fresh x s t dev n (not old) f b reads w })
      ]
    ]

differs : (a b : Bool) → a ≡ b → a ≡ not b → ⊥
differs true true p q = cc
differs true false p q = cc
differs false true p q = cc
differs false false p q = cc

-- the slot changed exactly where the new value is chosen
pub put-slot : {F : Type 0} (taken : F → ℕ → List ℕ → F) (n : ℕ) (fresh : F) (t : PlantState) (dev : ℕ) (old : Bool) (y x : F) → IsOldOrNew taken n fresh t dev old y x → slot_of t dev ≡ not old ↔ Chooses taken n fresh t dev (not old) x
put-slot taken n fresh t dev old y x (inl c) = ((λ e. absurd (differs _ _ c.gate e)), (λ d. d.gate))
put-slot taken n fresh t dev old y x (inr c) = ((λ e. c), (λ d. d.gate))

-- nothing else changed
pub put-elsewhere : (s t : PlantState) (dev n : ℕ) (slot : Bool) (f : ℕ → List ℕ) (b : Bool) → after_writes s dev (record_writes n slot f) ≡ (t, b) → SameElsewhere (2 * n + 1) s t dev
put-elsewhere s t dev n slot f b h = record {
  shape = subst (λ (r : PlantState × Bool). SameShape s r.0) h (shape-after_writes s dev (record_writes n slot f));
  others = λ d k ne. ap (λ (r : PlantState × Bool). r.0.block d k) (sym h) ∙ apart-after_writes s dev (record_writes n slot f) d k ne;
  behind = λ k le. outside s t dev n slot f b h k (λ e. absurd (omega arith)) (inr (let z = start-below n slot in omega arith));
}

-- where the fuse stands at another number than that of the blocks, it is not the gate that it tears
torn_choice-other : (n : ℕ) (f : WriteFuse) (gate : List ℕ) → f.after ≢ n → torn_choice n (Some f) gate ≡ choice gate
torn_choice-other n f gate ne = let e : nat_eq f.after n ≡ false = grind (arith, nat_tests) in ap (λ v. cond v (choice (torn_by f.torn gate)) (choice gate)) e

torn_choice-gate : (n : ℕ) (f : WriteFuse) (gate : List ℕ) → f.after ≡ n → torn_choice n (Some f) gate ≡ choice (torn_by f.torn gate)
torn_choice-gate n f gate h = let e : nat_eq f.after n ≡ true = grind (arith, nat_tests) in ap (λ v. cond v (choice (torn_by f.torn gate)) (choice gate)) e

-- a record has one write more than blocks
length-record : (n : ℕ) (slot : Bool) (f : ℕ → List ℕ) → length (record_writes n slot f) ≡ n + 1
length-record n slot f = length-append (block_writes (start_of n slot) 0 n f) (write 0 (gate_of slot) ∷ []) ∙ ap (λ k. k + 1) (length-block_writes (start_of n slot) 0 n f)

-- which slot a stopped put leaves chosen, where a fuse stopped it
stopped-fuse : (s t : PlantState) (dev n : ℕ) (slot : Bool) (fs : ℕ → List ℕ) (f : WriteFuse) → s.on (s.owner dev) ≡ true → s.write_fuse (s.owner dev) ≡ Some f → after_writes s dev (record_writes n slot fs) ≡ (t, true) → slot_of t dev ≡ torn_choice n (Some f) (s.block dev 0)
stopped-fuse s t dev n slot fs f on fuse h =
    let blocks = block_writes (start_of n slot) 0 n fs in
    let gate = write 0 (gate_of slot) in
    let many = length-block_writes (start_of n slot) 0 n fs in
    elim (cases_order f.after n) [
      | inl e ↦
          let u = torn_after s dev blocks 0 f in
          let is = writes_torn s dev blocks gate [] f on fuse (e ∙ sym many) in
          let kept = all_put-outside s.block dev (start_of n slot) 0 n fs dev 0 (let z = start-above n slot in inl (omega arith)) in
          ap (λ (r : PlantState × Bool). slot_of r.0 dev) (sym h ∙ is)
          ∙ ap choice (at2_same (all_put s.block dev blocks) dev 0 (torn_by f.torn (all_put s.block dev blocks dev 0)) ∙ ap (torn_by f.torn) kept)
          ∙ sym (torn_choice-gate n f (s.block dev 0) e)
      | inr (inl lt) ↦
          let is = writes_torn_at s dev blocks gate f on fuse (rw many lt) in
          let whole = append-stops s _ dev blocks (gate ∷ []) is in
          ap (λ (r : PlantState × Bool). slot_of r.0 dev) (sym h ∙ whole ∙ sym is)
          ∙ ap choice (outside-block_writes s dev (start_of n slot) 0 n fs dev 0 (let z = start-above n slot in inl (omega arith)))
          ∙ sym (torn_choice-other n f (s.block dev 0) (λ e. absurd (omega arith)))
      | inr (inr gt) ↦
          let passes : Passes (length (record_writes n slot fs)) (s.write_fuse (s.owner dev)) = rw (fuse, length-record n slot fs) (let le : n + 1 ≤ f.after = omega arith in le) in
          let e : true ≡ false = ap (λ (r : PlantState × Bool). r.1) (sym h ∙ writes_pass s dev (record_writes n slot fs) on passes) in absurd (cc)
    ]

stopped-slot : (s t : PlantState) (dev n : ℕ) (slot : Bool) (fs : ℕ → List ℕ) → after_writes s dev (record_writes n slot fs) ≡ (t, true) → slot_of t dev ≡ slot_when_stopped n s dev
stopped-slot s t dev n slot fs h =
    let o = s.owner dev in
    elim (s.on o) as (λ v. s.on o ≡ v → slot_of t dev ≡ cond v (torn_choice n (s.write_fuse o) (s.block dev 0)) (slot_of s dev)) [
      | true ↦ λ on. elim (s.write_fuse o) as (λ g. s.write_fuse o ≡ g → slot_of t dev ≡ torn_choice n g (s.block dev 0)) [
        | None ↦ λ fuse.
            let e : true ≡ false = ap (λ (r : PlantState × Bool). r.1) (sym h ∙ writes_pass s dev (record_writes n slot fs) on (rw fuse tt)) in absurd (cc)
        | Some f ↦ λ fuse. stopped-fuse s t dev n slot fs f on fuse h
      ] refl
      | false ↦ λ off.
          ap (λ (r : PlantState × Bool). slot_of r.0 dev) (sym h ∙ writes_off s dev (record_writes n slot fs) off (let k = length-record n slot fs in omega arith))
    ] refl

-- what a stopped put leaves
pub put-cut_short : (s t : PlantState) (dev n : ℕ) (slot : Bool) (fs : ℕ → List ℕ) → after_writes s dev (record_writes n slot fs) ≡ (t, true) → IsCutShort n s t dev
put-cut_short s t dev n slot fs h = record {
  off = off-after_writes s t dev (record_writes n slot fs) h;
  faults = faults-after_writes s t dev (record_writes n slot fs) h;
  slot = stopped-slot s t dev n slot fs h;
}
