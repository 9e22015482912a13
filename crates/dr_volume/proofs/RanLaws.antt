-- What reading a device and then writing to it does to a plant, whatever is written.
use Rattle.std.proofs.Common.{ℕ, ◌≡◌, ◌≢◌, Bool, true, false, List, [], ◌∷◌, refl, sym, ◌∙◌, ap, subst, cond, inl, inr}
use Rattle.std.specs.Prelude.{Option, None, Result, Ok, Err, is_err, OnOk, OnErr}
use Rattle.std.proofs.lemmas.Bool.{cases_eq}
use Rattle.dr_logic.specs.Counts.{risen}
use Rattle.dr_logic.specs.Tables.{at}
use Rattle.dr_plant.specs.State.{PlantState, after_read, after_write, can_read, lowered_read, lowered_write, can_write}
use Rattle.dr_plant.proofs.StateLemmas.{write_cases, read_cases, count-after_read, size-after_read, owner-after_read, block-after_read, off-after_read, faults-after_read, owner-after_write, write_can}
use Rattle.dr_plant.specs.Writes.{BlockWrite, after_writes, SameShape}
use Rattle.dr_plant.proofs.WritesLemmas.{goes, stops, ends, along, shape-after_writes, apart-after_writes, off-after_writes, faults-after_writes, same_faults-after_writes}
use Rattle.dr_config.specs.Table.{ConfigTable, StandsFor}
use Rattle.dr_config.proofs.Devices.{stands-along}
use Rattle.dr_volume.specs.Update.{read_and_write, ServerStays}
use Rattle.dr_logic.proofs.Tables.{at_same, at_other, off_later}

-- a device that can't be read is not written
pub read-stops : (s : PlantState) (dev : ℕ) (ws : List BlockWrite) → can_read s dev ≡ false → read_and_write s dev ws ≡ (after_read s dev, true)
unfolding read_and_write
read-stops s dev ws h = ap (λ b. cond b (after_writes s dev ws) (after_read s dev, true)) h

-- a device that can be read is written
pub read-goes : (s : PlantState) (dev : ℕ) (ws : List BlockWrite) → can_read s dev ≡ true → read_and_write s dev ws ≡ after_writes s dev ws
unfolding read_and_write
read-goes s dev ws h = ap (λ b. cond b (after_writes s dev ws) (after_read s dev, true)) h

-- From s to t a device was read and written, and stopped or not: no device, size or owner changed, no block of another
-- device, no server but the owner, and no server is on that was off; where it was stopped the owner is off and a fault
-- is counted, else every server is on or off as it was.
pub record Ran (s t : PlantState) (dev : ℕ) (stopped : Bool) : Type 0 where
  pub shape : SameShape s t
  pub apart : (d b : ℕ) → d ≢ dev → t.block d b ≡ s.block d b
  pub was_on : (server : ℕ) → t.on server ≡ true → s.on server ≡ true
  pub others : (server : ℕ) → server ≢ s.owner dev → ServerStays s t server
  pub unarmed : (server : ℕ) → s.read_fuse server ≡ None → t.read_fuse server ≡ None
  pub on : stopped ≡ false → t.on ≡ s.on
  pub off : stopped ≡ true → t.on (s.owner dev) ≡ false
  pub faults : t.faults ≡ cond stopped (risen s.faults) s.faults

none_later : (f : ℕ → Option ℕ) (k q : ℕ) → f q ≡ None → at f k (lowered_read (f k)) q ≡ None
none_later f k q h = elim (cases_eq q k) [
  | inl e ↦ ap (at f k (lowered_read (f k))) e ∙ at_same f k (lowered_read (f k)) ∙ ap lowered_read (ap f (sym e) ∙ h)
  | inr ne ↦ at_other f k (lowered_read (f k)) q ne ∙ h
]

was_on-after_write : (s t : PlantState) (dev b : ℕ) (bytes : List ℕ) → ((q : ℕ) → t.on q ≡ true → s.on q ≡ true) → (q : ℕ) → (after_write t dev b bytes).on q ≡ true → s.on q ≡ true
was_on-after_write s t dev b bytes h q =
    write_cases (λ u. u.on q ≡ true → s.on q ≡ true) t dev b bytes (h q) (λ is. h q (off_later t.on (t.owner dev) q is)) (h q)

unarmed-after_write : (q : ℕ) (t : PlantState) (dev b : ℕ) (bytes : List ℕ) → t.read_fuse q ≡ None → (after_write t dev b bytes).read_fuse q ≡ None
unarmed-after_write q t dev b bytes h =
    write_cases (λ u. u.read_fuse q ≡ None) t dev b bytes (none_later t.read_fuse (t.owner dev) q h) h h

-- What the writes to a device of that owner keep of the other servers.
record OthersKept (s t : PlantState) (owner : ℕ) : Type 0 where
  same_owner : t.owner ≡ s.owner
  stay : (q : ℕ) → q ≢ owner → ServerStays s t q

others-after_write : (s t : PlantState) (dev b : ℕ) (bytes : List ℕ) → OthersKept s t (s.owner dev) → OthersKept s (after_write t dev b bytes) (s.owner dev)
others-after_write s t dev b bytes h = record {
  same_owner = owner-after_write t dev b bytes ∙ h.same_owner;
  stay = λ q ne.
      let apart : q ≢ t.owner dev = (λ is. ne (is ∙ ap (λ (f : ℕ → ℕ). f dev) h.same_owner)) in
      let k : ServerStays s t q = h.stay q ne in
      write_cases (λ u. ServerStays s u q) t dev b bytes
      (record {
        on = k.on;
        write_fuse = at_other t.write_fuse (t.owner dev) (lowered_write (t.write_fuse (t.owner dev))) q apart ∙ k.write_fuse;
        read_fuse = at_other t.read_fuse (t.owner dev) (lowered_read (t.read_fuse (t.owner dev))) q apart ∙ k.read_fuse;
      })
      (record { on = at_other t.on (t.owner dev) false q apart ∙ k.on; write_fuse = k.write_fuse; read_fuse = k.read_fuse })
      (record { on = k.on; write_fuse = k.write_fuse; read_fuse = k.read_fuse });
}

others-same : (s : PlantState) (owner : ℕ) → OthersKept s s owner
others-same s owner = record { same_owner = refl; stay = λ q ne. record { on = refl; write_fuse = refl; read_fuse = refl } }

-- writes that are all done leave every server on or off as it was
on-after_writes : (s t : PlantState) (dev : ℕ) (ws : List BlockWrite) → after_writes s dev ws ≡ (t, false) → t.on ≡ s.on
on-after_writes s t dev [] h = ap (λ (r : PlantState × Bool). r.0.on) (sym h ∙ ends s dev)
on-after_writes s t dev (w ∷ ws) h =
    elim (can_write s dev) as (λ v. can_write s dev ≡ v → t.on ≡ s.on) [
      | true ↦ λ can.
          on-after_writes (after_write s dev w.block w.bytes) t dev ws (sym (goes s dev w ws can) ∙ h)
          ∙ ap (λ (u : PlantState). u.on) (write_can s dev w.block w.bytes can)
      | false ↦ λ stuck. absurd (let never : true ≡ false = ap (λ (r : PlantState × Bool). r.1) (sym (stops s dev w ws stuck) ∙ h) in cc)
    ] refl

ran-stopped : (s : PlantState) (dev : ℕ) → can_read s dev ≡ false → Ran s (after_read s dev) dev true
ran-stopped s dev stuck = record {
  shape = record { count = count-after_read s dev; size = size-after_read s dev; owner = owner-after_read s dev };
  apart = λ d b ne. ap (λ (f : ℕ → ℕ → List ℕ). f d b) (block-after_read s dev);
  was_on = λ q. read_cases (λ u. u.on q ≡ true → s.on q ≡ true) s dev (λ is. is) (off_later s.on (s.owner dev) q);
  others = λ q ne. read_cases (λ u. ServerStays s u q) s dev
      (record { on = refl; write_fuse = refl; read_fuse = refl })
      (record { on = at_other s.on (s.owner dev) false q ne; write_fuse = refl; read_fuse = refl });
  on = λ done. absurd (cc);
  unarmed = λ q h. read_cases (λ u. u.read_fuse q ≡ None) s dev h h;
  off = λ is. off-after_read s dev stuck;
  faults = faults-after_read s dev ∙ ap (λ b. cond b s.faults (risen s.faults)) stuck;
}

faults-ran : (s t : PlantState) (dev : ℕ) (ws : List BlockWrite) (b : Bool) → after_writes s dev ws ≡ (t, b) → t.faults ≡ cond b (risen s.faults) s.faults
faults-ran s t dev ws true h = faults-after_writes s t dev ws h
faults-ran s t dev ws false h = same_faults-after_writes s t dev ws h

pub ran-written : (s t : PlantState) (dev : ℕ) (ws : List BlockWrite) (b : Bool) → after_writes s dev ws ≡ (t, b) → Ran s t dev b
ran-written s t dev ws b h =
    let is : (after_writes s dev ws).0 ≡ t = ap (λ (r : PlantState × Bool). r.0) h in
    record {
      shape = subst (λ u. SameShape s u) is (shape-after_writes s dev ws);
      apart = λ d k ne. ap (λ (u : PlantState). u.block d k) (sym is) ∙ apart-after_writes s dev ws d k ne;
      was_on = subst (λ (u : PlantState). (q : ℕ) → u.on q ≡ true → s.on q ≡ true) is
          (along (λ (u : PlantState). (q : ℕ) → u.on q ≡ true → s.on q ≡ true) dev (λ u k bytes g. was_on-after_write s u dev k bytes g) ws s (λ q g. g));
      others = (subst (λ u. OthersKept s u (s.owner dev)) is (along (λ u. OthersKept s u (s.owner dev)) dev (λ u k bytes g. others-after_write s u dev k bytes g) ws s (others-same s (s.owner dev)))).stay;
      on = λ done. on-after_writes s t dev ws (h ∙ (λ i. (t, done i)));
      unarmed = λ q none. subst (λ (u : PlantState). u.read_fuse q ≡ None) is (along (λ (u : PlantState). u.read_fuse q ≡ None) dev (λ u k bytes g. unarmed-after_write q u dev k bytes g) ws s none);
      off = λ stopped. off-after_writes s t dev ws (h ∙ (λ i. (t, stopped i)));
      faults = faults-ran s t dev ws b h;
    }

-- what any reading and writing does
pub ran : (s t : PlantState) (dev : ℕ) (ws : List BlockWrite) (b : Bool) → read_and_write s dev ws ≡ (t, b) → Ran s t dev b
ran s t dev ws b h =
    elim (can_read s dev) as (λ v. can_read s dev ≡ v → Ran s t dev b) [
      | true ↦ λ can. ran-written s t dev ws b (sym (read-goes s dev ws can) ∙ h)
      | false ↦ λ stuck.
          let e : ◌≡◌ {A = PlantState × Bool} (after_read s dev, true) (t, b) = sym (read-stops s dev ws stuck) ∙ h in
          subst (λ (r : PlantState × Bool). Ran s r.0 dev r.1) e (ran-stopped s dev stuck)
    ] refl

-- the table goes on standing for the plant
pub ran-stands : (c : ConfigTable) (s t : PlantState) (dev : ℕ) (b : Bool) → Ran s t dev b → StandsFor c s → StandsFor c t
ran-stands c s t dev b r h = stands-along c s t r.shape.count r.shape.owner r.shape.size h

-- what holds where a call succeeded, and where it failed
pub on_ok : {T E P : Type 0} (r : Result T E) → (is_err r ≡ false → P) → OnOk r P
on_ok (Ok x) h = h refl
on_ok (Err x) h = tt

pub on_err : {T E P : Type 0} (r : Result T E) → (is_err r ≡ true → P) → OnErr r P
on_err (Ok x) h = tt
on_err (Err x) h = h refl
