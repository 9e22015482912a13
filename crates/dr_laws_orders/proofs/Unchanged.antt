-- Volumes that are as they were, but for two numbers that may have risen: what that keeps, and which moves keep it.
use Rattle.std.proofs.Common.{ℕ, max, ◌≡◌, ◌≤◌, refl, ap, sym, ◌∙◌, subst, arith, Bool, true, false, cond, ◌||◌, List, Option, None}
use Rattle.std.specs.FinSet.{contains, union, empty}
use Rattle.dr_logic.specs.Bytes.{zeros}
use Rattle.dr_logic.specs.Tables.{at}
use Rattle.dr_model.specs.Layout.{Tracks, Fields, free_entries}
use Rattle.dr_model.specs.Control.{Volume, World, Fuse}
use Rattle.dr_model.specs.Pairs.{is_engaged, voided, past_attempt, with_floor}
use Rattle.dr_model.specs.Views.{shows_source}
use Rattle.dr_model.specs.Moves.{Move, Finish, RaiseFloor, moved, tracks_after}
use Rattle.dr_model.specs.Carry.{Act, Make}
use Rattle.dr_model.specs.Entries.{fields_at}
use Rattle.dr_model.specs.Table.{table}
use Rattle.dr_model.specs.Laws.{Sound, shown}
use Rattle.dr_laws_recovery.specs.BothViews.{set_aside}
use Rattle.dr_laws_sound.proofs.Turns.{done, after_act}
use Rattle.dr_laws_sound.proofs.Rides.{Rides}
use Rattle.dr_laws_recovery.proofs.Keeping.{MayFit}
use Rattle.dr_laws_orders.specs.OlderNumbers.{RisesTo, IsUnchanged}
use Rattle.dr_facts.proofs.Tables.{at_two}
use Rattle.dr_logic.proofs.Truth.{contrary}

-- nothing is void of a primary that doesn't record and isn't held
void-nothing : (f : Fields) (a c : ℕ) → f.recording ≡ false → f.coordination ≡ false → record (voided f) { attempt = a; floor = c } ≡ record f { attempt = a; floor = c }
void-nothing f a c quiet loose = λ i. record f {
  coordination = sym loose i;
  recording = sym quiet i;
  out_of_sync = cond (engaged i) (union f.out_of_sync f.change_recording) f.out_of_sync;
  change_recording = cond (engaged i) empty f.change_recording;
  entries = cond (engaged i) free_entries f.entries;
  attempt = a;
  floor = c;
}
  where
    engaged : is_engaged f ≡ false
    engaged = ap (λ b. b || f.coordination) quiet ∙ loose

module _ (w : World) (sound : Sound w) (n : ℕ) where
  -- a volume with that record and these tracks is as in w
  pub record IsAs (v : ℕ) (y : Volume) (bytes : ℕ → List ℕ) : Type 0 where
    pub holds : (t : ℕ) → bytes t ≡ w.contents v t
    pub says : y.fields ≡ record (fields_at w.control v) { attempt = y.fields.attempt; floor = y.fields.floor }
    pub attempt : RisesTo n (fields_at w.control v).attempt y.fields.attempt
    pub floor : RisesTo n (fields_at w.control v).floor y.fields.floor

  -- so are all volumes of a world
  abbrev pub AreAs : World → Type 0
  AreAs u = (v : ℕ) → IsAs v (u.control.volume v) (u.contents v)

  -- they are where nothing was done
  rises-none : (k : ℕ) → RisesTo n k k
  rises-none k = record { higher = omega arith; low = omega arith }

  pub as-begins : AreAs w
  as-begins v = record { holds = λ t. refl; says = refl; attempt = rises-none (fields_at w.control v).attempt; floor = rises-none (fields_at w.control v).floor }

  -- ---- what they show

  module _ (u : World) (all : AreAs u) where
    -- what a track shows, and what is set aside, is one of two tracks, as the record says
    either : (b : Bool) (p q t : ℕ) → cond b (u.contents p t) (u.contents q t) ≡ cond b (w.contents p t) (w.contents q t)
    either b p q t = λ i. cond b ((all p).holds t i) ((all q).holds t i)

    shows-same : (v t : ℕ) → shown (table u) v t ≡ shown (table w) v t
    shows-same v t =
        ap (λ (f : Fields). cond (shows_source f t) (u.contents f.source t) (u.contents v t)) (all v).says
        ∙ either (shows_source (fields_at w.control v) t) (fields_at w.control v).source v t

    aside-same : (v t : ℕ) → set_aside (table u) v t ≡ set_aside (table w) v t
    aside-same v t =
        ap (λ (f : Fields). cond (contains f.previous_own t) (u.contents v t) (u.contents f.source t)) (all v).says
        ∙ either (contains (fields_at w.control v).previous_own t) v (fields_at w.control v).source t

    pub as-unchanged : (v : ℕ) → IsUnchanged n w u v
    as-unchanged v = let a = all v in record { contains = a.holds; shows = shows-same v; aside = aside-same v; says = a.says; attempt = a.attempt; floor = a.floor }

  -- ---- moves that keep it

  -- A Finish of a primary that doesn't record, and a floor that rises, each to n.
  abbrev pub FitMove : World → Move → Type 0
  FitMove u (Finish v k) = (k ≡ n) × ((fields_at w.control v).recording ≡ false)
  FitMove u (RaiseFloor v k) = (k ≡ n) × ((fields_at u.control v).floor ≤ n)
  FitMove u m = ⊥

  abbrev pub Fit : World → Act → Type 0
  Fit u (Make m) = FitMove u m
  Fit u a = ⊥

  -- a primary that doesn't record isn't held
  loose : (v : ℕ) → (fields_at w.control v).recording ≡ false → (fields_at w.control v).coordination ≡ false
  loose v quiet = contrary (fields_at w.control v).coordination (fields_at w.control v).recording (sound.rows.recorders v).holds quiet

  -- blank tracks were zeros
  tracks-stay : (v : ℕ) (f : Fields) (bytes : ℕ → List ℕ) → f.blank ≡ (fields_at w.control v).blank → ((t : ℕ) → bytes t ≡ w.contents v t) → (t : ℕ) → tracks_after f None bytes t ≡ w.contents v t
  tracks-stay v f bytes blank holds t = by (contains f.blank t) refl
    where
      by : (b : Bool) → contains f.blank t ≡ b → cond b zeros (bytes t) ≡ w.contents v t
      by true is = sym (sound.rows.images.blank v t (ap (λ (s : Tracks). contains s t) (sym blank) ∙ is))
      by false is = holds t

  module _ (u : World) (all : AreAs u) (v : ℕ) where
    abbrev y : Volume
    y = u.control.volume v

    abbrev f : Fields
    f = fields_at w.control v

    -- the volume gets these fields; those that differ in the two numbers alone will do
    abbrev Next : Fields → Type 0
    Next g = IsAs v (moved y g None) (tracks_after g None (u.contents v))

    next : (a c : ℕ) (g : Fields) → g ≡ record f { attempt = a; floor = c } → RisesTo n f.attempt a → RisesTo n f.floor c → Next g
    next a c g is attempt floor = subst Next (sym is) (record { holds = tracks-stay v (record f { attempt = a; floor = c }) (u.contents v) refl (all v).holds; says = refl; attempt = attempt; floor = floor })

    -- an attempt, or a floor, has risen to n
    finished : f.recording ≡ false → Next (past_attempt n y.fields)
    finished quiet =
        let a : RisesTo n f.attempt y.fields.attempt = (all v).attempt in
        next (max y.fields.attempt n) y.fields.floor _
        (ap (λ (g : Fields). record (voided g) { attempt = max y.fields.attempt n }) (all v).says ∙ void-nothing f (max y.fields.attempt n) y.fields.floor quiet (loose v quiet))
        (record { higher = (let p : f.attempt ≤ y.fields.attempt = a.higher in omega arith); low = (let p : y.fields.attempt ≤ max f.attempt n = a.low in omega arith) })
        (all v).floor

    raised : y.fields.floor ≤ n → Next (with_floor n y.fields)
    raised low =
        let c : RisesTo n f.floor y.fields.floor = (all v).floor in
        next y.fields.attempt n _ (ap (λ (g : Fields). record g { floor = n }) (all v).says) (all v).attempt
        (record { higher = (let p : f.floor ≤ y.fields.floor = c.higher in omega arith); low = omega arith })

    -- and the others stay
    placed : (g : Fields) → Next g → (q : ℕ) → IsAs q (at u.control.volume v (moved y g None) q) (at u.contents v (tracks_after g None (u.contents v)) q)
    placed g here q = at_two (λ q (y : Volume) (b : ℕ → List ℕ). IsAs q y b) u.control.volume u.contents v (moved y g None) (tracks_after g None (u.contents v)) here (λ q ne. all q) q

  -- each of them does, done or done in a stop
  stays : (u : World) (m : Move) → AreAs u → FitMove u m → AreAs (done u m None)
  stays u (Finish v k) all fit = subst (λ k. AreAs (done u (Finish v k) None)) (sym fit.0) (placed u all v _ (finished u all v fit.1))
  stays u (RaiseFloor v k) all fit = subst (λ k. AreAs (done u (RaiseFloor v k) None)) (sym fit.0) (placed u all v _ (raised u all v fit.1))
  stays u m all fit = absurd fit

  pub acts : Rides Sound AreAs (MayFit Fit)
  acts = record { does = does; counts = λ u m g j all may. stays u m all may.1; opens = λ u v s k g j all may. absurd may.1; fails = λ u a g d j all may. all }
    where
      does : (u : World) (a : Act) (g : Option Fuse) → Sound u → AreAs u → MayFit Fit u a → AreAs (after_act u a g)
      does u (Make m) g j all may = stays u m all may.1
      does u a g j all may = absurd may.1
