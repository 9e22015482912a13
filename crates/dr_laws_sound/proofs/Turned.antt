-- What a failover and a failback leave where they end well.
use Rattle.std.proofs.Common.{ℕ, ◌≡◌, ◌≢◌, inl, refl, ap, sym, ◌∙◌, subst, Bool, true, false, cond, List, [], ◌∷◌, ◌++◌, length, Option, Some, None}
use Rattle.std.proofs.Math.Seq.{take-length}
use Rattle.std.proofs.lemmas.Bool.{and_parts, and_from, eq-eqb, or_from}
use Rattle.std.specs.FinSet.{contains}
use Rattle.dr_ids.specs.declared.refusal.Refusal.{Refusal}
use Rattle.dr_model.specs.declared.state.Part.{Part}
use Rattle.dr_model.specs.declared.step.Devs.{Devs}
use Rattle.dr_model.specs.Layout.{is_part}
use Rattle.dr_model.specs.Histories.{histories}
use Rattle.dr_model.specs.Pairs.{is_primary_of, is_secondary_of, is_kind, next_state, state_with, is_suspended, is_cascaded}
use Rattle.dr_model.specs.Control.{Control, Fuse, Volume, World}
use Rattle.dr_model.specs.Moves.{Move, TakeOver, FallBack, Yield, target, LeavePrimary}
use Rattle.dr_model.specs.Carry.{Make, Pass, Do, End, Entry, Outcome, continue, go, carry, check}
use Rattle.dr_model.specs.Entries.{fields_at, is_running, is_settled, is_no_secondary}
use Rattle.dr_model.specs.PairEntries.{end_if, refuse_if, reach_refusal, leads_to, belongs_to, may_take_over, leads_as, unsent_by, failover_entries, failback_entries, fall_back_on, yield_on}
use Rattle.dr_model.specs.Plans.{found_volumes, failover_plan, failback_plan, yield_refusal}
use Rattle.dr_model.specs.Table.{Row, table}
use Rattle.dr_model.specs.Rows.{next_row}
use Rattle.dr_model.specs.Laws.{Sound}
use Rattle.dr_model.specs.Allowed.{Runs, Allowed, Ready}
use Rattle.dr_laws_sound.specs.Turning.{TakesOver, IsTurned, Leaves, AreEqual, LeavesFirst, FailsOver}
use Rattle.dr_facts.proofs.Parts.{two-partners}
use Rattle.dr_model.proofs.CarryLemmas.{carry-first}
use Rattle.dr_laws_sound.proofs.Turns.{done, act-cases}
use Rattle.dr_laws_sound.proofs.RowsAfter.{idle, table-done}
use Rattle.dr_laws_sound.proofs.KeepsSound.{Along, MayDo, keeps-sound}
use Rattle.dr_laws_sound.proofs.FitsFlash.{as_begun, sound-begun}
use Rattle.dr_laws_sound.proofs.FitsPairs.{reached, its-second, its-first, row, runs-done}
use Rattle.dr_laws_sound.proofs.FitsFailover.{along-failback}
use Rattle.dr_laws_sound.proofs.Awaits.{none-refused}
use Rattle.dr_laws_sound.proofs.Along as along
use Rattle.dr_facts.proofs.Tables.{at_cases}
use Rattle.dr_facts.proofs.Tracks.{empty_has}
use Rattle.dr_logic.proofs.Tables.{at_same, at_other}
use Rattle.dr_logic.proofs.Truth.{false_true}
use Rattle.dr_laws_sound.proofs.FitsCollide.{uncascaded-second}

-- ---- a pair that is in place

-- outside what its primary records a pair contains the same
pub pair-equal : (w : World) → Sound w → (x y : ℕ) → is_primary_of y (fields_at w.control x) ≡ true → is_secondary_of x (fields_at w.control y) ≡ true → AreEqual w x y
pair-equal w s x y leads follows t lt none still =
    s.rows.pairs x y (its-second y (fields_at w.control x) leads) (inl (its-first x (fields_at w.control y) follows)) t lt (or_from _ _ none still)
    (λ back. two-partners (table w y) x (s.rows.parts.fit y) (its-first x (fields_at w.control y) follows) back)

-- ---- entries that led on

-- a check passed, and an entry that may refuse didn't
pub passed-check : (w u : World) (ok : Control → Bool) (r : Refusal) (ds : List Entry) → carry w (check ok r ∷ ds) ≡ (u, None) → (ok w.control ≡ true) × (carry w ds ≡ (u, None))
unfolding carry
passed-check w u ok r ds leads = by (ok w.control) refl leads
  where
    by : (b : Bool) → ok w.control ≡ b → go w (cond b Pass (End r)) (λ v. carry v ds) ≡ (u, None) → (ok w.control ≡ true) × (carry w ds ≡ (u, None))
    by true is h = (is, h)
    by false is h = none-refused w u r h

pub passed-refuse : (w u : World) (why : Control → Option Refusal) (ds : List Entry) → carry w (refuse_if why ∷ ds) ≡ (u, None) → (why w.control ≡ None) × (carry w ds ≡ (u, None))
unfolding carry
passed-refuse w u why ds leads = by (why w.control) refl leads
  where
    by : (o : Option Refusal) → why w.control ≡ o → go w (end_if o) (λ v. carry v ds) ≡ (u, None) → (why w.control ≡ None) × (carry w ds ≡ (u, None))
    by None is h = (is, h)
    by (Some r) is h = none-refused w u r h

passed-found : (w u : World) (devs : Devs) (a b : ℕ) (ds : List Entry) → carry w (found_volumes devs a b ++ ds) ≡ (u, None) → carry w ds ≡ (u, None)
passed-found w u devs a b ds leads = (passed-check w u _ _ _ (passed-check w u _ _ _ (passed-check w u _ _ _ (passed-check w u _ _ _ leads).1).1).1).1

-- a move on a running server was done
pub record Led (w : World) (m : Move) (ds : List Entry) (u : World) : Type 0 where
  pub fuse : Option Fuse
  pub leads : carry (done w m fuse) ds ≡ (u, None)

pub move-led : (w u : World) (d : Entry) (m : Move) (ds : List Entry) → d w.control ≡ Do (Make m) → Runs w (target m) → carry w (d ∷ ds) ≡ (u, None) → Led w m ds u
move-led w u d m ds is on leads =
    act-cases w (Make m) (λ t. continue t.0 t.1 (λ v. carry v ds) ≡ (u, None) → Led w m ds u)
    (λ writes off h. false_true off on) (λ f h. record { fuse = f; leads = h }) (λ f h. none-refused _ u _ h) (λ writes f h. none-refused _ u _ h)
    (sym (carry-first w d ds (Do (Make m)) is) ∙ leads)

pub nothing-left : (w u : World) → carry w [] ≡ (u, None) → w ≡ u
unfolding carry
nothing-left w u leads = ap (λ (o : Outcome). o.0) leads

-- such entries leave a sound world
pub sound-led : (w u : World) (ds : List Entry) → Sound w → Along w ds → carry w ds ≡ (u, None) → Sound u
sound-led w u ds s a leads =
    subst Sound (ap (λ (o : Outcome). o.0) leads)
    (subst (λ es. Sound (carry w es).0) (take-length ds) (along.along-moment Sound Sound Sound Sound MayDo (λ v i. i) (λ v i. i) (λ v i. i) keeps-sound w (length ds) ds s a))

module _ (w : World) (s : Sound w) where
  abbrev first : World
  first = as_begun w

  -- a move that stores nothing
  same-bytes : (m : Move) (f : Option Fuse) → Allowed (histories first.events).write (table first) m → Ready first m → ((t : ℕ) → (next_row (histories first.events).write m (table first)).bytes t ≡ w.contents (target m) t) → (v t : ℕ) → (done first m f).contents v t ≡ w.contents v t
  same-bytes m f allowed ready none v t =
      let z = sound-begun w s in
      ap (λ (T : ℕ → Row). (T v).bytes t) (table-done first z.rows.structure m f z.rows.images.blank allowed ready)
      ∙ at_cases (λ v (r : Row). r.bytes t ≡ w.contents v t) (table first) (target m) (next_row (histories first.events).write m (table first)) (none t) (λ v ne. refl) v

  -- ---- a secondary is taken over

  module _ (b a : ℕ) (kind : Part) (on : Runs first b) (may : may_take_over a b kind w.control ≡ true) (f : Option Fuse) where
    abbrev over : World
    over = done first (TakeOver b) f

    belongs : is_secondary_of a (fields_at w.control b) ≡ true
    belongs = (and_parts (belongs_to a b w.control) _ may).0

    now-first : over.control.volume b ≡ row first (TakeOver b) f
    now-first = at_same w.control.volume b (row first (TakeOver b) f)

    is-second : is_part (fields_at w.control b).secondary ≡ true
    is-second = (and_parts (is_part (fields_at w.control b).secondary) _ belongs).0

    taken : is_cascaded (fields_at w.control b) ≡ false → TakesOver w over b a kind
    taken unfed = record {
      leads = ap (λ (v : Volume). is_primary_of a v.fields) now-first ∙ belongs;
      of_kind = ap (λ (v : Volume). is_kind kind v.fields.primary) now-first ∙ (and_parts (belongs_to a b w.control) _ may).1;
      suspended = ap (λ (v : Volume). is_suspended v.fields.primary_state) now-first;
      synced = λ t. ap (λ (v : Volume). contains v.fields.out_of_sync t) now-first ∙ empty_has t;
      second = ap (λ (v : Volume). is_part v.fields.secondary) now-first;
      unsealed = ap (λ (v : Volume). v.fields.seal) now-first;
      others = λ v ne. ap (λ (x : Volume). x.fields) (at_other w.control.volume b (row first (TakeOver b) f) v ne);
      tracks = same-bytes (TakeOver b) f (record { second = is-second; free = uncascaded-second (fields_at w.control b) unfed is-second }) (idle first b (sound-begun w s).queue on) (λ t. refl);
    }

    -- a cascaded one leaves its primary
    abbrev parted : World
    parted = done first (LeavePrimary b) f

    left : is_cascaded (fields_at w.control b) ≡ true → LeavesFirst w parted b
    left fed = record {
      own = ap (λ (v : Volume). v.fields) (at_same w.control.volume b (row first (LeavePrimary b) f));
      others = λ v ne. ap (λ (x : Volume). x.fields) (at_other w.control.volume b (row first (LeavePrimary b) f) v ne);
      tracks = same-bytes (LeavePrimary b) f (record { first = (and_parts (is_part (fields_at w.control b).primary) _ fed).0; second = is-second }) (idle first b (sound-begun w s).queue on) (λ t. refl);
    }

  pub failover-leaves : (devs : Devs) (b a : ℕ) (kind : Part) → Leaves (λ u. FailsOver w u b a kind) w (failover_plan w.control devs b a kind)
  failover-leaves devs b a kind u leads =
      let runs = passed-check first u (is_running b) _ _ (passed-found first u devs b a (failover_entries w.control b a kind) leads) in
      let may = passed-check first u (may_take_over a b kind) _ _ runs.1 in (
        λ unfed.
            let led = move-led first u _ (TakeOver b) [] (ap (λ c. Do (Make (cond c (LeavePrimary b) (TakeOver b)))) unfed) runs.0 may.1 in
            subst (λ u. TakesOver w u b a kind) (nothing-left _ u led.leads) (taken b a kind runs.0 may.0 led.fuse unfed),
        λ fed.
            let led = move-led first u _ (LeavePrimary b) [] (ap (λ c. Do (Make (cond c (LeavePrimary b) (TakeOver b)))) fed) runs.0 may.1 in
            subst (λ u. LeavesFirst w u b) (nothing-left _ u led.leads) (left b a kind runs.0 may.0 led.fuse fed),
      )

  -- ---- a pair goes the other way

  module _ (x y : ℕ) (kind : Part) (leads : leads_as x y kind w.control ≡ true) (ne : y ≢ x) (f g : Option Fuse) where
    abbrev falls : Move
    falls = FallBack x (unsent_by y w.control) (state_with (unsent_by y w.control) (fields_at w.control x))

    abbrev half : World
    half = done first falls f

    abbrev yields : Move
    yields = Yield y x (fields_at half.control x).primary (fields_at half.control x).primary_state

    abbrev both : World
    both = done half yields g

    at-x : both.control.volume x ≡ row first falls f
    at-x = at_other half.control.volume y (row half yields g) x (λ e. ne (sym e)) ∙ at_same w.control.volume x (row first falls f)

    at-half : half.control.volume x ≡ row first falls f
    at-half = at_same w.control.volume x (row first falls f)

    at-y : both.control.volume y ≡ row half yields g
    at-y = at_same half.control.volume y (row half yields g)

    was : is_primary_of y (fields_at w.control x) ≡ true
    was = (and_parts (leads_to x y w.control) _ leads).0

    part : is_part (fields_at half.control x).primary ≡ true
    part = ap (λ (v : Volume). is_part v.fields.primary) at-half ∙ (and_parts (is_part (fields_at w.control x).primary) _ was).0

    leads-then : is_primary_of y (fields_at both.control x) ≡ true
    leads-then = ap (λ (v : Volume). is_primary_of y v.fields) at-x ∙ was

    follows-then : is_secondary_of x (fields_at both.control y) ≡ true
    follows-then = ap (λ (v : Volume). is_secondary_of x v.fields) at-y ∙ and_from _ _ part (eq-eqb x x refl)

    idle-then : (fields_at both.control x).recording ≡ false
    idle-then = ap (λ (v : Volume). v.fields.recording) at-x

    turned : Sound both → IsTurned both x y kind
    turned z = record {
      leads = leads-then;
      of_kind = ap (λ (v : Volume). is_kind kind v.fields.primary) at-x ∙ (and_parts (leads_to x y w.control) _ leads).1;
      state = ap (λ (v : Volume). v.fields.primary_state) at-x ∙ sym (ap (λ (v : Volume). next_state v.fields) at-x);
      idle = idle-then;
      follows = follows-then;
      alike = ap (λ (v : Volume). v.fields.secondary) at-y ∙ ap (λ (v : Volume). v.fields.primary) (at-half ∙ sym at-x);
      same_state = ap (λ (v : Volume). v.fields.secondary_state) at-y ∙ ap (λ (v : Volume). v.fields.primary_state) (at-half ∙ sym at-x);
      unsealed = ap (λ (v : Volume). v.fields.seal) at-y;
      plain = ap (λ (v : Volume). is_part v.fields.primary) at-y;
      equal = λ t lt none. pair-equal both z x y leads-then follows-then t lt none ((z.rows.recorders x).none idle-then t);
    }

  pub failback-leaves : (devs : Devs) (x y : ℕ) (kind : Part) → Leaves (λ u. IsTurned u x y kind) w (failback_plan w.control devs x y kind)
  failback-leaves devs x y kind u leads =
      let z = sound-begun w s in
      let runs = passed-check first u (is_running x) _ _ (passed-found first u devs x y (failback_entries w.control (yield_refusal y) x y kind) leads) in
      let reach = passed-refuse first u (reach_refusal x y) _ runs.1 in
      let heads = passed-check first u (leads_as x y kind) _ _ reach.1 in
      let back = passed-check first u (leads_to y x) _ _ heads.1 in
      let lone = passed-check first u (is_no_secondary y) _ _ (passed-check first u (is_no_secondary x) _ _ back.1).1 in
      let still = passed-check first u (is_settled x) _ _ (passed-check first u (is_settled y) _ _ lone.1).1 in
      let free = passed-refuse first u (yield_refusal y) _ still.1 in
      let m : Move = FallBack x (unsent_by y w.control) (state_with (unsent_by y w.control) (fields_at w.control x)) in
      let one = move-led first u (fall_back_on x y) m (yield_on y x ∷ []) refl runs.0 free.1 in
      let v : World = done first m one.fuse in
      let on : Runs v y = runs-done first m one.fuse y (reached first x y reach.0) in
      let two = move-led v u (yield_on y x) (Yield y x (fields_at v.control x).primary (fields_at v.control x).primary_state) [] refl on one.leads in
      let ne : y ≢ x = λ e. (z.rows.parts.secondary x y (its-second y (fields_at w.control x) (and_parts (leads_to x y w.control) _ heads.0).0)).apart (ap (λ j. (w.control.volume j).server) (sym e)) in
      let is = nothing-left _ u two.leads in
      let sound : Sound u = sound-led first u (failback_plan w.control devs x y kind).entries z (along-failback w s devs x y kind) leads in
      subst (λ u. IsTurned u x y kind) is (turned x y kind heads.0 ne one.fuse two.fuse (subst Sound (sym is) sound))
