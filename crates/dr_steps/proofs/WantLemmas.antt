-- Where steps want memory: their plans are no refusals, and the journal isn't full.
use Rattle.std.proofs.Common.{ℕ, ◌≡◌, ◌<◌, ◌≤◌, ◌+◌, ◌-◌, ◌&&◌, List, length, refl, ap, ◌∙◌, sym, subst, arith, Bool, true, false, not, cond, nat_le, Option, Some, None, Result, Ok, Err, inl, inr}
use Rattle.std.specs.Prelude.{is_some, IsSome, IsOk, OnErr, if◌then◌else◌}
use Rattle.std.specs.Option.{option_or}
use Rattle.std.proofs.lemmas.Bool.Decides.{nat_tests}
use Rattle.dr_ids.specs.Paths.{path_in}
use Rattle.dr_ids.specs.declared.refusal.Fault.{Fault}
use Rattle.dr_ids.specs.declared.refusal.Fault.TheVariants.{NoMemory, Refused as FaultRefused}
use Rattle.dr_ids.specs.declared.refusal.Refusal.{Refusal}
use Rattle.dr_plant.specs.State.{PlantState}
use Rattle.dr_config.specs.Table.{ConfigTable, server_named, lss_owner, IsSoundConfig}
use Rattle.dr_config.specs.Rules as rules
use Rattle.dr_model.specs.declared.event.Event.{Event}
use Rattle.dr_model.specs.declared.step.Devs.{Devs}
use Rattle.dr_model.specs.declared.step.Name.{Name}
use Rattle.dr_model.specs.declared.step.Step.{Step}
use Rattle.dr_model.specs.declared.step.Step.TheVariants.{Server, Volume, Issue, Write, MakePath, MakeSession, AddMember, Run, Compare, Image}
use Rattle.dr_model.specs.Control.{Control, World}
use Rattle.dr_model.specs.Forming.{refusal_said}
use Rattle.dr_model.specs.Limits.{most_events, image_events, step_events}
use Rattle.dr_model.specs.Log.{memory_for}
use Rattle.dr_model.specs.PlanParts.{Plan, unless, refuses, on_named, on_owner, on_session, owner_of, name_bytes, is_named}
use Rattle.dr_model.specs.Plans.{server_done, volume_refusal, volume_done, make_path_done, path_refusal, issue_refusal, issue_done, write_done, has_room, has_room_for}
use Rattle.dr_model.specs.Refusals.{unknown}
use Rattle.dr_model.specs.Runs.{own_course}
use Rattle.dr_ids.specs.declared.refusal.Kind.TheVariants.{Volume as OfVolume}
use Rattle.dr_model.specs.declared.said.Said.TheVariants.{Done, Held}
use Rattle.dr_model.specs.declared.said.Addition.TheVariants.{Wrote}
use Rattle.dr_model.specs.Sessions.{Session, session_in, join_refusal, joined}
use Rattle.dr_model.specs.SessionPlans.{table_plan, on_volume, name_refusal, off_refusal, place_refusal, add_to}
use Rattle.dr_model.specs.WriteEntries.{waits}
use Rattle.dr_model.proofs.MemoryLemmas.{memory-some, size-next, size-none}
use Rattle.dr_admin.specs.Adding as adding
use Rattle.dr_admin.specs.Adding.{enrol_refusal, member_planned, AddsSo}
use Rattle.dr_steps.specs.Here.{here, OnNoMemory}
use Rattle.dr_steps.specs.Members.{AreThere}
use Rattle.dr_steps.specs.Wants.{WantsRow, WantsMemory}
use Rattle.dr_steps.specs.declared.tables.Tables.{Tables}
use Rattle.dr_steps.proofs.DefineLemmas.{capped, volume-refusal}
use Rattle.dr_steps.proofs.LocatedLemmas.{is_volume-here}
use Rattle.dr_steps.proofs.MemberLemmas.{some-there}
use Rattle.dr_steps.proofs.PathLemmas.{owner-here, path-by}
use Rattle.dr_steps.proofs.SessionLemmas.{join-by}

-- a fault that is want of memory
pub on-no-memory : (T : Type 0) (f : Fault) (P : Type 0) → (f ≡ NoMemory → P) → OnNoMemory {T = T} (Err f) P
on-no-memory T NoMemory P each = each refl
on-no-memory T (FaultRefused r) P each = tt

pub no-memory-weaker : (T U : Type 0) (f : Fault) (P Q : Type 0) → (P → Q) → OnNoMemory {T = T} (Err f) P → OnNoMemory {T = U} (Err f) Q
no-memory-weaker T U NoMemory P Q each is = each is
no-memory-weaker T U (FaultRefused r) P Q each is = tt

-- the same of a result
pub no-memory-then : (T : Type 0) (r : Result T Fault) (P Q : Type 0) → (P → Q) → OnNoMemory r P → OnNoMemory r Q
no-memory-then T (Ok x) P Q each is = tt
no-memory-then T (Err f) P Q each is = no-memory-weaker T T f P Q each is

-- the refusal of a plan in a control state
abbrev refusal_in : Control → Plan → Option Refusal
refusal_in k p = refusal_said (p.says k)

module _ (s : PlantState) (t : ConfigTable) (h : Tables) (ev : List Event) where
  abbrev w : World
  w = here s t h ev

  abbrev k : Control
  k = w.control

  pub server-wants : (name : Name) (bytes : List ℕ) → bytes ≡ name_bytes name → None ≡ rules.server_refusal t bytes → WantsRow w (Server name)
  server-wants name bytes named free = record {
    row = refl;
    free = λ line.
        ap (λ x. refusal_in k (unless (rules.server_refusal t x) (server_done k name))) (sym named)
        ∙ ap (λ o. refusal_in k (unless o (server_done k name))) (sym free);
  }

  pub volume-wants : (v n server size : ℕ) (name : Name) (bytes : List ℕ) → IsSoundConfig t → bytes ≡ name_bytes name → server_named t bytes ≡ Some server → size ≡ capped n → None ≡ rules.volume_refusal t v server size
      → WantsRow w (Volume v name n)
  volume-wants v n server size name bytes sound named there sized free = record {
    row = refl;
    free = λ line.
        ap (λ x. refusal_in k (on_named (server_named t x) each)) (sym named) ∙ ap (λ o. refusal_in k (on_named o each)) there
        ∙ ap (λ o. refusal_in k (unless o (volume_done v server n))) (volume-refusal s t h ev sound v server n ∙ ap (rules.volume_refusal t v server) (sym sized) ∙ sym free);
  }
    where
      each : ℕ → Plan
      each x = unless (volume_refusal k v x n) (volume_done v x n)

  -- what needs the server of a logical subsystem that has one
  owned : (l owner : ℕ) (plan : ℕ → Plan) → IsSoundConfig t → lss_owner t l ≡ Some owner → on_owner (owner_of k l) plan ≡ plan owner
  owned l owner plan sound first = ap (λ o. on_owner o plan) (owner-here s t h ev 0 sound l ∙ first)

  path-new : (o : Option Bool) → (IsSome o → ⊥) → not (is_some o) ≡ true
  path-new None none = refl
  path-new (Some b) none = absurd (none refl)

  pub path-wants : (devs : Devs) (src tgt a b : ℕ) (group : Bool) (sound : IsSoundConfig t) (first : lss_owner t src ≡ Some a) (second : lss_owner t tgt ≡ Some b) (low_a : a < 8) (low_b : b < 8)
      → (is_named devs.dev a k && is_named devs.remotedev b k) ≡ true → None ≡ rules.path_refusal t s.on src tgt → (IsSome (path_in t.paths src tgt) → ⊥) → WantsRow w (MakePath devs src tgt group)
  path-wants devs src tgt a b group sound first second low_a low_b named free new = record {
    row = path-new (path_in t.paths src tgt) new;
    free = λ line.
        ap (refusal_in k) (owned src a (λ x. on_owner (owner_of k tgt) (λ y. unless (path_refusal k devs x y) (make_path_done src tgt group))) sound first)
        ∙ ap (refusal_in k) (owned tgt b (λ y. unless (path_refusal k devs a y) (make_path_done src tgt group)) sound second)
        ∙ ap (λ o. refusal_in k (unless o (make_path_done src tgt group))) (path-by s t h ev line sound devs src tgt a b first second low_a low_b true named ∙ sym free);
  }

  pub issue-wants : (v q offset len : ℕ) (bytes : List ℕ) → issue_refusal k v q ≡ None → WantsRow w (Issue v q offset len bytes)
  issue-wants v q offset len bytes free = record { row = refl; free = λ line. ap (λ o. refusal_in k (unless o (issue_done k v q offset len bytes))) free }

  pub write-wants : (v q offset len : ℕ) (bytes : List ℕ) → issue_refusal k v q ≡ None → WantsRow w (Write v q offset len bytes)
  write-wants v q offset len bytes free = record { row = refl; free = λ line. ap (λ o. refusal_in k (unless o (write_done k v q offset len bytes))) free ∙ says (waits k v q) }
    where
      says : (b : Bool) → refusal_said (cond b (Held (k.issued + 1)) (Done (Wrote (k.issued + 1)))) ≡ None
      says true = refl
      says false = refl

  pub session-wants : (devs : Devs) (l n owner : ℕ) (sound : IsSoundConfig t) (first : lss_owner t l ≡ Some owner) (named : is_named devs.dev owner k ≡ true) → None ≡ off_refusal k owner
      → None ≡ join_refusal (session_in h.sessions.sessions n) l h.sessions.sessions → WantsRow w (MakeSession devs l n)
  session-wants devs l n owner sound first named on free = record {
    row = refl;
    free = λ line.
        ap (refusal_in k) (owned l owner (λ x. unless (option_or (name_refusal k devs.dev x) (option_or (off_refusal k x) (join_refusal (session_in h.sessions.sessions n) l h.sessions.sessions))) (table_plan (joined n l))) sound first)
        ∙ ap (λ o. refusal_in k (unless o (table_plan (joined n l)))) (join-by s t h ev line devs.dev l n sound owner first named None on free);
  }

  pub member-wants : (devs : Devs) (l a n owner : ℕ) → AreThere t h l a n owner → None ≡ place_refusal k devs.dev owner l a → AddsSo k n (session_in h.sessions.sessions n) l a
      → enrol_refusal k (session_in h.sessions.sessions n) l a ≡ None → WantsRow w (AddMember devs l a n)
  member-wants devs l a n owner are placed adds free = record {
    row = refl;
    free = λ line.
        let x = some-there _ are.session in
        let each : ℕ → Session → Plan = λ o y. unless (place_refusal k devs.dev o l a) (add_to k n y l a) in
        ap (refusal_in k) (owned l owner (λ o. on_volume k a (on_session (session_in h.sessions.sessions n) (each o))) are.sound are.owned)
        ∙ ap (λ b. refusal_in k (if b then on_session (session_in h.sessions.sessions n) (each owner) else refuses (unknown OfVolume))) (is_volume-here s t h ev a ∙ are.volume)
        ∙ ap (λ o. refusal_in k (on_session o (each owner))) x.1
        ∙ ap (λ o. refusal_in k (unless o (add_to k n x.0 l a))) (sym placed)
        ∙ ap (refusal_in k) (subst (λ o. AddsSo k n o l a) x.1 adds)
        ∙ ap (λ o. refusal_in k (unless o (adding.plan_of k n (Some x.0) (member_planned k a)))) (subst (λ o. enrol_refusal k o l a ≡ None) x.1 free);
  }

-- ---- the room in the journal

-- past half of the most events a journal has memory for all of them
memory-late : (n : ℕ) → 524288 < n → memory_for n ≡ most_events
memory-late n late =
    memory-some n (λ none. absurd (omega (arith, late, none)))
    ∙ size-next 7 8192 n (omega arith) (omega (arith, late)) ∙ size-next 6 16384 n (omega arith) (omega (arith, late)) ∙ size-next 5 32768 n (omega arith) (omega (arith, late))
    ∙ size-next 4 65536 n (omega arith) (omega (arith, late)) ∙ size-next 3 131072 n (omega arith) (omega (arith, late)) ∙ size-next 2 262144 n (omega arith) (omega (arith, late))
    ∙ size-next 1 524288 n (omega arith) late ∙ size-none 0 most_events n refl

past-room : (n : ℕ) → nat_le (n + image_events) most_events ≡ false → 524288 < n
past-room n full = grind (arith, nat_tests, full)

-- a full journal asks for none
pub full-grows-not : (len spare : ℕ) → nat_le (len + image_events) most_events ≡ false → memory_for (len + spare) < memory_for (len + 1) → ⊥
full-grows-not len spare full grows =
    let late = past-room len full in
    let all = memory-late (len + spare) (omega (arith, late)) in
    let same = memory-late (len + 1) (omega (arith, late)) in
    absurd (omega (arith, all, same, grows))

pub not-both : {T E : Type 0} (r : Result T E) (P : Type 0) → IsOk r → OnErr r P
not-both (Ok x) P fine = tt
not-both (Err e) P fine = absurd cc

-- a step without the room of a step has none for an image either
pub step-full : (events : List Event) → has_room_for step_events events ≡ false → has_room_for image_events events ≡ false
step-full events full = less (length events) full
  where
    less : (n : ℕ) → nat_le (n + step_events) most_events ≡ false → nat_le (n + image_events) most_events ≡ false
    less n full = grind (arith, nat_tests, full)

pub has-room : (n m : ℕ) → nat_le (n + m) most_events ≡ true → n + m ≤ most_events
has-room n m room = grind (arith, nat_tests, room)

-- what a step asks for, by what its call says
module _ (w : World) (held : ℕ) where
  abbrev Grows : ℕ → Type 0
  Grows n = length w.events + n ≤ most_events → memory_for held < memory_for (length w.events + n)

  -- a step that is one plan
  pub alone-room : (step : Step) → own_course (Ok step) ≡ None → has_room w.events ≡ true → Grows step_events → WantsMemory w (Ok step) held
  alone-room (Run s n) alone room grows = absurd cc
  alone-room (Compare v u) alone room grows = absurd cc
  alone-room Image alone room grows = absurd cc
  alone-room _ alone room grows = record { room = room; asks = inl (grows (has-room (length w.events) step_events room)) }

  pub alone-row : (step : Step) → own_course (Ok step) ≡ None → has_room w.events ≡ true → WantsRow w step → WantsMemory w (Ok step) held
  alone-row (Run s n) alone room row = absurd cc
  alone-row (Compare v u) alone room row = absurd cc
  alone-row Image alone room row = absurd cc
  alone-row _ alone room row = record { room = room; asks = inr row }

  pub run-room : (s n left : ℕ) → left ≡ most_events - length w.events → has_room w.events ≡ true → Grows left → WantsMemory w (Ok (Run s n)) held
  run-room s n left is room grows = record {
    room = room;
    asks = inl (subst (λ m. memory_for held < memory_for (length w.events + m)) is (grows (fits (length w.events) left is (has-room (length w.events) step_events room))));
  }
    where
      fits : (n left : ℕ) → left ≡ most_events - n → n + step_events ≤ most_events → n + left ≤ most_events
      fits n left is room = omega (arith, is, room)

  pub compare-room : (v u : ℕ) → has_room w.events ≡ true → Grows step_events → WantsMemory w (Ok (Compare v u)) held
  compare-room v u room grows = record { room = room; asks = inl (grows (has-room (length w.events) step_events room)) }

  pub image-room : has_room_for image_events w.events ≡ true → Grows image_events → WantsMemory w (Ok Image) held
  image-room room grows = record { room = room; asks = inl (grows (has-room (length w.events) image_events room)) }
