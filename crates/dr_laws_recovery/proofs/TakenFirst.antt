-- A recovery commits or reverts no target of a session before it has taken over all secondaries of its members.
use Rattle.std.proofs.Common.{ℕ, ◌≡◌, ◌≢◌, inl, inr, refl, ap, sym, ◌∙◌, subst, Bool, true, false, cond, List, [], ◌∷◌, ◌++◌, map, Option, Some, None}
use Rattle.dr_ids.specs.declared.names.Member.{Member}
use Rattle.dr_ids.specs.declared.refusal.Decision.{Decision}
use Rattle.dr_model.specs.Layout.{is_part}
use Rattle.dr_model.specs.Control.{Control, Fuse, Volume, World}
use Rattle.dr_model.specs.Sessions.{Session, session_in}
use Rattle.dr_model.specs.Moves.{Move, TakeOver, Commit, Revert, target, moved, keeps_staged, moved_keeping}
use Rattle.dr_model.specs.Carry.{Act, Make, EndRecovery, Next, Pass, Do, End, Entry}
use Rattle.dr_model.specs.Entries.{fields_at}
use Rattle.dr_model.specs.RecoveryPlans.{decided_in, secondary_refusal, take_over_on, settle_on, end_recovery, recover_done, recover_plan}
use Rattle.dr_model.specs.PlanParts.{Plan, unless, on_session}
use Rattle.dr_model.specs.Groups.{In, Lone}
use Rattle.dr_model.specs.Laws.{Sound}
use Rattle.dr_laws_sessions.proofs.Changes.{session-found}
use Rattle.dr_laws_recovery.specs.TakenOver.{TakesOverFirst}
use Rattle.dr_facts.proofs.Tables.{at_cases}
use Rattle.dr_laws_sound.proofs.Turns.{next_of, carried_in, done, after_act}
use Rattle.dr_laws_sound.proofs.KeepsSound.{Along, Then, MayDo}
use Rattle.dr_laws_sound.proofs.FitsFlash.{as_begun, sound-begun}
use Rattle.dr_laws_sound.proofs.FitsRecovery.{along-recover}
use Rattle.dr_laws_sound.proofs.Rides.{Rides, Both}
use Rattle.dr_laws_recovery.proofs.Keeping.{LeftBut, left-passes, none-left, MayFit, keeps-fit, Keeping, Goes, goes-unless, goes-moment, goes-ends, goes-after}
use Rattle.dr_facts.proofs.SharedEntries.{settle-fine}
use Rattle.dr_facts.proofs.Entries.{any_world, any_reason, Fine}
use Rattle.dr_laws_sound.proofs.Along as along
use Rattle.dr_logic.proofs.Tables.{at_same, at_other}

module _ (w : World) (sound : Sound w) (s : ℕ) (x : Session) (found : session_in w.control.sessions s ≡ Some x) where
  -- no secondary of a member is one
  abbrev Taken : Control → Type 0
  Taken k = (q : Member) → In q x.members → is_part (fields_at k q.b.0).secondary ≡ false

  -- none is where a target has changed
  abbrev First : Control → Type 0
  First k = (m q : Member) → In m x.members → In q x.members → fields_at k m.c.0 ≢ fields_at w.control m.c.0 → is_part (fields_at k q.b.0).secondary ≡ false

  abbrev Holds : World → Type 0
  Holds u = First u.control

  abbrev I : World → Type 0
  I = Both Sound Holds

  -- a takeover is of no member's target, and what changes targets comes when all are taken over
  abbrev Fit : World → Act → Type 0
  Fit u (Make (TakeOver b)) = (m : Member) → In m x.members → m.c.0 ≢ b
  Fit u (Make (Commit c a i n)) = Taken u.control
  Fit u (Make (Revert c a i n)) = Taken u.control
  Fit u (EndRecovery i n) = Unit {0}
  Fit u a = ⊥

  abbrev May : World → Act → Type 0
  May = MayFit Fit

  -- ---- the acts

  -- a move that leaves the secondary part, or ends it
  abbrev EndsPart : World → Move → Type 0
  EndsPart u a = is_part (fields_at u.control (target a)).secondary ≡ false → is_part (next_of u a).secondary ≡ false

  still : (u : World) (a : Move) → EndsPart u a → (b : ℕ) → is_part (fields_at u.control b).secondary ≡ false → is_part (fields_at (done u a None).control b).secondary ≡ false
  still u a is b =
      at_cases (λ b (y : Volume). is_part (fields_at u.control b).secondary ≡ false → is_part y.fields.secondary ≡ false) u.control.volume (target a) (moved_keeping (keeps_staged a) (u.control.volume (target a)) (next_of u a) (carried_in u a))
      is (λ q ne h. h) b

  stays-taken : (u : World) (a : Move) → EndsPart u a → Taken u.control → Taken (done u a None).control
  stays-taken u a is taken q h = still u a is q.b.0 (taken q h)

  stays : (u : World) (a : Move) → Holds u → Fit u (Make a) → Holds (done u a None)
  stays u (TakeOver b) h fit = λ m q here there ne. still u (TakeOver b) (λ e. refl) q.b.0 (h m q here there (λ e. ne (
      ap (λ (y : Volume). y.fields) (at_other u.control.volume b (moved (u.control.volume b) (next_of u (TakeOver b)) (carried_in u (TakeOver b))) m.c.0 (fit m here)) ∙ e)))
  stays u (Commit c a i n) h fit = λ m q here there ne. stays-taken u (Commit c a i n) (λ e. e) fit q there
  stays u (Revert c a i n) h fit = λ m q here there ne. stays-taken u (Revert c a i n) (λ e. e) fit q there
  stays u a h fit = absurd fit

  acts : Rides Sound Holds May
  acts = record { does = does; counts = λ u a f j h may. stays u a h may.1; opens = λ u v i n f j h may. absurd may.1; fails = λ u a f d j h may. h }
    where
      does : (u : World) (a : Act) (f : Option Fuse) → Sound u → Holds u → May u a → Holds (after_act u a f)
      does u (Make a) f j h may = stays u a h may.1
      does u (EndRecovery i n) f j h may = h
      does u a f j h may = absurd may.1

  begins : I (as_begun w)
  begins = (sound-begun w sound, λ m q here there ne. absurd (ne refl))

  abbrev Fits : World → List Entry → Type 0
  Fits = along.Along I I I May

  -- ---- secondaries are taken over

  listed : In x w.control.sessions
  listed = (session-found w.control.sessions s x found).0

  -- no target is a secondary
  other : (m q : Member) → In m x.members → In q x.members → q.c.0 ≢ m.b.0
  other m q here there e =
      let lone : Lone w.control.sessions = sound.groups.lone in
      let one = lone.one m.b.0 x x q m listed listed there here (inr (inr (sym e))) (inr (inl refl)) in
      (lone.differ x q listed there).b_c (ap (λ (p : Member). p.b.0) one.1 ∙ sym e)

  -- each is left to take, or taken
  abbrev IsTaken : World → Member → Type 0
  IsTaken u q = is_part (fields_at u.control q.b.0).secondary ≡ false

  abbrev Left : World → List Member → Type 0
  Left u = LeftBut x.members (IsTaken u)

  left-done : (u : World) (f : Option Fuse) (m : Member) (rest : List Member) → Left u (m ∷ rest) → Left (done u (TakeOver m.b.0) f) rest
  left-done u f m rest left =
      left-passes x.members (IsTaken u) (IsTaken (done u (TakeOver m.b.0) f)) m rest left (λ q h. still u (TakeOver m.b.0) (λ e. refl) q.b.0 h)
      (ap (λ (y : Volume). is_part y.fields.secondary) (at_same u.control.volume m.b.0 (moved (u.control.volume m.b.0) (next_of u (TakeOver m.b.0)) (carried_in u (TakeOver m.b.0)))))

  taking : (ms : List Member) (es : List Entry) → ((m : Member) → In m ms → In m x.members) → ((u : World) → Holds u → Taken u.control → Along u es → Fits u es) → (u : World) → Holds u → Left u ms → Along u (map take_over_on ms ++ es) → Fits u (map take_over_on ms ++ es)
  taking [] es here go u h left a = go u h (none-left x.members (IsTaken u) left) a
  taking (m ∷ ms) es here go u h left a =
      along.along-entry I I I May u (take_over_on m) (map take_over_on ms ++ es) (take_over_on m u.control) refl
      (by (λ v h left a. taking ms es (λ q h. here q (inr h)) go v h left a) (is_part (fields_at u.control m.b.0).secondary) refl (along.along-comes Sound Sound Sound MayDo u (take_over_on m) (map take_over_on ms ++ es) (take_over_on m u.control) refl a))
    where
      by : ((v : World) → Holds v → Left v ms → Along v (map take_over_on ms ++ es) → Fits v (map take_over_on ms ++ es)) → (b : Bool) → is_part (fields_at u.control m.b.0).secondary ≡ b
          → Then u (cond b (Do (Make (TakeOver m.b.0))) Pass) (λ v. Along v (map take_over_on ms ++ es)) → along.along_next I I May u (cond b (Do (Make (TakeOver m.b.0))) Pass) (λ v. Fits v (map take_over_on ms ++ es))
      by on true is a = ((a.0, λ q there. other m q (here m (inl refl)) there), λ f j. on (done u (TakeOver m.b.0) f) j.1 (left-done u f m ms left) (a.1 f j.0))
      by on false is a = on u h (left-passes x.members (IsTaken u) (IsTaken u) m ms left (λ q h. h) is) a

  -- ---- and then targets change

  -- an act that changes no secondary
  abbrev Settles : Act → Type 0
  Settles (Make (Commit c a i n)) = Unit {0}
  Settles (Make (Revert c a i n)) = Unit {0}
  Settles (EndRecovery i n) = Unit {0}
  Settles a = ⊥

  act-settles : (u : World) (a : Act) → Settles a → Taken u.control → Fit u a × ((f : Option Fuse) → Taken (after_act u a f).control)
  act-settles u (Make (Commit c a i n)) is taken = (taken, λ f. stays-taken u (Commit c a i n) (λ e. e) taken)
  act-settles u (Make (Revert c a i n)) is taken = (taken, λ f. stays-taken u (Revert c a i n) (λ e. e) taken)
  act-settles u (EndRecovery i n) is taken = (tt, λ f. taken)
  act-settles u a is taken = absurd is

  -- what an entry comes to
  abbrev Settling : World → Next → Type 0
  Settling u d = Fine any_world (λ u. Settles) any_reason u d

  settle-next : (u : World) (d : Next) (es : List Entry) → ((v : World) → Holds v → Taken v.control → Along v es → Fits v es) → Holds u → Taken u.control → Settling u d → Then u d (λ v. Along v es) → along.along_next I I May u d (λ v. Fits v es)
  settle-next u Pass es on h taken is a = on u h taken a
  settle-next u (End r) es on h taken is a = (a, h)
  settle-next u (Do d) es on h taken is a = let by = act-settles u d is taken in ((a.0, by.0), λ f j. on _ j.1 (by.1 f) (a.1 f j.0))

  settles : (d : Decision) (m : Member) (u : World) → Settling u (settle_on s d m u.control)
  settles d m u = settle-fine any_world (λ u. Settles) any_reason s d m (λ no n v any. tt) (λ yes n v any. tt) u tt

  settle-entry : (d : Entry) (es : List Entry) → ((u : World) → Settling u (d u.control)) → ((u : World) → Holds u → Taken u.control → Along u es → Fits u es) → (u : World) → Holds u → Taken u.control → Along u (d ∷ es) → Fits u (d ∷ es)
  settle-entry d es is go u h taken a = along.along-entry I I I May u d es (d u.control) refl (settle-next u (d u.control) es go h taken (is u) (along.along-comes Sound Sound Sound MayDo u d es (d u.control) refl a))

  over-all : (d : Decision) (ms : List Member) (es : List Entry) → ((u : World) → Holds u → Taken u.control → Along u es → Fits u es) → (u : World) → Holds u → Taken u.control → Along u (map (settle_on s d) ms ++ es) → Fits u (map (settle_on s d) ms ++ es)
  over-all d [] es go = go
  over-all d (m ∷ ms) es go = settle-entry (settle_on s d m) (map (settle_on s d) ms ++ es) (settles d m) (over-all d ms es go)

  ends : (u : World) → Holds u → Taken u.control → Along u (end_recovery s ∷ []) → Fits u (end_recovery s ∷ [])
  ends = settle-entry (end_recovery s) [] (λ k. tt) (λ u h taken a. along.along-nil I I I May u (along.along-ends Sound Sound Sound MayDo u a, h))

  -- ---- the plan

  abbrev told : Decision
  told = decided_in s w.control

  abbrev keeping : Keeping w Holds
  keeping = record { law = I; may = May; keeps = keeps-fit Holds Fit acts; gives = λ v i. i.1; told = λ v on es h. h; begins = begins }

  abbrev GoesOn : Plan → Type 0
  GoesOn = Goes w Holds keeping

  done-goes : secondary_refusal x.members w.control ≡ None → GoesOn (recover_done s told x.members)
  done-goes running = record {
    begins = begins;
    entries = taking x.members (map (settle_on s told) x.members ++ end_recovery s ∷ []) (λ m h. h) (over-all told x.members (end_recovery s ∷ []) ends) (as_begun w) begins.1 (λ q h. inl h) (along-recover w sound s x found running);
    last = λ v h. h;
    follows = λ q. refl;
  }

  abbrev p : Plan
  p = recover_plan w.control s

  goes : GoesOn p
  goes = subst GoesOn (sym (ap (λ o. on_session o (λ x. unless (secondary_refusal x.members w.control) (recover_done s told x.members))) found))
      (goes-unless w Holds keeping (secondary_refusal x.members w.control) (recover_done s told x.members) done-goes)

  pub takes-first : TakesOverFirst w p x
  takes-first = record {
    moments = goes-moment w Holds keeping p goes;
    reads = goes-ends w Holds keeping p goes;
    after = goes-after w Holds keeping p goes;
  }
