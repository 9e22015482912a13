-- The example goes through all phases, and its laws hold all the way.
use Rattle.std.proofs.Common.{ℕ, ◌≡◌, ◌⊎◌, ◌<◌, ◌≤◌, inl, inr, refl, ap, sym, subst, ◌∙◌, arith, Bool, true, false, List, [], ◌∷◌, Some, None}
use Rattle.std.proofs.lemmas.Option.{same_Some}
use Rattle.dr_ids.specs.declared.names.Member.{Member}
use Rattle.dr_ids.specs.declared.refusal.PhaseName.{PhaseName}
use Rattle.dr_ids.specs.declared.refusal.PhaseName.TheVariants as phase
use Rattle.dr_ids.specs.declared.refusal.Decision.TheVariants.{NoMember, Nothing, RevertAll, CommitRest}
use Rattle.dr_model.specs.Decisions.{Shown, decision, decided}
use Rattle.dr_model.specs.Control.{Control}
use Rattle.dr_model.specs.Phases as phases
use Rattle.dr_model.specs.Moves.{Move, Hold, Free, Seal, Flash, Commit, Revert, Finish, TakeOver}
use Rattle.dr_model.specs.Pairs.{held_for, records}
use Rattle.dr_model.specs.Entries.{fields_at}
use Rattle.dr_model.specs.PairEntries.{send_refusal}
use Rattle.dr_model.specs.Sessions.{Session, Mirror, session_in, changed, begun, has_subsystem, subsystem_of}
use Rattle.dr_model.specs.SessionEntries.{flash_refusal, commit_refusal, is_flashed, is_committed, shown_by_members}
use Rattle.dr_model.specs.Messages.{Flight, Message, no_flight}
use Rattle.dr_model.specs.Groups.{In, IsAt, PlacesDiffer, MemberStands, MasterStands, OwesServers, SessionFits, Groups, Due, HoldsMember, OpensAttempt}
use Rattle.dr_model.specs.Flights.{MayTake, owed_after, reports_after, FlightFits, Flights}
use Rattle.dr_model.specs.Attempts.{Seen, seen, seen_in, all_seen, roles, committed, number_shown, AllHeld, AllFlashed, Numbered, InPhase, phase_of, owed_of, reports_of, AttemptOf, Attempts, InAttempt, WorkDone, ServerDone}
use Rattle.dr_laws_sessions.specs.Frames.{Suits, ServerSilent}
use Rattle.dr_laws_sessions.proofs.Owed.{owes-idle}
use Rattle.dr_laws_sessions.proofs.Quieting.{groups-move, moved-opened}
use Rattle.dr_laws_sessions.proofs.Tables.{groups-taken}
use Rattle.dr_laws_attempts.specs.Orders.{LeavesTargetsAlone}
use Rattle.dr_laws_attempts.specs.Example.{first, second, session, start, move, told, reply, report, now, master_now, in_phase, held, freed, sealed, flashing, one_flashed, flashed, one_committed, all_committed, over, both, lost, aborted, reported, taken_back}
use Rattle.dr_laws_attempts.proofs.Moves.{attempts-move}
use Rattle.dr_laws_attempts.proofs.Tables.{attempts-opened, with-done}
use Rattle.dr_laws_attempts.proofs.Orders.{done-calm, done-asked, order-frees, order-seals, order-flashes, order-commits, order-finishes}

-- ---- the first state is lawful

-- and no message is ever in flight
record Both (k : Control) : Type 0 where
  groups : Groups k
  attempts : Attempts k
  still : k.flight ≡ no_flight

nothing-comes : (s : ℕ) (p : PhaseName) (n : ℕ) (owed : List ℕ) (reports : List Shown) (vs : List Seen) → InPhase p n owed reports vs → (ms : List Message) → MayTake no_flight s p n owed ms → InPhase p n (owed_after ms owed) (reports_after ms reports) vs
nothing-comes s p n owed reports vs law [] takes = law
nothing-comes s p n owed reports vs law (m ∷ ms) takes = absurd takes.0.here

nothing-flies : (s : ℕ) (p : PhaseName) (n : ℕ) (owed : List ℕ) (reports : List Shown) (vs : List Seen) → InPhase p n owed reports vs → FlightFits no_flight s p n owed reports vs
nothing-flies s p n owed reports vs law = record {
  known = λ m here is. absurd here;
  so_far = λ m here its is. absurd here;
  fenced = λ f m order is older to. absurd order.here;
  heard = λ lost v here o. omega arith;
  reached = λ lost m awaited. absurd awaited.here;
  holds = λ k m order past. absurd order.order.here;
  after_holds = λ m order is later. absurd order.here;
  flashes = λ k m order past. absurd order.order.here;
  commits = λ m order. absurd order.order.here;
  commit_way = λ m threat. absurd threat.order.order.here;
  revert_way = λ m threat. absurd threat.order.order.here;
  one_way = λ flag c r commit revert to also. absurd commit.order.here;
  others = λ lost k told other m threat. absurd threat.order.order.here;
  others_come = λ lost q awaited k told other m threat. absurd awaited.here;
  replies = nothing-comes s p n owed reports vs law;
  few = λ m awaited. absurd awaited.here;
  finished = λ ends m awaited. absurd awaited.here;
}

flights-still : (k : Control) → Attempts k → k.flight ≡ no_flight → Flights k
flights-still k law still = record {
  homes = λ m here. absurd (subst (λ (f : Flight). In m f.messages) still here);
  fences = λ s server. subst (λ (f : Flight). f.fence s server ≤ f.epoch s) (sym still) (omega arith);
  each = λ x i. subst (λ f. FlightFits f x.number (phase_of x.mirror) x.last (owed_of x.mirror) (reports_of x.mirror) (seen_in k x)) (sym still)
      (nothing-flies x.number (phase_of x.mirror) x.last (owed_of x.mirror) (reports_of x.mirror) (seen_in k x) (law.sessions x i).phase);
}

is-session : (x : Session) → In x (session ∷ []) → session ≡ x
is-session x (inl is) = sym is
is-session x (inr none) = absurd none

first-low : (v : ℕ) → IsAt v first → v < 4
first-low v (inl e) = omega arith
first-low v (inr (inl e)) = omega arith
first-low v (inr (inr e)) = omega arith

second-high : (v : ℕ) → IsAt v second → 3 < v
second-high v (inl e) = omega arith
second-high v (inr (inl e)) = omega arith
second-high v (inr (inr e)) = omega arith

abbrev IsOne : Member → Type 0
IsOne m = (m ≡ first) ⊎ ((m ≡ second) ⊎ ⊥)

one-place : (v : ℕ) (m q : Member) → IsOne m → IsOne q → IsAt v m → IsAt v q → m ≡ q
one-place v m q (inl a) (inl b) i j = a ∙ sym b
one-place v m q (inl a) (inr (inl b)) i j = let low = first-low v (subst (IsAt v) a i) in let high = second-high v (subst (IsAt v) b j) in absurd (omega arith)
one-place v m q (inr (inl a)) (inl b) i j = let high = second-high v (subst (IsAt v) a i) in let low = first-low v (subst (IsAt v) b j) in absurd (omega arith)
one-place v m q (inr (inl a)) (inr (inl b)) i j = a ∙ sym b
one-place v m q (inr (inr none)) b i j = absurd none
one-place v m q a (inr (inr none)) i j = absurd none

by-member : (P : Member → Type 0) → P first → P second → (m : Member) → IsOne m → P m
by-member P a b m (inl is) = subst P (sym is) a
by-member P a b m (inr (inl is)) = subst P (sym is) b
by-member P a b m (inr (inr none)) = absurd none

start-fits : SessionFits start session
unfolding phases.servers_where
start-fits = record {
  sound = record { low = refl; servers = λ r h. ap (λ (r : Mirror). r.master.servers) (sym ((same_Some _ _ h))); number = λ r h. ap (λ (r : Mirror). r.master.number) (sym ((same_Some _ _ h))) };
  once = (refl, (refl, tt));
  stands = by-member (MemberStands start)
      (record { a = refl; b = refl; c = refl; server = refl; apart = λ e. cc; target_server = refl; tracks = refl; target_tracks = refl })
      (record { a = refl; b = refl; c = refl; server = refl; apart = λ e. cc; target_server = refl; tracks = refl; target_tracks = refl });
  runs = λ r h. subst (MasterStands start) ((same_Some _ _ h)) (record { volume = 1; defined = refl; server = refl; in_phase = λ e. cc });
  finished = λ r h ends m here out. absurd (idle-ends r ((same_Some _ _ h)) ends);
  few = λ r h lost. absurd (idle-lost r ((same_Some _ _ h)) lost);
  owes = λ r h. subst (λ (q : Mirror). OwesServers q.master) ((same_Some _ _ h)) (owes-idle (0 ∷ 1 ∷ []) 0);
}
  where
    idle-ends : (r : Mirror) → record { server = 0; paused = false; master = phases.idle (0 ∷ 1 ∷ []) 0 } ≡ r → r.master.phase ≡ phase.Finishing → ⊥
    idle-ends r is ends = let f : phase.Idle ≡ phase.Finishing = ap (λ (r : Mirror). r.master.phase) is ∙ ends in cc

    idle-lost : (r : Mirror) → record { server = 0; paused = false; master = phases.idle (0 ∷ 1 ∷ []) 0 } ≡ r → r.master.phase ≡ phase.Lost → ⊥
    idle-lost r is lost = let f : phase.Idle ≡ phase.Lost = ap (λ (r : Mirror). r.master.phase) is ∙ lost in cc

start-groups : Groups start
start-groups = record {
  once = (refl, tt);
  each = λ x i. subst (SessionFits start) (is-session x i) start-fits;
  lone = record {
    differ = λ x m i here. by-member PlacesDiffer (record { a_b = λ e. omega arith; a_c = λ e. omega arith; b_c = λ e. omega arith }) (record { a_b = λ e. omega arith; a_c = λ e. omega arith; b_c = λ e. omega arith }) m (subst (λ (x : Session). In m x.members) (sym (is-session x i)) here);
    one = λ v x y m q i j here there at_m at_q. (
      ap (λ (x : Session). x.number) (sym (is-session x i) ∙ is-session y j),
      one-place v m q (subst (λ (x : Session). In m x.members) (sym (is-session x i)) here) (subst (λ (y : Session). In q y.members) (sym (is-session y j)) there) at_m at_q,
    );
  };
  recorders = λ v h. absurd cc;
}

start-attempts : Attempts start
start-attempts = record {
  sessions = λ x i. subst (AttemptOf (roles start)) (is-session x i) (record {
    numbers = record {
      each = by-seen (Numbered 0) numbered numbered;
      some = inl (by-seen (λ v. committed 0 v ≡ false) refl refl);
      none = inr (record { number = 1; apart = λ e. cc; same = by-seen (λ v. v.member ≡ true → number_shown v ≡ 1) (λ h. absurd cc) (λ h. absurd cc) });
    };
    follows = record {
      free = by-seen (λ v. v.recording ≡ true → v.held ≡ false → AllHeld 0 (all_seen (roles start) session.members)) (λ r. absurd cc) (λ r. absurd cc);
      turned = by-seen (λ v. v.revertible ≡ true → AllHeld 0 (all_seen (roles start) session.members)) (λ r. absurd cc) (λ r. absurd cc);
      settled = by-seen (λ v. committed 0 v ≡ true → AllHeld 0 (all_seen (roles start) session.members) × AllFlashed 0 (all_seen (roles start) session.members)) (λ c. absurd cc) (λ c. absurd cc);
      sealed = by-seen (λ v. v.paired ≡ true → v.seal ≡ 0 → 0 ≤ v.attempt) (λ to is. omega arith) (λ to is. omega arith);
    };
    phase = by-seen (λ v. v.revertible ≡ false) refl refl;
    owes = tt;
  });
  volumes = λ v. record { counted = λ h. absurd cc; uncounted = λ h. refl; previous = λ h. refl };
  inside = λ x m i here. ap (has_subsystem (subsystem_of m.a.0)) (sym (is-session x i)) ∙ by-member (λ m. has_subsystem (subsystem_of m.a.0) session ≡ true) refl refl m (subst (λ (x : Session). In m x.members) (sym (is-session x i)) here);
}
  where
    by-seen : (P : Seen → Type 0) → P (seen (roles start) first) → P (seen (roles start) second) → (v : Seen) → In v (all_seen (roles start) session.members) → P v
    by-seen P a b v (inl is) = subst P (sym is) a
    by-seen P a b v (inr (inl is)) = subst P (sym is) b
    by-seen P a b v (inr (inr none)) = absurd none

    numbered : {server : ℕ} {x : Bool} → Numbered 0 (record { server = server; attempt = 0; recording = false; held = false; paired = x; seal = 0; sequence = 0; previous = 0; revertible = false; member = false; floor = 0 })
    numbered = record { attempt = omega arith; seal = omega arith; floor = omega arith; sequence = λ h. omega arith; last = λ h. absurd cc; above = λ h. absurd cc; reached = λ h. absurd cc }

start-both : Both start
start-both = record { groups = start-groups; attempts = start-attempts; still = refl }

-- ---- phases

pub coordinates : in_phase held ≡ phase.Coordinating
unfolding changed
coordinates = refl

pub releases : in_phase (both held) ≡ phase.Releasing
unfolding changed
releases = refl

pub drains : in_phase (both freed) ≡ phase.Draining
unfolding changed
drains = refl

pub flashes : in_phase flashing ≡ phase.Flashing
unfolding changed
flashes = refl

pub commits : in_phase flashed ≡ phase.Committing
unfolding changed
commits = refl

pub finishes : in_phase all_committed ≡ phase.Finishing
unfolding changed
finishes = refl

pub idles : in_phase over ≡ phase.Idle
unfolding changed
idles = refl

pub revertible-all : decision (shown_by_members 7 (now flashed).members flashed) ≡ RevertAll 1
unfolding changed decision decided
revertible-all = refl

pub rest : decision (shown_by_members 7 (now one_committed).members one_committed) ≡ CommitRest 1
unfolding changed decision decided
rest = refl

pub nothing : decision (shown_by_members 7 (now over).members over) ≡ Nothing 1
unfolding changed decision decided
nothing = refl

pub is-lost : in_phase (lost one_committed) ≡ phase.Lost
unfolding changed
is-lost = refl

pub settles : in_phase (reported (lost one_committed)) ≡ phase.Committing
unfolding changed decision decided
settles = refl

pub settles-revert : in_phase (reported (lost one_flashed)) ≡ phase.Reverting
unfolding changed decision decided
settles-revert = refl

-- the first has reported that it is flashed, then a recovery reverts it
pub settles-late : in_phase (report 1 second (taken_back (report 0 first (lost one_flashed)))) ≡ phase.Reverting
unfolding changed decision decided
settles-late = refl

pub nobody : decision (shown_by_members 7 (now one_flashed).members (taken_back one_flashed)) ≡ NoMember
unfolding changed decision decided
nobody = refl

pub aborts : in_phase (aborted one_flashed) ≡ phase.Reverting
unfolding changed
aborts = refl

-- ---- each move of the attempt may come, and each reply may be taken

module _ (k : Control) (b : Both k) where
  moves : (m : Move) → InAttempt k m → Suits k m → Both (move m k)
  moves m a s = record { groups = groups-move k (move m k) m None refl (record { volumes = refl; keeps = true; volume = refl }) s b.groups; attempts = attempts-move k (move m k) m None refl (record { volumes = refl; keeps = true; volume = refl }) a b.groups b.attempts (flights-still k b.attempts b.still); still = b.still }

  answers : (server : ℕ) (x : Session) → session_in k.sessions 7 ≡ Some x → ServerDone k x server → ((r : Mirror) → x.mirror ≡ Some r → r.master.phase ≡ phase.Finishing → ServerSilent k x server) → Both (reply server k)
  answers server x found done silent = record { groups = groups-taken k 7 server phases.Done x b.groups found silent (λ r has. tt); attempts = with-done k b.groups b.attempts 7 server x found done; still = b.still }

opens : OpensAttempt start 1 7 1
opens = record { place = record { session = session; listed = inl refl; number = refl; mirror = record { server = 0; paused = false; master = phases.idle (0 ∷ 1 ∷ []) 0 }; has_master = refl; member = first; here = inl refl; is = refl }; idle = refl; next = refl; to = refl }

abbrev opened : Control
opened = told begun (move (Hold 1 7 1 true) start)

opened-both : Both opened
opened-both = record {
  groups = moved-opened start (move (Hold 1 7 1 true) start) 1 (held_for 1 (fields_at start 1)) None refl (record { volumes = refl; keeps = true; volume = refl }) 7 1 refl refl opens start-groups;
  attempts = attempts-opened start (move (Hold 1 7 1 true) start) 1 7 1 None refl (record { volumes = refl; keeps = true; volume = refl }) opens start-groups start-attempts;
  still = refl;
}

holds : HoldsMember opened 4 7 1
unfolding changed
holds = record { place = record { session = now opened; listed = inl refl; number = refl; mirror = record { server = 0; paused = false; master = phases.begun (phases.idle (0 ∷ 1 ∷ []) 0) }; has_master = refl; member = second; here = inr (inl refl); is = refl }; due = inl (record { mirror = record { server = 0; paused = false; master = phases.begun (phases.idle (0 ∷ 1 ∷ []) 0) }; has_master = refl; owed = refl; works = refl; number = refl }); last = refl; busy = λ e. cc; unfinished = λ ends. refl; to = refl }

held-both : Both held
held-both = moves opened opened-both (Hold 4 7 1 false) (holds, (omega arith, refl)) holds

module _ (k : Control) (b : Both k) (found : session_in k.sessions 7 ≡ Some (now k)) where
  -- replies where the server has done its work, and where that asks nothing of members
  doing : (server : ℕ) (work : phases.Work) → phases.work_in (in_phase k) ≡ Some work → (in_phase k ≡ phase.Finishing → ⊥) → WorkDone k (now k).members server work (now k).last → Both (reply server k)
  doing server work asks ne done = answers k b server (now k) found (done-asked k (now k) server work (now k).last asks refl done) (λ r has ends. absurd (ne (ap phase_of has ∙ ends)))

  calmly : (server : ℕ) (work : phases.Work) → phases.work_in (in_phase k) ≡ Some work → LeavesTargetsAlone work → (in_phase k ≡ phase.Finishing → ⊥) → Both (reply server k)
  calmly server work asks calm ne = doing server work asks ne (done-calm k (now k).members server work (now k).last calm)

  module _ (m : Member) (here : In m (now k).members) where
    -- its server is owed this work by the master
    abbrev Owes : phases.Work → Type 0
    Owes work = ((now k).mirror ≡ Some (master_now k)) × ((phases.is_among m.server.0 (master_now k).master.owed ≡ true) × (phases.work_in (master_now k).master.phase ≡ Some work))

    due : (work : phases.Work) (n : ℕ) → Owes work → n ≡ (now k).last → Due k.flight (now k) m.server.0 work n
    due work n owes last = inl (record { mirror = master_now k; has_master = owes.0; owed = owes.1.0; works = owes.1.1; number = last })

    frees : Owes phases.Release → Both (move (Free m.a.0) k)
    frees e = moves k b (Free m.a.0) (order-frees k b.groups b.attempts 7 (now k) found m here (due phases.Release (now k).last e refl)) tt

    seals : (now k).last ≡ 1 → Owes phases.Seal → records 1 (fields_at k m.a.0) ≡ true → Both (move (Seal m.b.0 m.a.0 7 1) k)
    seals last e rec = moves k b (Seal m.b.0 m.a.0 7 1) (order-seals k b.groups b.attempts 7 (now k) found m here 1 last (due phases.Seal 1 e (sym last)) rec) tt

    flash-moves : (now k).last ≡ 1 → Owes phases.Flash → send_refusal m.a.0 m.b.0 k ≡ None → flash_refusal m.b.0 m.c.0 1 k ≡ None → is_flashed 1 (fields_at k m.c.0) ≡ false → Both (move (Flash m.c.0 m.b.0 m.a.0 7 1) k)
    flash-moves last e sends passes new = moves k b (Flash m.c.0 m.b.0 m.a.0 7 1) (order-flashes k b.groups b.attempts 7 (now k) found m here 1 last (due phases.Flash 1 e (sym last)) sends passes new) tt

    commit-moves : (now k).last ≡ 1 → Owes phases.Commit → send_refusal m.a.0 m.b.0 k ≡ None → commit_refusal m.c.0 1 k ≡ None → is_committed 1 (fields_at k m.c.0) ≡ false → Both (move (Commit m.c.0 m.a.0 7 1) k)
    commit-moves last e sends passes new = moves k b (Commit m.c.0 m.a.0 7 1) (order-commits k b.groups b.attempts 7 (now k) found m here (flights-still k b.attempts b.still) 1 last (due phases.Commit 1 e (sym last)) sends passes new) tt

    finish-moves : (now k).last ≡ 1 → Both (move (Finish m.a.0 1) k)
    finish-moves last = moves k b (Finish m.a.0 1) (order-finishes k b.groups b.attempts 7 (now k) found m here 1 (omega (arith, last))) tt

-- what holds of the members on server 0, or on server 1
apart-servers : {P : Type 0} (a b : ℕ) → a ≡ b → (a ≡ b → ⊥) → P
apart-servers a b e ne = absurd (ne e)

on-first : (P : Member → Type 0) → P first → (m : Member) → IsOne m → m.server.0 ≡ 0 → P m
on-first P a m (inl is) at = subst P (sym is) a
on-first P a m (inr (inl is)) at = apart-servers 1 0 (ap (λ (m : Member). m.server.0) (sym is) ∙ at) (λ e. cc)
on-first P a m (inr (inr none)) at = absurd none

on-second : (P : Member → Type 0) → P second → (m : Member) → IsOne m → m.server.0 ≡ 1 → P m
on-second P a m (inl is) at = apart-servers 0 1 (ap (λ (m : Member). m.server.0) (sym is) ∙ at) (λ e. cc)
on-second P a m (inr (inl is)) at = subst P (sym is) a
on-second P a m (inr (inr none)) at = absurd none

released-both : Both (both held)
unfolding changed
released-both = doing (reply 0 held) (doing held held-both refl 0 phases.Hold refl (λ e. cc) (on-first (λ m. 1 ≤ (seen (roles held) m).attempt) (omega arith))) refl 1 phases.Hold refl (λ e. cc) (on-second (λ m. 1 ≤ (seen (roles held) m).attempt) (omega arith))

freed-both : Both freed
unfolding changed
freed-both = frees (move (Free 1) (both held)) (frees (both held) released-both refl first (inl refl) (refl, (refl, refl))) refl second (inr (inl refl)) (refl, (refl, refl))

draining-both : Both (both freed)
unfolding changed
draining-both = calmly (reply 0 freed) (calmly freed freed-both refl 0 phases.Release refl tt (λ e. cc)) refl 1 phases.Release refl tt (λ e. cc)

sealed-both : Both sealed
unfolding changed
sealed-both = seals (move (Seal 2 1 7 1) (both freed)) (seals (both freed) draining-both refl first (inl refl) refl (refl, (refl, refl)) refl) refl second (inr (inl refl)) refl (refl, (refl, refl)) refl

flashing-both : Both flashing
unfolding changed
flashing-both = calmly (reply 0 sealed) (calmly sealed sealed-both refl 0 phases.Seal refl tt (λ e. cc)) refl 1 phases.Seal refl tt (λ e. cc)

one-flashed-both : Both one_flashed
unfolding changed
one-flashed-both = doing (move (Flash 3 2 1 7 1) flashing) (flash-moves flashing flashing-both refl first (inl refl) refl (refl, (refl, refl)) refl refl refl) refl 0 phases.Flash refl (λ e. cc) (on-first (λ m. (seen (roles (move (Flash 3 2 1 7 1) flashing)) m).revertible ≡ true) refl)

flashed-both : Both flashed
unfolding changed
flashed-both = doing (move (Flash 6 5 4 7 1) one_flashed) (flash-moves one_flashed one-flashed-both refl second (inr (inl refl)) refl (refl, (refl, refl)) refl refl refl) refl 1 phases.Flash refl (λ e. cc) (on-second (λ m. (seen (roles (move (Flash 6 5 4 7 1) one_flashed)) m).revertible ≡ true) refl)

one-committed-both : Both one_committed
unfolding changed
one-committed-both = doing (move (Commit 3 1 7 1) flashed) (commit-moves flashed flashed-both refl first (inl refl) refl (refl, (refl, refl)) refl refl refl) refl 0 phases.Commit refl (λ e. cc) (on-first (λ m. (seen (roles (move (Commit 3 1 7 1) flashed)) m).revertible ≡ false) refl)

all-committed-both : Both all_committed
unfolding changed
all-committed-both = doing (move (Commit 6 4 7 1) one_committed) (commit-moves one_committed one-committed-both refl second (inr (inl refl)) refl (refl, (refl, refl)) refl refl refl) refl 1 phases.Commit refl (λ e. cc) (on-second (λ m. (seen (roles (move (Commit 6 4 7 1) one_committed)) m).revertible ≡ false) refl)

abbrev finished : Control
finished = move (Finish 4 1) (move (Finish 1 1) all_committed)

finished-both : Both finished
unfolding changed
finished-both = finish-moves (move (Finish 1 1) all_committed) (finish-moves all_committed all-committed-both refl first (inl refl) refl) refl second (inr (inl refl)) refl

over-both : Both over
unfolding changed
over-both = answers (reply 0 finished)
    (answers finished finished-both 0 (now finished) refl (done-asked finished (now finished) 0 phases.Finish 1 refl refl (on-first (λ m. 1 ≤ (seen (roles finished) m).attempt) (omega arith))) (λ r has ends. on-first (λ m. (fields_at finished m.a.0).recording ≡ false) refl))
    1 (now (reply 0 finished)) refl (done-asked (reply 0 finished) (now (reply 0 finished)) 1 phases.Finish 1 refl refl (on-second (λ m. 1 ≤ (seen (roles finished) m).attempt) (omega arith))) (λ r has ends. on-second (λ m. (fields_at finished m.a.0).recording ≡ false) refl)

-- a recovery where the first is flashed
taken-back-both : Both (taken_back one_flashed)
unfolding changed
taken-back-both = moves (move (TakeOver 5) (move (TakeOver 2) one_flashed)) (moves (move (TakeOver 2) one_flashed) (moves one_flashed one-flashed-both (TakeOver 2) tt tt) (TakeOver 5) tt tt) (Revert 3 1 7 1)
    (record {
      place = record { session = now one_flashed; listed = inl refl; number = refl; member = first; here = inl refl; is = refl };
      target = refl;
      last = refl;
      revertible = refl;
      none = by-two (λ v. committed 1 v ≡ false) refl refl;
      way = inr (by-two (λ v. v.paired ≡ false) refl refl);
    }) tt
  where
    by-two : (P : Seen → Type 0) {u w : Seen} → P u → P w → (v : Seen) → (v ≡ u) ⊎ ((v ≡ w) ⊎ ⊥) → P v
    by-two P a b v (inl is) = subst P (sym is) a
    by-two P a b v (inr (inl is)) = subst P (sym is) b
    by-two P a b v (inr (inr none)) = absurd none

pub start-lawful : Groups start × Attempts start
start-lawful = (start-groups, start-attempts)

pub committed-lawful : Groups one_committed × Attempts one_committed
committed-lawful = (one-committed-both.groups, one-committed-both.attempts)

pub over-lawful : Groups over × Attempts over
over-lawful = (over-both.groups, over-both.attempts)

pub taken-back-lawful : Groups (taken_back one_flashed) × Attempts (taken_back one_flashed)
taken-back-lawful = (taken-back-both.groups, taken-back-both.attempts)
