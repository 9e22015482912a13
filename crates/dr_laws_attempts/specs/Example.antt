-- An example: a session with two members, whose primaries are 1 and 4, their secondaries 2 and 5, and the targets of those 3 and 6.
use Rattle.std.specs.Prelude.{ℕ, Bool, true, false, ◌||◌, List, [], ◌∷◌, Option, Some, None, nat_eq, if◌then◌else◌}
use Rattle.dr_logic.specs.Tables.{at}
use Rattle.dr_ids.specs.declared.names.Member.{Member}
use Rattle.dr_ids.specs.declared.refusal.PhaseName.{PhaseName}
use Rattle.dr_model.specs.declared.state.Part.TheVariants.{Absent, Global}
use Rattle.dr_model.specs.Layout.{Fields, no_fields}
use Rattle.dr_model.specs.Control.{Control, no_control, new_volume}
use Rattle.dr_model.specs.Phases as phases
use Rattle.dr_model.specs.Moves.{Move, Hold, Free, Seal, Flash, Commit, Revert, Finish, TakeOver, target, next_fields, moved}
use Rattle.dr_model.specs.Sessions.{Session, Mirror, changed, begun, with_master}
use Rattle.dr_model.specs.SessionEntries.{shown_by_members}
use Rattle.dr_model.specs.Attempts.{phase_of}

-- the primaries
abbrev pub is_a : ℕ → Bool
is_a v = nat_eq v 1 || nat_eq v 4

-- the secondaries
abbrev pub is_b : ℕ → Bool
is_b v = nat_eq v 2 || nat_eq v 5

-- the targets
abbrev pub is_c : ℕ → Bool
is_c v = nat_eq v 3 || nat_eq v 6

-- their records
abbrev pub fields : ℕ → Fields
fields v = record no_fields {
  primary = if is_a v then Global else Absent;
  primary_partner = if nat_eq v 1 then 2 else if nat_eq v 4 then 5 else 0;
  secondary = if is_b v then Global else Absent;
  secondary_partner = if nat_eq v 2 then 1 else if nat_eq v 5 then 4 else 0;
  related = is_c v;
  source = if nat_eq v 3 then 2 else if nat_eq v 6 then 5 else 0;
  persistent = is_c v;
  recorded = is_c v;
  inhibited = is_c v;
}

-- primaries are on servers 0 and 1, secondaries and targets on 2 and 3
abbrev pub server : ℕ → ℕ
server v = if nat_eq v 1 then 0 else if nat_eq v 4 then 1 else if nat_eq v 2 || nat_eq v 3 then 2 else 3

-- the first member
abbrev pub first : Member
first = record { a = record { 0 = 1 }; b = record { 0 = 2 }; c = record { 0 = 3 }; server = record { 0 = 0 } }

-- the second one
abbrev pub second : Member
second = record { a = record { 0 = 4 }; b = record { 0 = 5 }; c = record { 0 = 6 }; server = record { 0 = 1 } }

-- session 7 with both, in phase Idle
abbrev pub session : Session
session = record {
  number = 7;
  subsystems = (record { 0 = 0 }) ∷ [];
  members = first ∷ second ∷ [];
  last = 0;
  mirror = Some (record { server = 0; paused = false; master = phases.idle (0 ∷ 1 ∷ []) 0 });
}

-- the state before the first attempt
abbrev pub start : Control
start = record no_control { paths = (record { src = 0; tgt = 0; group = false }) ∷ []; volumes = 1 ∷ 2 ∷ 3 ∷ 4 ∷ 5 ∷ 6 ∷ []; volume = λ v. record (new_volume (server v) 1) { fields = fields v }; sessions = session ∷ [] }

-- a move is done
abbrev pub move : Move → Control → Control
move m k = record k { volume = at k.volume (target m) (moved (k.volume (target m)) (next_fields m k.volume) None) }

-- the session becomes another
abbrev pub told : (Session → Session) → Control → Control
told f k = record k { sessions = changed 7 f k.sessions }

-- server x says that its order is done
abbrev pub reply : ℕ → Control → Control
reply x = told (with_master (λ m. phases.taken m x phases.Done))

-- server x reports what a member shows
abbrev pub report : ℕ → Member → Control → Control
report x m k = told (with_master (λ r. phases.taken r x (phases.Reported (shown_by_members 7 (m ∷ []) k)))) k

-- the one session
abbrev pub the_session : List Session → Session
the_session [] = session
the_session (x ∷ xs) = x

-- as it is now
abbrev pub now : Control → Session
now k = the_session k.sessions

-- its master
abbrev pub the_master : Option Mirror → Mirror
the_master None = record { server = 0; paused = false; master = phases.idle (0 ∷ 1 ∷ []) 0 }
the_master (Some r) = r

-- as it is now
abbrev pub master_now : Control → Mirror
master_now k = the_master (now k).mirror

-- the phase that it is in
abbrev pub in_phase : Control → PhaseName
in_phase k = phase_of (now k).mirror

-- both servers reply
abbrev pub both : Control → Control
both k = reply 1 (reply 0 k)

-- both primaries are held
abbrev pub held : Control
held = move (Hold 4 7 1 false) (told begun (move (Hold 1 7 1 true) start))

-- and let go
abbrev pub freed : Control
freed = move (Free 4) (move (Free 1) (both held))

-- both secondaries are sealed
abbrev pub sealed : Control
sealed = move (Seal 5 4 7 1) (move (Seal 2 1 7 1) (both freed))

-- the master is Flashing
abbrev pub flashing : Control
flashing = both sealed

-- one target is flashed
abbrev pub one_flashed : Control
one_flashed = reply 0 (move (Flash 3 2 1 7 1) flashing)

-- both are
abbrev pub flashed : Control
flashed = reply 1 (move (Flash 6 5 4 7 1) one_flashed)

-- one is committed
abbrev pub one_committed : Control
one_committed = reply 0 (move (Commit 3 1 7 1) flashed)

-- both are
abbrev pub all_committed : Control
all_committed = reply 1 (move (Commit 6 4 7 1) one_committed)

-- the attempt is over
abbrev pub over : Control
over = both (move (Finish 4 1) (move (Finish 1 1) all_committed))

-- the master is lost, and aborts
abbrev pub lost : Control → Control
lost = told (with_master phases.lost)

-- or it is aborted
abbrev pub aborted : Control → Control
aborted = told (with_master phases.aborted)

-- it is told what both show
abbrev pub reported : Control → Control
reported k = report 1 second (report 0 first k)

-- a recovery where the first is flashed
abbrev pub taken_back : Control → Control
taken_back k = move (Revert 3 1 7 1) (move (TakeOver 5) (move (TakeOver 2) k))
