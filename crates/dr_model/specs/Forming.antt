-- Consistency groups one after another: what `@run` comes to. Its drains and exchanges are plans of their own; the line is answered
-- once, at its end.
use Rattle.std.specs.Prelude.{ℕ, zero, suc, ◌+◌, ◌-◌, ◌*◌, Bool, true, false, ◌&&◌, ◌||◌, List, [], ◌∷◌, ◌++◌, Option, Some, None, is_some, nat_eq, nat_lt, if◌then◌else◌}
use Rattle.dr_ids.specs.declared.names.Member.{Member}
use Rattle.dr_ids.specs.declared.refusal.PhaseName.{PhaseName}
use Rattle.dr_ids.specs.declared.refusal.PhaseName.TheVariants as phase
use Rattle.dr_ids.specs.declared.refusal.Refusal.{Refusal}
use Rattle.dr_ids.specs.declared.refusal.Refusal.TheVariants.{OutOfOrder, JournalFull}
use Rattle.dr_ids.specs.declared.refusal.Kind.TheVariants.{Session as OfSession}
use Rattle.dr_ids.specs.declared.refusal.Which.TheVariants.{Groups}
use Rattle.dr_model.specs.Limits.{most_groups}
use Rattle.dr_model.specs.Refusals.{unknown, over}
use Rattle.dr_model.specs.Control.{Control, World}
use Rattle.dr_model.specs.Phases as phases
use Rattle.dr_model.specs.Sessions.{Session, Mirror, session_in, mirror_in, members_in, no_master}
use Rattle.dr_model.specs.SessionEntries.{members_on}
use Rattle.dr_model.specs.SessionPlans.{is_idle, asking, session_phase}
use Rattle.dr_model.specs.PairEntries.{is_copying}
use Rattle.dr_model.specs.PlanParts.{Plan}
use Rattle.dr_model.specs.Plans.{drain_plan, has_room}
use Rattle.dr_model.specs.Carried.{carried_out, answered, masters_lost}
use Rattle.dr_model.specs.declared.said.Said.{Said}
use Rattle.dr_model.specs.declared.said.Said.TheVariants.{Refused}

-- a plan, with the world in which it begins
pub record Part : Type 0 where
  pub world : World
  pub plan : Plan

-- How far a line of several plans got: the plans that were carried out, in order, the world that they led to, and the refusal that
-- ended it, if one.
pub record Way : Type 0 where
  pub parts : List Part
  pub world : World
  pub refusal : Option Refusal

-- nothing was done yet, and nothing refused
abbrev pub stays : World → Way
stays w = record { parts = []; world = w; refusal = None }

-- a refusal before any plan
abbrev pub ends : World → Refusal → Way
ends w r = record { parts = []; world = w; refusal = Some r }

-- a way goes on where it wasn't refused
abbrev pub goes_on : List Part → World → Option Refusal → (World → Way) → Way
goes_on parts w None more = record (more w) { parts = parts ++ (more w).parts }
goes_on parts w (Some r) more = record { parts = parts; world = w; refusal = Some r }

-- one way, and then the way that comes from its world
abbrev pub and_then : Way → (World → Way) → Way
and_then x more = goes_on x.parts x.world x.refusal more

-- a way that is refused where there is a refusal
abbrev pub unless_refused : Option Refusal → World → Way → Way
unless_refused None w x = x
unless_refused (Some r) w x = ends w r

-- the refusal that is said, if one
abbrev pub refusal_said : Said → Option Refusal
refusal_said (Refused r) = Some r
refusal_said a = None

-- A plan is carried out without an answer of its own: the masters whose servers went off in it are lost as it ends.
abbrev pub after_part : World → Plan → World
after_part w p = masters_lost w (carried_out w p).0

-- the refusal that such a plan ends with, if one
abbrev pub part_refusal : World → Plan → Option Refusal
part_refusal w p = refusal_said (answered p (carried_out w p).0.control (carried_out w p).1)

-- one plan, where the journal has room for what a step may tell
abbrev pub part : World → Plan → Way
part w p =
    if has_room w.events then record { parts = record { world = w; plan = p } ∷ []; world = after_part w p; refusal = part_refusal w p }
    else ends w JournalFull

-- the primaries of members are drained, in order; those that aren't in Copy Pending are passed over
unfoldable pub drains : World → List Member → Way
drains w [] = stays w
drains w (m ∷ ms) = if is_copying m.a.0 w.control then and_then (part w (drain_plan w.control m.a.0 None)) (λ v. drains v ms) else drains w ms

-- the phase is Draining
abbrev pub is_draining : PhaseName → Bool
is_draining phase.Draining = true
is_draining p = false

-- Before a server is asked to seal, its members are drained. It carries out what the master of session s asks of it, and the master
-- learns of it.
abbrev pub ask : World → ℕ → PhaseName → List Member → ℕ → Way
ask w s p ms server = and_then (if is_draining p then drains w (members_on server ms) else stays w) (λ v. part v (asking v.control s server true))

-- the server that is asked next: none without a master, or where a paused master is Idle
abbrev pub next_asked : Option Mirror → Option ℕ
next_asked None = None
next_asked (Some r) = if is_idle r.master.phase && r.paused then None else phases.first_asked r.master

-- the phase of a master
abbrev pub phase_of : Option Mirror → PhaseName
phase_of None = phase.None
phase_of (Some r) = r.master.phase

-- the master of session s, if it has one
abbrev pub master_in : Control → ℕ → Option Mirror
master_in k s = mirror_in (session_in k.sessions s)

-- the phase that it is in
abbrev pub phase_in : Control → ℕ → PhaseName
phase_in k s = phase_of (master_in k s)

-- the phase is Committing
abbrev pub is_committing : PhaseName → Bool
is_committing phase.Committing = true
is_committing p = false

-- the phase is Finishing
abbrev pub is_finishing : PhaseName → Bool
is_finishing phase.Finishing = true
is_finishing p = false

-- An attempt counts where it went from Committing to Finishing in this line, and from there to Idle: whether the first is so after a
-- turn from one phase to another, and how many are still to count.
abbrev pub has_committed : Bool → PhaseName → PhaseName → Bool
has_committed committed before after = is_finishing after && (committed || is_committing before)

-- one attempt less where one that was committed in this line is over
abbrev pub still_left : Bool → PhaseName → ℕ → ℕ
still_left committed after left = if committed && is_idle after then left - 1 else left

-- one turn: the server that is asked next, and what comes then
abbrev pub turn_by : World → ℕ → PhaseName → List Member → Option ℕ → (World → Way) → Way
turn_by w s p ms None more = ends w (OutOfOrder p)
turn_by w s p ms (Some server) more = and_then (ask w s p ms server) more

-- one turn over session s as it is now
abbrev pub turn_in : World → ℕ → (World → Way) → Way
turn_in w s more = turn_by w s (phase_in w.control s) (members_in (session_in w.control.sessions s)) (next_asked (master_in w.control s)) more

-- Turns, until so many attempts have counted. No bound on turns is felt: in each turn that isn't refused a server does what it is owed.
unfoldable pub turns : ℕ → World → ℕ → ℕ → Bool → Way
turns zero w s left committed = if nat_eq left 0 then stays w else ends w (OutOfOrder (phase_in w.control s))
turns (suc bound) w s left committed =
    if nat_eq left 0 then stays w
    else turn_in w s (λ v. turns bound v s (still_left committed (phase_in v.control s) left) (has_committed committed (phase_in w.control s) (phase_in v.control s)))

-- eight servers in each phase of an attempt, and in those that end what went on before
abbrev pub most_turns : ℕ → ℕ
most_turns n = (n + 1) * 64

-- no attempt is asked for, or too many, or there is no master
abbrev pub form_refusal : ℕ → Option Mirror → Option Refusal
form_refusal n m = if nat_eq n 0 || nat_lt most_groups n then Some (over Groups) else if is_some m then None else no_master

-- n attempts of a session that was looked up
abbrev pub form_in : World → ℕ → ℕ → Option Session → Way
form_in w s n None = ends w (unknown OfSession)
form_in w s n (Some x) = unless_refused (form_refusal n x.mirror) w (turns (most_turns n) w s n false)

-- n attempts of session s
abbrev pub formed : World → ℕ → ℕ → Way
formed w s n = if has_room w.events then form_in w s n (session_in w.control.sessions s) else ends w JournalFull

-- how the line is answered: by its refusal, or by the phase that the master is in then
abbrev pub form_answer : ℕ → List Session → Option Refusal → Said
form_answer s ss None = session_phase (session_in ss s)
form_answer s ss (Some r) = Refused r

-- what session s says as the line ends
abbrev pub form_said : ℕ → Control → Option Refusal → Said
form_said s k r = form_answer s k.sessions r
