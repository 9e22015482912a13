-- What is read of the moments of a point's run.
use Rattle.std.specs.Prelude.{◌≡◌, ℕ, ◌-◌, ◌+◌, Bool, false, List, [], ◌∷◌, ◌++◌, length, map, count_by, slice_get, Option, Some, None, Result, Ok, if◌then◌else◌}
use Rattle.std.specs.List.{list_any}
use Rattle.dr_model.specs.declared.event.Event.{Event}
use Rattle.dr_model.specs.declared.event.Event.TheVariants.{Answer as Answered}
use Rattle.dr_model.specs.declared.step.Name.{Name}
use Rattle.dr_model.specs.declared.step.Step.{Step}
use Rattle.dr_model.specs.declared.step.Step.TheVariants.{Recover}
use Rattle.dr_model.specs.Answers.{phase_place}
use Rattle.dr_model.specs.Control.{Control, World}
use Rattle.dr_model.specs.Forming.{phase_in}
use Rattle.dr_model.specs.Grammar.{line_of}
use Rattle.dr_model.specs.LineText.{name_text}
use Rattle.dr_model.specs.Lines.{tasks_of}
use Rattle.dr_model.specs.Listed.{as_asked}
use Rattle.dr_model.specs.PlanParts.{server_named}
use Rattle.dr_model.specs.Runs.{Task, after_tasks}
use Rattle.dr_model.specs.SessionEntries.{counts_at}
use Rattle.dr_model.specs.Sessions.{Session, session_in, members_in}
use Rattle.dr_ids.specs.declared.names.Member.{Member}
use Rattle.dr_rows.specs.Outcome.{gives_group}
use Rattle.dr_rows.specs.declared.row.Members.{Members}
use Rattle.dr_rows.specs.declared.row.SessionPhase.{SessionPhase}
use Rattle.dr_top.specs.OpenRuns.{runs_named}

-- ---- phases

-- the phase of a session's master
abbrev pub phase_at : Control → Session → SessionPhase
phase_at k x = record { session = x.number; phase = phase_place (phase_in k x.number) }

-- those of all sessions, in order of definition
abbrev pub phases_of : Control → List SessionPhase
phases_of k = map (phase_at k) k.sessions

-- ---- servers

-- the server of that name runs
abbrev pub runs_so : Control → Name → Bool
runs_so k name = runs_named k (name_text name)

-- one of the servers of some names runs
abbrev pub any_runs : Control → List Name → Bool
any_runs k names = list_any (runs_so k) names

-- the server of that name is off
abbrev pub IsOff : Control → Name → Type 0
IsOff k name = (s : ℕ) → server_named k (name_text name) ≡ Some s → k.on s ≡ false

-- ---- members

-- the session that a line recovers: that of its one step, if this is an `@recover`
abbrev pub recovered_in : Result (List Step) ℕ → Option ℕ
recovered_in (Ok (Recover s ∷ [])) = Some s
recovered_in _ = None

-- the event is the answer of a step, and has a group
abbrev pub answers_group : Option Event → Bool
answers_group (Some (Answered line code a b c)) = gives_group (record { line = line; code = code; a = a; b = b; c = c })
answers_group _ = false

-- the last of some events
abbrev pub last_of : List Event → Option Event
last_of events = slice_get events (length events - 1)

-- the members of a session
abbrev pub members_of : Control → ℕ → List Member
members_of k s = members_in (session_in k.sessions s)

-- how many of them count in the session, and how many it has
abbrev pub members_at : Control → ℕ → Members
members_at k s = record { counted = count_by (counts_at s k) (members_of k s); all = length (members_of k s) }

-- after a line that recovers a session, if it was answered with a group
abbrev pub members_after : Option ℕ → World → List Members
members_after None w = []
members_after (Some s) w = if answers_group (last_of w.events) then members_at w.control s ∷ [] else []

-- The first of some steps are those of a line, and what comes after it goes on from there.
pub record BeginsLine (w : World) (number : ℕ) (line : List ℕ) (later : World → List Task → List Members → Type 0) (steps : List Task) (members : List Members) : Type 0 where
  pub first : List Task
  pub rest : List Task
  pub cut : steps ≡ first ++ rest
  pub asks : map as_asked first ≡ tasks_of number line
  pub more : List Members
  pub are : members ≡ members_after (recovered_in (line_of line)) (after_tasks w first) ++ more
  pub others : later (after_tasks w first) rest more

-- the members after each `@recover` of some lines that was answered with a group, where their steps were carried out from a world on; the
-- first line has this number
abbrev pub AreMembers : World → ℕ → List (List ℕ) → List Task → List Members → Type 0
AreMembers w number [] steps members = (steps ≡ []) × (members ≡ [])
AreMembers w number (line ∷ lines) steps members = BeginsLine w number line (λ u rest more. AreMembers u (number + 1) lines rest more) steps members
