-- The machine's state that a run of the program has reached, and how a call leads on from there.
use Rattle.std.specs.Prelude.{◌≡◌, ℕ, List, map, Result, Ok, Err}
use Rattle.dr_ids.specs.declared.refusal.Fault.{Fault}
use Rattle.dr_ids.specs.declared.refusal.Fault.TheVariants.{NoMemory, Refused as FaultRefused}
use Rattle.dr_ids.specs.declared.refusal.Refusal.{Refusal}
use Rattle.dr_plant.specs.State.{PlantState}
use Rattle.dr_config.specs.Table.{ConfigTable}
use Rattle.dr_ctl.specs.Kept.{flight_in}
use Rattle.dr_host.specs.Seen.{pending_seen}
use Rattle.dr_model.specs.declared.event.Event.{Event}
use Rattle.dr_model.specs.declared.said.Addition.{Addition}
use Rattle.dr_model.specs.declared.said.Said.{Said}
use Rattle.dr_model.specs.declared.said.Said.TheVariants.{Done, Refused}
use Rattle.dr_model.specs.declared.step.Step.{Step}
use Rattle.dr_model.specs.Control.{World}
use Rattle.dr_model.specs.Plans.{Plan, plan_of}
use Rattle.dr_model.specs.Runs.{carried_out, answered, after_plan, said}
use Rattle.dr_volume.specs.View.{Rest, world}
use Rattle.dr_metro.specs.Here as metro
use Rattle.dr_steps.specs.declared.tables.Tables.{Tables}

-- what the tables and the journal show
abbrev pub rest_of : Tables → List Event → Rest
rest_of h events = record {
  issued = h.host.issued;
  pending = map pending_seen h.host.pending;
  sessions = h.sessions.sessions;
  flight = flight_in h.flight;
  events = events;
}

-- the state that plant, configuration, tables and journal show
abbrev pub here : PlantState → ConfigTable → Tables → List Event → World
here s t h events = world s t (rest_of h events)

-- each pending write is the one that the journal tells of
abbrev pub IsTold : Tables → List Event → Type 0
IsTold h events = metro.IsTold h.host events

-- no read fuse is armed, and the host's pending writes are those of the journal
abbrev pub IsReady : PlantState → ConfigTable → Tables → List Event → Type 0
IsReady s t h events = metro.IsReady s t h.host events

-- what is answered by the end of a call
abbrev pub said_of : Result Addition Refusal → Said
said_of (Ok added) = Done added
said_of (Err r) = Refused r

-- the same of a call that may be answered in other ways than done
abbrev pub answered_by : Result Said Refusal → Said
answered_by (Ok a) = a
answered_by (Err r) = Refused r

-- a call that wants no memory, among those that may
abbrev pub widened : Result Addition Refusal → Result Said Fault
widened (Ok added) = Ok (Done added)
widened (Err r) = Err (FaultRefused r)

-- the same of a call among those that may want memory
abbrev pub refused : Result Addition Refusal → Result Addition Fault
refused (Ok added) = Ok added
refused (Err r) = Err (FaultRefused r)

-- an answer, or a fault that is a refusal
abbrev pub answer_widened : Result Said Refusal → Result Said Fault
answer_widened (Ok a) = Ok a
answer_widened (Err r) = Err (FaultRefused r)

-- a call that is done where it isn't refused, among those that may be answered in other ways
abbrev pub all_done : Result Addition Fault → Result Said Fault
all_done (Ok added) = Ok (Done added)
all_done (Err fault) = Err fault

-- what holds of the answer, where there is one: want of memory gives none
abbrev pub OnAnswer : Result Addition Fault → (Said → Type 0) → Type 0
OnAnswer (Ok added) P = P (Done added)
OnAnswer (Err (FaultRefused r)) P = P (Refused r)
OnAnswer (Err NoMemory) P = Unit {0}

-- what holds of what is said, whether done or refused
abbrev pub OnSaid : Result Said Fault → (Said → Type 0) → Type 0
OnSaid (Ok a) P = P a
OnSaid (Err (FaultRefused r)) P = P (Refused r)
OnSaid (Err NoMemory) P = Unit {0}

-- what holds where memory was wanting
abbrev pub OnNoMemory : {T : Type 0} → Result T Fault → Type 0 → Type 0
OnNoMemory (Err NoMemory) P = P
OnNoMemory _ P = Unit {0}

-- what holds of the refusal, where there is one
abbrev pub OnRefused : {T : Type 0} → Result T Fault → (Refusal → Type 0) → Type 0
OnRefused (Err (FaultRefused r)) P = P r
OnRefused _ P = Unit {0}

-- from a world, the machine's step of a line leads to this one, and is answered so
abbrev pub StepLeads : World → ℕ → Step → World → Said → Type 0
StepLeads w line step u a = after_plan w line (plan_of w.control w.events line step) ≡ said u line a

-- from a world a plan is carried out to this one, and answered so
pub record Carries (w : World) (p : Plan) (u : World) (a : Said) : Type 0 where
  pub world : (carried_out w p).0 ≡ u
  pub says : answered p u.control (carried_out w p).1 ≡ a
