-- Which host writes a step acknowledges, and which its answer says are stored.
use Rattle.std.specs.Prelude.{◌≡◌, ℕ, List, [], ◌∷◌, ◌++◌, Result, Ok}
use Rattle.std.specs.List.{flat_map}
use Rattle.dr_model.specs.declared.event.Event.{Event}
use Rattle.dr_model.specs.declared.event.Event.TheVariants.{Ack}
use Rattle.dr_model.specs.declared.said.Addition.TheVariants.{Wrote, Acked}
use Rattle.dr_model.specs.declared.said.Said.{Said}
use Rattle.dr_model.specs.declared.said.Said.TheVariants.{Done, Held}
use Rattle.dr_model.specs.declared.step.Step.{Step}
use Rattle.dr_model.specs.declared.step.Step.TheVariants.{Start, Write, Apply}
use Rattle.dr_model.specs.Answers.{answer}
use Rattle.dr_model.specs.Control.{Control, Pending, World}
use Rattle.dr_model.specs.Groups.{In}
use Rattle.dr_model.specs.Forming.{Part}
use Rattle.dr_model.specs.Runs.{Task, course, carried_out, answered, after_task, run}

-- the writes whose acknowledgement some events tell, in order
abbrev pub acknowledgement : Event → List ℕ
acknowledgement (Ack n) = n ∷ []
acknowledgement e = []

-- those of all events
abbrev pub acknowledgements : List Event → List ℕ
acknowledgements events = flat_map acknowledgement events

-- `ok wN`, and `ok acked wN`
abbrev pub wrote : Said → List ℕ
wrote (Done (Wrote n)) = n ∷ []
wrote said = []

-- the write that a start says was acknowledged
abbrev pub acked : Said → List ℕ
acked (Done (Acked n)) = n ∷ []
acked said = []

-- The writes that an answer says are stored: the one that a write or an apply carried out, and the one that had landed in the stop
-- before a start. No other answer says so; that of an issue names a write which is pending.
abbrev pub acknowledged_by : Result Step ℕ → Said → List ℕ
acknowledged_by (Ok (Write v t offset len bytes)) said = wrote said
acknowledged_by (Ok (Apply n)) said = wrote said
acknowledged_by (Ok (Start name)) said = acked said
acknowledged_by asked said = []

-- write n is pending
pub record IsUnlanded (k : Control) (n : ℕ) : Type 0 where
  pub waits : Pending
  pub here : In waits k.pending
  pub is : waits.w ≡ n

-- what a plan answers
abbrev pub part_answer : Part → Said
part_answer x = answered x.plan (carried_out x.world x.plan).0.control (carried_out x.world x.plan).1

-- what a step that begins in w answers: what its last plan does
abbrev pub said_in : World → Task → Said
said_in w t = part_answer (course w t).last

-- Between the events of the steps before and the answer of a step that begins in w the journal is told of exactly the acknowledgements
-- that the answer says. A step that answers that a write waits leaves it pending, and tells none.
pub record AcknowledgesAnswered (w : World) (t : Task) : Type 0 where
  pub told : List Event
  pub events : (after_task w t).events ≡ (w.events ++ told) ++ answer t.line (said_in w t) ∷ []
  pub acknowledged : acknowledgements told ≡ acknowledged_by t.asked (said_in w t)
  pub held : (n : ℕ) → said_in w t ≡ Held n → IsUnlanded (after_task w t).control n × (acknowledgements told ≡ [])

-- each step of a run does
abbrev pub AcknowledgedIsAnswered : List Task → Type 0
AcknowledgedIsAnswered tasks = (before behind : List Task) (t : Task) → tasks ≡ before ++ t ∷ behind → AcknowledgesAnswered (run before) t
