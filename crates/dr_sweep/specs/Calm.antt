-- What the calm run comes to: the set-up and all tried steps, without a disaster.
use Rattle.std.specs.Prelude.{ℕ, ◌+◌, List, [], ◌∷◌, ◌++◌, nat_eq, slice_get, Option, Some, None, if◌then◌else◌}
use Rattle.std.specs.List.{fold}
use Rattle.dr_model.specs.declared.event.Event.{Event}
use Rattle.dr_model.specs.declared.event.Event.TheVariants.{Answer as Answered}
use Rattle.dr_model.specs.Text.{Heard, heard, untold, said_text}
use Rattle.dr_plan.specs.Parts.{tried_from}
use Rattle.dr_plan.specs.Sweep.{Sweep, Tried}
use Rattle.dr_rows.specs.Calm.{Calm, CalmStep}
use Rattle.dr_sweep.specs.Acks.{written_in}

-- the steps of the calm run, each with its place in the plan
abbrev pub calm_steps : Sweep → List Tried
calm_steps plan = tried_from 1 plan.setup ++ plan.tried

-- a step that was so answered, if that isn't ok
abbrev pub noted_step : ℕ → List ℕ → Option Tried → List CalmStep
noted_step code says None = []
noted_step code says (Some t) = if nat_eq code 0 then [] else record { line = t.line; text = t.text; code = code; says = says } ∷ []

-- what was heard of the calm run so far
pub record RunHeard : Type 0 where
  pub told : Heard
  pub steps : ℕ
  pub noted : List CalmStep

-- before the first event
abbrev pub none_heard : RunHeard
none_heard = record { told = untold; steps = 0; noted = [] }

-- after one event more: each answer is that of the next step
abbrev pub heard_calm : List Tried → RunHeard → Event → RunHeard
heard_calm steps h (Answered line code a b c) = record {
  told = heard h.told (Answered line code a b c);
  steps = h.steps + 1;
  noted = h.noted ++ noted_step code (said_text h.told code a b c) (slice_get steps h.steps);
}
heard_calm steps h e = record h { told = heard h.told e }

-- what was heard of all events
abbrev pub calm_heard : Sweep → List Event → RunHeard
calm_heard plan events = fold (heard_calm (calm_steps plan)) none_heard events

-- what a calm run that leaves these events comes to
abbrev pub calm_of : Sweep → List Event → Calm
calm_of plan events = record { steps = (calm_heard plan events).steps; told = (calm_heard plan events).noted; written = written_in events }
