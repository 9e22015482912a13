-- What a line comes to that names a session and a server.
use Rattle.std.proofs.Common.{ℕ, ◌≡◌, List, ap, ◌∙◌, Option, Some, None}
use Rattle.dr_ids.specs.declared.refusal.Kind.TheVariants.{Server as OfServer, Session as OfSession}
use Rattle.dr_plant.specs.State.{PlantState}
use Rattle.dr_config.specs.Table.{ConfigTable, server_named}
use Rattle.dr_model.specs.declared.event.Event.{Event}
use Rattle.dr_model.specs.declared.said.Said.TheVariants.{Refused}
use Rattle.dr_model.specs.declared.step.Name.{Name}
use Rattle.dr_model.specs.Control.{World}
use Rattle.dr_model.specs.PlanParts.{Plan, name_bytes, on_server, on_session}
use Rattle.dr_model.specs.Refusals.{unknown}
use Rattle.dr_model.specs.Runs.{after_plan, said}
use Rattle.dr_model.specs.Sessions.{Session, session_in}
use Rattle.dr_model.proofs.CarryLemmas.{plan-refuses}
use Rattle.dr_steps.specs.Here.{here}
use Rattle.dr_steps.specs.declared.tables.Tables.{Tables}
use Rattle.dr_steps.proofs.StopLemmas.{unknown-server, known-server}

module _ (s : PlantState) (t : ConfigTable) (h : Tables) (ev : List Event) (line n : ℕ) (name : Name) (plan_for : Session → ℕ → Plan) where
  abbrev w : World
  w = here s t h ev

  abbrev found : Option Session
  found = session_in h.sessions.sessions n

  abbrev line_of : Session → Plan
  line_of x = on_server w.control name (plan_for x)

  -- the session isn't defined
  pub named-nowhere : found ≡ None → after_plan w line (on_session found line_of) ≡ said w line (Refused (unknown OfSession))
  named-nowhere none = ap (λ o. after_plan w line (on_session o line_of)) none ∙ plan-refuses w line (unknown OfSession)

  module _ (x : Session) (there : found ≡ Some x) (bytes : List ℕ) (named : bytes ≡ name_bytes name) where
    -- no server has the name
    pub named-foreign : server_named t bytes ≡ None → after_plan w line (on_session found line_of) ≡ said w line (Refused (unknown OfServer))
    named-foreign none = ap (λ o. after_plan w line (on_session o line_of)) there ∙ unknown-server s t h ev line (plan_for x) name bytes named none

    -- both are there
    pub named-goes : (server : ℕ) (u : World) → server_named t bytes ≡ Some server → after_plan w line (plan_for x server) ≡ u → after_plan w line (on_session found line_of) ≡ u
    named-goes server u some goes = ap (λ o. after_plan w line (on_session o line_of)) there ∙ known-server s t h ev line (plan_for x) name bytes server u named some goes
