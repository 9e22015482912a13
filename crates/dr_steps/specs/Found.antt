-- Lines on sessions that name a logical subsystem.
use Rattle.std.specs.Prelude.{◌≡◌, ℕ, ◌<◌, List, [], Option, Some, true, IsSome}
use Rattle.std.specs.Option.{option_or}
use Rattle.dr_ids.specs.declared.refusal.Refusal.{Refusal}
use Rattle.dr_plant.specs.State.{PlantState}
use Rattle.dr_config.specs.Table.{ConfigTable, lss_owner, IsSoundConfig}
use Rattle.dr_model.specs.declared.event.Event.{Event}
use Rattle.dr_model.specs.declared.said.Addition.TheVariants.{Alone}
use Rattle.dr_model.specs.declared.said.Said.TheVariants.{Done}
use Rattle.dr_model.specs.declared.step.Name.{Name}
use Rattle.dr_model.specs.Control.{Control}
use Rattle.dr_model.specs.PlanParts.{Plan, tables_plan, unless, is_named}
use Rattle.dr_model.specs.SessionPlans.{on_both, name_refusal}
use Rattle.dr_model.specs.Sessions.{Session, session_in}
use Rattle.dr_steps.specs.Here.{here}
use Rattle.dr_steps.specs.declared.tables.Tables.{Tables}

-- the logical subsystem has a server, one of the eight, which is the one that is named, and the session is defined
pub record IsFound (t : ConfigTable) (h : Tables) (dev : Option Name) (l s owner : ℕ) : Type 0 where
  pub sound : IsSoundConfig t
  pub owned : lss_owner t l ≡ Some owner
  pub known : owner < 8
  pub session : IsSome (session_in h.sessions.sessions s)
  pub named : (x : PlantState) (events : List Event) → is_named dev owner (here x t h events).control ≡ true

-- what needs these: it changes the tables, where it isn't refused
abbrev pub found_plan : Control → Option Name → ℕ → ℕ → (ℕ → Session → Option Refusal) → (ℕ → Session → Control → Control) → Plan
found_plan k dev l s why f = on_both k l s (λ owner x. unless (option_or (name_refusal k dev owner) (why owner x)) (tables_plan (f owner x) [] (Done Alone)))
