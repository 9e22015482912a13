-- An example: an attempt whose master is Lost, and one that is given up as it has begun. Both come to Idle.
use Rattle.std.specs.Prelude.{false, List, [], ◌∷◌, ◌++◌}
use Rattle.dr_ids.specs.declared.refusal.PhaseName.{PhaseName}
use Rattle.dr_model.specs.declared.step.Step.TheVariants.{Abort}
use Rattle.dr_model.specs.Sessions.{Mirror}
use Rattle.dr_model.specs.Runs.{Task}
use Rattle.dr_laws_sites.specs.Example.{step}
use Rattle.dr_laws_examples.specs.Orders.{with_session, asks}

-- A reports, reverts and finishes
abbrev pub three : List Task
three = asks ∷ asks ∷ asks ∷ []

-- the master holds 1000 for attempt 1
abbrev pub begins : List Task
begins = with_session ++ asks ∷ []

-- and gives that up
abbrev pub gives_up : Task
gives_up = step (Abort 1)

-- the master in a phase of attempt 1, in which A is owed its order
abbrev pub master_in_phase : PhaseName → Mirror
master_in_phase p = record { server = 1; paused = false; master = record { phase = p; number = 1; servers = 0 ∷ []; owed = 0 ∷ []; reports = [] } }
