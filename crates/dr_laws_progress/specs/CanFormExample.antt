-- An example: the two sites of the way home, with a master that has held its member for an attempt.
use Rattle.std.specs.Prelude.{false, true, List, [], ◌∷◌, ◌++◌, Some, None}
use Rattle.dr_ids.specs.declared.refusal.PhaseName.TheVariants as phase
use Rattle.dr_model.specs.declared.step.Step.TheVariants.{MakeMirror, Exchange}
use Rattle.dr_model.specs.Sessions.{Session, Mirror}
use Rattle.dr_model.specs.Runs.{Task}
use Rattle.dr_laws_progress.specs.Home.{unnamed}
use Rattle.dr_laws_progress.specs.HomeExample.{named, step, two_sites, its_session}

-- Server A appoints the master, and holds 1000 for attempt 1: then the master is Releasing.
abbrev pub held_once : List Task
held_once = two_sites ++ step (MakeMirror unnamed 16 1 None None None) ∷ step (Exchange 1 (named 65) true) ∷ []

-- the master
abbrev pub its_mirror : Mirror
its_mirror = record { server = 0; paused = false; master = record { phase = phase.Releasing; number = 1; servers = 0 ∷ []; owed = 0 ∷ []; reports = [] } }

-- and the session
abbrev pub begun_session : Session
begun_session = record its_session { last = 1; mirror = Some its_mirror }
