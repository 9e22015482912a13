-- The example of the phases, recovered: a world with its control state, what a plan says there, and what it tells.
use Rattle.std.specs.Prelude.{true, List, None}
use Rattle.dr_model.specs.declared.said.Said.{Said}
use Rattle.dr_model.specs.declared.event.Event.{Event}
use Rattle.dr_model.specs.Control.{Control, World, nothing}
use Rattle.dr_model.specs.Moves.{TakeOver}
use Rattle.dr_model.specs.Carry.{carry}
use Rattle.dr_model.specs.PlanParts.{Plan}
use Rattle.dr_model.specs.Runs.{begun, answered, carried_out}
use Rattle.dr_model.specs.SessionPlans.{expel_plan, unmirror_plan, leave_plan}
use Rattle.dr_logic.specs.Tables.{at}
use Rattle.dr_laws_attempts.specs.Example.{start, move, one_committed}

-- the world of a control state: no tracks, no journal
abbrev pub world : Control → World
world k = record nothing { control = k }

-- what a plan says there
abbrev pub says : Control → Plan → Said
says k p = answered p (carry (begun (world k) p) p.entries).0.control (carry (begun (world k) p) p.entries).1

-- what it tells
abbrev pub tells : Control → Plan → List Event
tells k p = (carry (begun (world k) p) p.entries).0.events

-- both secondaries are taken over, by hand
abbrev pub taken : Control
taken = move (TakeOver 5) (move (TakeOver 2) one_committed)

-- the target of the first member is restored onto its source
abbrev pub restoring : Control
restoring = record start { volume = at start.volume 3 (record (start.volume 3) { fields = record (start.volume 3).fields { reversing = true } }) }

-- a plan is carried out there
abbrev pub done : Plan → Control → Control
done p k = (carried_out (world k) p).0.control

-- the session of a control state is removed: each member, the master, and the one logical subsystem
abbrev pub removed : Control → Control
removed k =
    let less : Control = done (expel_plan k None 0 1 7) k in
    let bare : Control = done (expel_plan less None 0 4 7) less in
    let dismissed : Control = done (unmirror_plan bare None 0 7) bare in
    done (leave_plan dismissed None 0 7) dismissed
