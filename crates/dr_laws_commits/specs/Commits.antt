-- What commits a number, and who was flashed with it by then.
use Rattle.std.specs.Prelude.{◌≡◌, ◌⊎◌, ℕ, true, List, Some}
use Rattle.dr_ids.specs.declared.refusal.PhaseName.TheVariants as phase
use Rattle.dr_model.specs.Phases as phases
use Rattle.dr_model.specs.Sessions.{Session, Mirror}
use Rattle.dr_model.specs.Messages.{Message}
use Rattle.dr_model.specs.Control.{World}
use Rattle.dr_model.specs.Moves.{Commit}
use Rattle.dr_model.specs.declared.step.Name.{Name}
use Rattle.dr_model.specs.PlanParts.{Plan}
use Rattle.dr_model.specs.SessionPlans.{order_of}
use Rattle.dr_model.specs.MessagePlans.{send_plan}
use Rattle.dr_model.specs.Groups.{In, IsOrderFor}
use Rattle.dr_model.specs.Attempts.{Seen, Any, phase_of, seen_in}
use Rattle.dr_model.specs.Forming.{Part}
use Rattle.dr_model.specs.Runs.{Task, plans_of, carried_out, run}
use Rattle.dr_laws_sound.specs.Calm.{Carries, Makes}
use Rattle.dr_laws_commits.specs.Flashed.{AllFlashedIn}

-- n is the last number of session s, and each of its members was flashed with it
abbrev pub SessionFlashed : World → ℕ → ℕ → Type 0
SessionFlashed w s n = Any (λ (x : Session). (x.number ≡ s) × ((x.last ≡ n) × AllFlashedIn w.events x n)) w.control.sessions

-- what plan p puts into flight to commit is for such a number
abbrev pub FliesFlashed : World → Plan → Type 0
FliesFlashed w p = (m : Message) → In m (carried_out w p).0.control.flight.messages → In m w.control.flight.messages ⊎ (m.order.work ≡ phases.Commit → SessionFlashed w m.session m.order.number)

-- Of what masters ask in a world: while one commits, each member of its session was flashed with the session's last number. So it was where the
-- order that one has for a server, by an exchange or a send, is to commit, and that is its number; a send puts no other such order into
-- flight. And where one is in flight, all were, as long as a member can go back. An order for an older number commits nothing.
pub record AsksForFlashed (w : World) : Type 0 where
  pub committing : (x : Session) → In x w.control.sessions → phase_of x.mirror ≡ phase.Committing → AllFlashedIn w.events x x.last
  pub ordered : (x : Session) (r : Mirror) (server : ℕ) (o : phases.Order) → In x w.control.sessions → x.mirror ≡ Some r → order_of r server ≡ Some o → o.work ≡ phases.Commit → (o.number ≡ x.last) × AllFlashedIn w.events x o.number
  pub sent : (s : ℕ) (name : Name) → FliesFlashed w (send_plan w.control s name)
  pub flown : (x : Session) (m : Message) → In x w.control.sessions → IsOrderFor w.control.flight x.number phases.Commit x.last m → Any (λ (v : Seen). v.revertible ≡ true) (seen_in w.control x) → AllFlashedIn w.events x x.last

-- So it is as a run ends, and as each plan of a step behind it begins; and wherever such a plan commits a target, by an order, in a recovery or by
-- hand, each member of its session was flashed with the number.
pub record CommitsAreOfFlashed (tasks : List Task) : Type 0 where
  pub ends : AsksForFlashed (run tasks)
  pub plans : (t : Task) (p : Part) → In p (plans_of (run tasks) t) → AsksForFlashed p.world
  pub moves : (t : Task) (p : Part) (w : World) (c a s n : ℕ) → In p (plans_of (run tasks) t) → Makes Carries p w (Commit c a s n) → SessionFlashed w s n
