use Rattle.std.proofs.Common.{ℕ, ◌≡◌, ◌≤◌, ◌+◌, length, false, Option}
use Rattle.dr_ids.specs.declared.refusal.Refusal.{Refusal}
use Rattle.dr_model.specs.Control.{World}
use Rattle.dr_model.specs.Forming.{turns, most_turns}
use Rattle.dr_model.specs.Laws.{FlightCounted, Sound}
use Rattle.dr_steps.specs.Formed.{Reaches}
use Rattle.dr_steps.specs.Here.{here, IsReady}
use Rattle.dr_steps.proofs.forming.take_turns.Given as goal

abbrev pub invariant-loop : goal.invariant-loop
invariant-loop g l = record {
  way : (k : ℕ) (u : World) (r : Option Refusal) → k + l.counter ≡ most_turns l.groups
      → Reaches (turns k (here (g.P.Plant.state l.plant) l.config l.tables l.journal.events) l.s.0 l.left l.committed) u r
      → Reaches (turns (most_turns l.groups) (here (g.P.Plant.state l.fn.plant) l.config l.fn.tables l.fn.journal.events) l.s.0 l.groups false) u r;
  ready : IsReady (g.P.Plant.state l.plant) l.config l.tables l.journal.events;
  sound : Sound (here (g.P.Plant.state l.plant) l.config l.tables l.journal.events);
  counted : FlightCounted (here (g.P.Plant.state l.plant) l.config l.tables l.journal.events);
  host : l.tables.host ≡ l.fn.tables.host;
  room : length l.journal.events + l.journal.spare ≡ length l.fn.journal.events + l.fn.journal.spare;
  spare : 1 ≤ l.journal.spare;
  faults : (g.P.Plant.state l.plant).faults ≡ (g.P.Plant.state l.fn.plant).faults;
}
