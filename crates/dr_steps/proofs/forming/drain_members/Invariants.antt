use Rattle.std.proofs.Common.{◌≡◌, ◌≤◌, ◌+◌, length, drop, Option}
use Rattle.dr_ids.specs.declared.refusal.Refusal.{Refusal}
use Rattle.dr_model.specs.Control.{World}
use Rattle.dr_model.specs.Forming.{drains}
use Rattle.dr_model.specs.Laws.{FlightCounted, Sound}
use Rattle.dr_model.specs.SessionEntries.{members_on}
use Rattle.dr_model.specs.Sessions.{session_in, members_in}
use Rattle.dr_steps.specs.Formed.{Reaches}
use Rattle.dr_steps.specs.Here.{here, IsReady}
use Rattle.dr_steps.proofs.forming.drain_members.Given as goal

abbrev pub invariant-loop-place : goal.invariant-loop-place
invariant-loop-place g l = record {
  way : (u : World) (r : Option Refusal)
      → Reaches (drains (here (g.P.Plant.state l.plant) l.config l.tables l.journal.events) (members_on l.server.0 (drop l.place (members_in (session_in l.fn.tables.sessions.sessions l.s.0))))) u r
      → Reaches (drains (here (g.P.Plant.state l.fn.plant) l.config l.fn.tables l.fn.journal.events) (members_on l.server.0 (members_in (session_in l.fn.tables.sessions.sessions l.s.0)))) u r;
  members : members_in (session_in l.tables.sessions.sessions l.s.0) ≡ members_in (session_in l.fn.tables.sessions.sessions l.s.0);
  ready : IsReady (g.P.Plant.state l.plant) l.config l.tables l.journal.events;
  sound : Sound (here (g.P.Plant.state l.plant) l.config l.tables l.journal.events);
  counted : FlightCounted (here (g.P.Plant.state l.plant) l.config l.tables l.journal.events);
  host : l.tables.host ≡ l.fn.tables.host;
  room : length l.journal.events + l.journal.spare ≡ length l.fn.journal.events + l.fn.journal.spare;
  spare : 1 ≤ l.journal.spare;
  faults : (g.P.Plant.state l.plant).faults ≡ (g.P.Plant.state l.fn.plant).faults;
}
