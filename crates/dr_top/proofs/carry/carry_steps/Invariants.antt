use Rattle.std.proofs.Common.{◌≡◌, ℕ, ◌≤◌, take, length, Ok}
use Rattle.dr_logic.specs.Counts.{Counted}
use Rattle.dr_model.specs.Limits.{most_events}
use Rattle.dr_model.specs.Lines.{tasks_read}
use Rattle.dr_top.specs.Carried.{StepsLead}
use Rattle.dr_steps.specs.Faults.{told_stop}
use Rattle.dr_steps.specs.Here.{here, IsReady}
use Rattle.dr_top.proofs.carry.carry_steps.Given as goal

abbrev pub invariant-loop-i : goal.invariant-loop-i
invariant-loop-i g l = record {
  led : StepsLead (here (g.P.Plant.state l.fn.plant) l.fn.config l.fn.tables l.fn.journal.events) (take l.i (tasks_read l.number (Ok l.line)))
      (here (g.P.Plant.state l.plant) l.config l.tables l.journal.events) (g.P.Plant.state l.plant).block;
  still : l.i ≡ 0 → (g.P.Plant.state l.plant).block ≡ (g.P.Plant.state l.fn.plant).block;
  ready : IsReady (g.P.Plant.state l.plant) l.config l.tables l.journal.events;
  faults : (f : ℕ) → Counted (told_stop l.fn.journal.events) f (g.P.Plant.state l.fn.plant).faults → Counted (told_stop l.journal.events) f (g.P.Plant.state l.plant).faults;
  room : length l.journal.events ≤ most_events;
}
