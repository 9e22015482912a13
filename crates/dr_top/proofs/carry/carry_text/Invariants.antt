use Rattle.std.proofs.Common.{ℕ, ◌≤◌, length}
use Rattle.std.specs.Str.Lines.{lines}
use Rattle.dr_logic.specs.Counts.{Counted}
use Rattle.dr_model.specs.Limits.{most_events}
use Rattle.dr_steps.specs.Faults.{told_stop}
use Rattle.dr_steps.specs.Here.{here, IsReady}
use Rattle.dr_top.proofs.TextLemmas.{Through}
use Rattle.dr_top.proofs.carry.carry_text.Given as goal

abbrev pub invariant-loop-rest : goal.invariant-loop-rest
invariant-loop-rest g l = record {
  through : Through (here (g.P.Plant.state l.fn.plant) l.fn.config l.fn.tables l.fn.journal.events) (g.P.Plant.state l.fn.plant).block l.first (lines l.text)
      l.number (lines l.rest) (here (g.P.Plant.state l.plant) l.config l.tables l.journal.events) (g.P.Plant.state l.plant).block;
  ready : IsReady (g.P.Plant.state l.plant) l.config l.tables l.journal.events;
  faults : (f : ℕ) → Counted (told_stop l.fn.journal.events) f (g.P.Plant.state l.fn.plant).faults → Counted (told_stop l.journal.events) f (g.P.Plant.state l.plant).faults;
  room : length l.journal.events ≤ most_events;
}

abbrev pub decreases-loop-rest : goal.decreases-loop-rest
decreases-loop-rest g l = length l.rest
