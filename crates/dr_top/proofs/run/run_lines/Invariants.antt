use Rattle.std.proofs.Common.{◌≡◌, ◌≤◌, ◌-◌, length}
use Rattle.std.specs.List.{fold}
use Rattle.dr_logic.specs.Counts.{Counted}
use Rattle.dr_list.specs.Seen.{heard_seen}
use Rattle.dr_model.specs.Text.{heard, untold}
use Rattle.dr_io.specs.Lines.{most_lines}
use Rattle.dr_model.specs.Limits.{most_events}
use Rattle.dr_steps.specs.Faults.{told_stop}
use Rattle.dr_steps.specs.Here.{here, IsReady}
use Rattle.dr_top.proofs.EndLemmas.{Going}
use Rattle.dr_top.proofs.run.run_lines.Given as goal

abbrev pub invariant-loop-number : goal.invariant-loop-number
invariant-loop-number g l = record {
  going : Going g.S.Source.left g.S.Source.faults g.K.Sink.written g.K.Sink.faults l.fn.source l.fn.sink l.source l.sink l.reader l.number
      (here (g.P.Plant.state l.plant) l.config l.tables l.journal.events) (g.P.Plant.state l.plant).block;
  heard : heard_seen l.told ≡ fold heard untold l.journal.events;
  ready : IsReady (g.P.Plant.state l.plant) l.config l.tables l.journal.events;
  stops : Counted (told_stop l.journal.events) (g.P.Plant.state l.fn.plant).faults (g.P.Plant.state l.plant).faults;
  room : length l.journal.events ≤ most_events;
}

abbrev pub decreases-loop-number : goal.decreases-loop-number
decreases-loop-number g l = most_lines - l.number
