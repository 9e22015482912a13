use Rattle.std.proofs.Common.{List, ◌≡◌, ◌≤◌, take}
use Rattle.dr_master.specs.Seen.{shown_in}
use Rattle.dr_model.specs.declared.event.Event.{Event}
use Rattle.dr_model.specs.Sessions.{session_in, members_in}
use Rattle.dr_model.specs.SessionEntries.{shown_by_members}
use Rattle.dr_volume.specs.View.{Rest}
use Rattle.dr_moves.specs.Here.{world_seen}
use Rattle.dr_gmirror.proofs.restores.report_all.Given as goal

abbrev pub invariant-loop-at : goal.invariant-loop-at
invariant-loop-at g l = record {
  -- the members so far are reported
  shown : (r : Rest) (events : List Event) → shown_in l.report ≡ shown_by_members l.s.0 (take l.at (members_in (session_in l.ss.sessions l.s.0))) (world_seen (g.P.Plant.state l.plant) l.config r events).control;
  low : l.report.count ≤ l.at;
}
