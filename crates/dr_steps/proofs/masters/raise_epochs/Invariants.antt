use Rattle.std.proofs.Common.{◌≡◌, ◌-◌, false, get_or, take, length}
use Rattle.dr_ctl.specs.Kept.{flight_in}
use Rattle.dr_model.specs.Messages.{lost_since}
use Rattle.dr_volume.specs.View.{on_seen}
use Rattle.dr_steps.proofs.masters.raise_epochs.Given as goal

abbrev pub invariant-loop-s : goal.invariant-loop-s
invariant-loop-s g l = record {
  raised : flight_in l.flight ≡ lost_since (λ k. get_or l.before k false) (on_seen (g.P.Plant.state l.plant)) (take l.at l.sessions.sessions) (flight_in l.fn.flight);
}

abbrev pub decreases-loop-s : goal.decreases-loop-s
decreases-loop-s g l = length l.sessions.sessions - l.at
