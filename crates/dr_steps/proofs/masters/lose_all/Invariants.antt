use Rattle.std.proofs.Common.{◌≡◌}
use Rattle.dr_model.specs.Sessions.{lost_since}
use Rattle.dr_volume.specs.View.{on_seen}
use Rattle.dr_steps.proofs.LossLemmas.{among}
use Rattle.dr_steps.proofs.masters.lose_all.Given as goal

abbrev pub invariant-loop-server : goal.invariant-loop-server
invariant-loop-server g l = record {
  table : l.sessions ≡ record l.fn.sessions { sessions = lost_since (among l.before l.server) (on_seen (g.P.Plant.state l.plant)) l.fn.sessions.sessions };
}
