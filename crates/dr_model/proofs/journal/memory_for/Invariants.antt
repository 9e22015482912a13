use Rattle.std.proofs.Common.{◌≡◌, ◌≤◌}
use Rattle.dr_model.specs.Limits.{most_events}
use Rattle.dr_model.specs.Log.{size_from}
use Rattle.dr_model.proofs.journal.memory_for.Given as goal

abbrev pub invariant-loop-more : goal.invariant-loop-more
invariant-loop-more l = record {
  same : size_from l.more l.size l.events ≡ size_from 7 8192 l.events;
  low : l.size ≤ most_events;
}

abbrev pub decreases-loop-more : goal.decreases-loop-more
decreases-loop-more l = l.more
