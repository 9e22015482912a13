use Rattle.std.proofs.Common.{◌≡◌, ◌≤◌, take}
use Rattle.dr_model.specs.Histories.{histories}
use Rattle.dr_model.proofs.image.issue_before.Given as goal

abbrev pub invariant-loop-at : goal.invariant-loop-at
invariant-loop-at l = record {
  within : l.at ≤ l.place;
  same : (histories (take l.at l.journal.events)).write l.number ≡ (histories (take l.place l.journal.events)).write l.number;
}

abbrev pub decreases-loop-at : goal.decreases-loop-at
decreases-loop-at l = l.at
