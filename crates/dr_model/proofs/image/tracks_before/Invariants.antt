use Rattle.std.proofs.Common.{◌≡◌, ◌≤◌, take}
use Rattle.dr_model.specs.Histories.{histories}
use Rattle.dr_model.proofs.image.tracks_before.Given as goal

abbrev pub invariant-loop-at : goal.invariant-loop-at
invariant-loop-at l = record {
  within : l.at ≤ l.place;
  same : (histories (take l.at l.journal.events)).tracks l.of ≡ (histories (take l.place l.journal.events)).tracks l.of;
}

abbrev pub decreases-loop-at : goal.decreases-loop-at
decreases-loop-at l = l.at
