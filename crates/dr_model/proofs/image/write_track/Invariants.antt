use Rattle.std.proofs.Common.{◌≡◌, ◌≤◌, length, take}
use Rattle.dr_model.specs.Histories.{histories}
use Rattle.dr_model.specs.Contents.{image, image_at}
use Rattle.dr_model.specs.Asked.{over, asked_if}
use Rattle.dr_model.proofs.image.write_track.Given as goal

abbrev pub invariant-loop-at : goal.invariant-loop-at
invariant-loop-at l = record {
  within : l.at ≤ l.place;
  known_length : length l.known ≡ 64;
  length : length l.into ≡ 64;
  same :
      over l.known l.into (image (histories (take l.place l.journal.events)).write (asked_if (histories (take l.at l.journal.events)) l.asked))
      ≡ image_at (take l.place l.journal.events) l.volume l.track;
}

abbrev pub decreases-loop-at : goal.decreases-loop-at
decreases-loop-at l = l.at
