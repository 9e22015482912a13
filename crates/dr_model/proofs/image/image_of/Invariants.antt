use Rattle.std.proofs.Common.{◌≡◌, ◌*◌, take}
use Rattle.std.specs.List.{flat_map, range_with_len}
use Rattle.dr_model.specs.Contents.{image_at}
use Rattle.dr_model.proofs.image.image_of.Given as goal

abbrev pub invariant-loop-track : goal.invariant-loop-track
invariant-loop-track l = take (64 * l.track) l.into ≡ flat_map (image_at (take l.place l.journal.events) l.volume) (range_with_len 0 l.track)
