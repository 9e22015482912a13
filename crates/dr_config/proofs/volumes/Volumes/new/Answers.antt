use Rattle.dr_config.proofs.VolumeLaws.{kept-empty}
use Rattle.dr_config.proofs.volumes.Volumes.new.Goals as goal

pub invariant_of-result : goal.invariant_of-result
invariant_of-result c = rw (c.new.ensures.items, c.new-2.ensures.items, c.no_places.ensures) kept-empty
