use Rattle.dr_volume.proofs.PackedLaws.{all-free}
use Rattle.dr_volume.proofs.entries.Entries.are_free.Goals as goal

pub returns : goal.returns
returns c = rw (← c.self.view_is) (all-free c.self.inside c.self.invariant.byte)
