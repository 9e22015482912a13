use Rattle.dr_volume.proofs.PackedLaws.{lowest-bit}
use Rattle.dr_volume.proofs.entries.lowest_bit.Goals as goal

pub returns-else-byte-eq0 : goal.returns-else-byte-eq0
returns-else-byte-eq0 c = lowest-bit c.args.byte c.if-byte-eq0.false c.ranges.byte.fits
