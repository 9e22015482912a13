use Rattle.dr_lanes.proofs.SameBlocks.{same_bytes}
use Rattle.dr_lanes.proofs.same_block.Goals as goal

pub returns : goal.returns
returns c = same_bytes c.args.a.now c.args.b.now c.told-a c.told-b
