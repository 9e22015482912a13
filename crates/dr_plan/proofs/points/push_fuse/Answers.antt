use Rattle.dr_plan.proofs.StopLemmas.{fuse-written}
use Rattle.dr_plan.proofs.points.push_fuse.Goals as goal

pub print_step-requires : goal.print_step-requires
print_step-requires c = rw c.torn_word.ensures (fuse-written c.args.server.now c.args.write c.args.torn c.requires c.ranges.write.fits)
