use Rattle.dr_plan.proofs.StopLemmas.{stop-written}
use Rattle.dr_plan.proofs.points.push_stop.Goals as goal

pub print_step-requires : goal.print_step-requires
print_step-requires c = stop-written c.args.server.now c.requires
