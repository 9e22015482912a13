use Rattle.dr_plan.specs.Reading.{joined}
use Rattle.dr_plan.proofs.LineLemmas.{map-more}
use Rattle.dr_plan.proofs.uses.join_all.Goals as goal

pub loop-i-preserved : goal.loop-i-preserved
loop-i-preserved c = map-more (joined c.args.name.now c.args.pairs.now) c.args.uses.now c.loop-i.uses c.loop-i.i _ c.join.new.u c.loop-i-test.true c.loop-i.invariant c.in_ok-join.ensures
