use Rattle.std.proofs.Common.{sym, ◌∙◌, Some, None}
use Rattle.dr_plan.proofs.FaultLemmas.{pair-at, pairs-past}
use Rattle.dr_plan.proofs.ranges.pairs_fault.Goals as goal

pub returns-in-Some : goal.returns-in-Some
returns-in-Some c = pair-at c.args.sizes.now c.args.pairs.now c.loop-pair.pair-index _ (Some c.in-Some.reason) _ c.loop-pair-test.true (sym c.pair_fault.ensures ∙ c.in-Some.is) c.loop-pair.invariant

pub loop-pair-preserved : goal.loop-pair-preserved
loop-pair-preserved c = pair-at c.args.sizes.now c.args.pairs.now c.loop-pair.pair-index _ None _ c.loop-pair-test.true (sym c.pair_fault.ensures ∙ c.in_default.is) c.loop-pair.invariant

pub returns : goal.returns
returns c = pairs-past c.args.sizes.now c.args.pairs.now c.loop-pair.pair-index _ c.loop-pair-test.false c.loop-pair.invariant
