use Rattle.std.proofs.Common.{arith, length-set, ◌∙◌}
use Rattle.dr_metro.proofs.LandingLemmas.{laid-none, laid-more, laid-all}
use Rattle.dr_metro.proofs.landing.laid.Goals as goal

pub loop-i-init : goal.loop-i-init
loop-i-init c = record { sized = c.told-old; so_far = λ k lt. laid-none c.args.offset k c.args.bytes.now c.args.old.now }

pub loop-i-preserved : goal.loop-i-preserved
loop-i-preserved c = record {
  sized = length-set c.loop-i.track _ _ ∙ c.loop-i.invariant.sized;
  so_far = λ k lt. laid-more c.args.offset c.loop-i.i k c.args.bytes.now c.args.old.now c.loop-i.track c.loop-i-test.true (let e = c.loop-i.invariant.sized in omega arith) (c.loop-i.invariant.so_far k lt);
}

pub returns : goal.returns
returns c = laid-all c.args.offset c.loop-i.i c.args.bytes.now c.args.old.now c.loop-i.track c.loop-i-test.false c.loop-i.invariant.sized c.loop-i.invariant.so_far
