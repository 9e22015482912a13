use Rattle.std.proofs.Common.{arith}
use Rattle.dr_steps.proofs.LocatedLemmas.{located-some, located-past, located-undefined}
use Rattle.dr_steps.proofs.locate.locate.Goals as goal

pub returns-in_default : goal.returns-in_default
returns-in_default c = located-undefined c.args.config.now c.args.volume.0 c.args.track c.in_default.ensures.value

pub returns-then-track-from : goal.returns-then-track-from
returns-then-track-from c =
    located-some c.args.config.now c.args.volume.0 c.args.track c.in-Some.tracks c.in-Some-server_of.server c.in-Some.ensures.value c.in-Some-server_of.ensures.value c.in-Some-server_of.ensures.defined.below (omega arith)

pub returns-else-track-from : goal.returns-else-track-from
returns-else-track-from c = located-past c.args.config.now c.args.volume.0 c.args.track c.in-Some.tracks c.in-Some.ensures.value (omega arith)
