use Rattle.std.proofs.Common.{true, false}
use Rattle.dr_steps.proofs.SessionLemmas.{off-by}
use Rattle.dr_steps.proofs.locate.off_refusal.Goals as goal

pub returns-then-not-is_on-clause-refusal : goal.returns-then-not-is_on-clause-refusal
returns-then-not-is_on-clause-refusal g c t h events = off-by (g.P.Plant.state c.args.plant.now) t h events c.args.server.0 false c.requires.known c.if-not-is_on.ensures

pub returns-clause-refusal : goal.returns-clause-refusal
returns-clause-refusal g c t h events = off-by (g.P.Plant.state c.args.plant.now) t h events c.args.server.0 true c.requires.known c.if-not-is_on.ensures
