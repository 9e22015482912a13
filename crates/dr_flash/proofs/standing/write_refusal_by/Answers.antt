use Rattle.dr_flash.proofs.StandingLemmas.{no-target}
use Rattle.dr_flash.proofs.standing.write_refusal_by.Goals as goal

pub returns-then-is_settled_by-clause-alone : goal.returns-then-is_settled_by-clause-alone
returns-then-is_settled_by-clause-alone g c = no-target (g.P.Plant.state c.args.plant.now) c.args.config.now c.args.v.0 c.look_at_targets-all.result.count c.look_at_targets-all.ensures.count
