use Rattle.std.proofs.Common.{◌∙◌}
use Rattle.dr_steps.specs.Here.{here}
use Rattle.dr_steps.proofs.SessionLemmas.{master-off, master-known}
use Rattle.dr_steps.proofs.sessions.master_refusal.Goals as goal

pub returns-in-Some-clause-refusal : goal.returns-in-Some-clause-refusal
returns-in-Some-clause-refusal g c t h events =
    c.off_refusal.ensures.refusal t h events ∙ master-off (here (g.P.Plant.state c.args.plant.now) t h events).control _ c.in-Some.server.0 c.in-Some.ensures

pub off_refusal-requires : goal.off_refusal-requires
off_refusal-requires g c = record { known = master-known _ c.in-Some.server.0 c.in-Some.ensures c.requires.known }
