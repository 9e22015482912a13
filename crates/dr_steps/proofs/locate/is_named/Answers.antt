use Rattle.std.proofs.Common.{sym, ap, ◌∙◌}
use Rattle.dr_model.specs.Plans as plans
use Rattle.dr_steps.specs.Here.{here}
use Rattle.dr_steps.proofs.FlashLemmas.{owner-none}
use Rattle.dr_steps.proofs.locate.is_named.Goals as goal

pub returns-in-None-server_named : goal.returns-in-None-server_named
returns-in-None-server_named c x h events =
    owner-none c.args.config.now c.in-Some.name c.bytes_of.result.now c.args.server.0 c.bytes_of.ensures c.in-None-server_named.ensures.place
    ∙ ap (λ d. plans.is_named d c.args.server.0 (here x c.args.config.now h events).control) (sym c.in-Some.is)
