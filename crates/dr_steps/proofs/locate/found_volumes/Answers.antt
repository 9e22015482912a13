use Rattle.std.proofs.Common.{sym, ◌∙◌}
use Rattle.dr_steps.specs.Here.{here}
use Rattle.dr_steps.proofs.PairLemmas.{owner-named, found-then_named, found-then_foreign}
use Rattle.dr_steps.proofs.locate.found_volumes.Goals as goal

pub returns-then-not-is_named-clause-checked : goal.returns-then-not-is_named-clause-checked
returns-then-not-is_named-clause-checked c x h events =
    found-then_foreign (here x c.args.config.now h events) c.args.devs.now c.args.a.0 c.args.b.0 _ (c.in_default.ensures.checked x h events)
    (owner-named (here x c.args.config.now h events).control c.args.devs.now.remotedev c.args.b.0 _ (c.server_of-server.ensures.seen x) ∙ sym (c.is_named.ensures x h events) ∙ c.if-not-is_named.true) c.unknown_server.ensures

pub returns-clause-checked : goal.returns-clause-checked
returns-clause-checked c x h events =
    found-then_named (here x c.args.config.now h events) c.args.devs.now c.args.a.0 c.args.b.0 (c.in_default.ensures.checked x h events)
    (owner-named (here x c.args.config.now h events).control c.args.devs.now.remotedev c.args.b.0 _ (c.server_of-server.ensures.seen x) ∙ sym (c.is_named.ensures x h events) ∙ c.if-not-is_named.false)
