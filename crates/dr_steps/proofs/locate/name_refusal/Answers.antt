use Rattle.std.proofs.Common.{true, false, ap, sym, ◌∙◌, Some}
use Rattle.dr_steps.specs.Here.{here}
use Rattle.dr_steps.proofs.MemberLemmas.{named-by}
use Rattle.dr_steps.proofs.locate.name_refusal.Goals as goal

pub returns-then-is_named-clause-refusal : goal.returns-then-is_named-clause-refusal
returns-then-is_named-clause-refusal c x h events =
    named-by (here x c.args.config.now h events).control c.args.dev.now c.args.owner.0 true (sym c.if-is_named.true ∙ c.is_named.ensures x h events)

pub returns-clause-refusal : goal.returns-clause-refusal
returns-clause-refusal c x h events =
    ap (λ r. Some r) c.unknown_server.ensures
    ∙ named-by (here x c.args.config.now h events).control c.args.dev.now c.args.owner.0 false (sym c.if-is_named.false ∙ c.is_named.ensures x h events)
