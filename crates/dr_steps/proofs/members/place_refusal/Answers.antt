use Rattle.std.proofs.Common.{true, sym, ◌∙◌}
use Rattle.dr_steps.specs.Here.{here}
use Rattle.dr_steps.proofs.MemberLemmas.{placed-by}
use Rattle.dr_steps.proofs.members.place_refusal.Goals as goal

pub returns-clause-refusal : goal.returns-clause-refusal
returns-clause-refusal c x h events =
    c.name_refusal.ensures.refusal x h events
    ∙ placed-by (here x c.args.config.now h events).control c.args.dev.now c.args.owner.0 c.args.l.0 c.args.a.0 true (sym c.if-not-lies_in.false ∙ c.lies_in.ensures)
