use Rattle.std.proofs.Common.{ap, ◌∙◌}
use Rattle.dr_model.specs.Decisions.{decision}
use Rattle.dr_gmirror.proofs.restores.decide_over.Goals as goal

pub returns : goal.returns
returns g c = record { decides = λ r events. c.decision.ensures ∙ ap decision (c.report_all.ensures.shown r events) }
