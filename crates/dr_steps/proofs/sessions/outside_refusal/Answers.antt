use Rattle.std.proofs.Common.{sym, ◌∙◌, true, false}
use Rattle.dr_steps.proofs.SessionLemmas.{outside-by}
use Rattle.dr_steps.proofs.sessions.outside_refusal.Goals as goal

pub returns-then-not-has_lss-clause-refusal : goal.returns-then-not-has_lss-clause-refusal
returns-then-not-has_lss-clause-refusal c x there =
    sym (outside-by c.args.sessions.now.sessions c.args.s.0 c.args.l.0 x false there (sym c.has_lss.ensures ∙ c.if-not-has_lss.true))

pub returns-clause-refusal : goal.returns-clause-refusal
returns-clause-refusal c x there =
    sym (outside-by c.args.sessions.now.sessions c.args.s.0 c.args.l.0 x true there (sym c.has_lss.ensures ∙ c.if-not-has_lss.false))
