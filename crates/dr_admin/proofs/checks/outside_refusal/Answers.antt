use Rattle.std.proofs.Common.{sym, ◌∙◌}
use Rattle.dr_admin.proofs.SessionLemmas.{outside-is}
use Rattle.dr_admin.proofs.checks.outside_refusal.Goals as goal

pub returns-clause-refusal : goal.returns-clause-refusal
returns-clause-refusal c = outside-is c.args.ss.now.sessions c.args.s.0 c.args.l.0 c.requires.session (sym c.has_lss.ensures ∙ c.if-has_lss.false)
