use Rattle.std.proofs.Common.{◌∙◌}
use Rattle.dr_model.specs.Sessions.{session_in}
use Rattle.dr_admin.proofs.SessionLemmas.{taken-here, taken-not}
use Rattle.dr_admin.proofs.checks.taken_refusal.Goals as goal

pub returns-in-Some-clause-refusal : goal.returns-in-Some-clause-refusal
returns-in-Some-clause-refusal c =
    taken-here c.args.ss.now.sessions c.args.a.0 (session_in c.args.ss.now.sessions c.args.s.0) c.in-Some.field-0 c.requires.session c.in-Some.ensures

pub returns-clause-refusal : goal.returns-clause-refusal
returns-clause-refusal c =
    c.other_refusal.ensures.refusal ∙ taken-not c.args.ss.now.sessions c.args.a.0 (session_in c.args.ss.now.sessions c.args.s.0) c.requires.session c.in_default.ensures
