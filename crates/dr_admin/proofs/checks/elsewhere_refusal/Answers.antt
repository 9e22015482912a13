use Rattle.std.specs.List.{find}
use Rattle.dr_model.specs.Sessions.{is_member}
use Rattle.dr_admin.proofs.SessionLemmas.{numbered, nowhere}
use Rattle.dr_admin.proofs.checks.elsewhere_refusal.Goals as goal

pub returns-in-Some-clause-refusal : goal.returns-in-Some-clause-refusal
returns-in-Some-clause-refusal c = numbered c.in-Some.session (find (is_member c.args.a.0) c.args.ss.now.sessions) c.in-Some.ensures

pub returns-clause-refusal : goal.returns-clause-refusal
returns-clause-refusal c = nowhere (find (is_member c.args.a.0) c.args.ss.now.sessions) c.in_default.ensures
