use Rattle.dr_model.specs.Sessions.{session_in}
use Rattle.dr_admin.proofs.SessionLemmas.{goes-free}
use Rattle.dr_admin.proofs.expelling.leaving_member.Goals as goal

pub returns-clause-free : goal.returns-clause-free
returns-clause-free g c = goes-free (session_in c.args.ss.now.sessions c.args.s.0) c.args.s.0 c.args.a.0 c.in-Some.m c.in-Some.ensures c.in_default-busy.ensures
