use Rattle.std.proofs.Common.{◌≡◌}
use Rattle.dr_model.specs.Sessions.{session_in, members_in}
use Rattle.dr_admin.specs.Removing.{member_in}
use Rattle.dr_admin.proofs.SessionLemmas.{found_from}
use Rattle.dr_admin.proofs.members.member_of.Given as goal

abbrev pub invariant-loop-place : goal.invariant-loop-place
invariant-loop-place l = found_from l.a.0 l.place (members_in (session_in l.ss.sessions l.s.0)) ≡ member_in l.a.0 (session_in l.ss.sessions l.s.0)
