use Rattle.std.proofs.Common.{sym, ◌∙◌}
use Rattle.dr_model.specs.Sessions.{session_in, members_in}
use Rattle.dr_flash.proofs.CheckLemmas.{same-test, differ-test}
use Rattle.dr_admin.proofs.SessionLemmas.{found-here, found-later, found-past}
use Rattle.dr_admin.proofs.members.member_of.Goals as goal

pub returns-in_default : goal.returns-in_default
returns-in_default c =
    sym (found-past c.args.a.0 c.loop-place.place (members_in (session_in c.args.ss.now.sessions c.args.s.0)) (sym c.in_default.ensures.value)) ∙ c.loop-place.invariant

pub returns-then-m-a : goal.returns-then-m-a
returns-then-m-a c =
    sym (found-here c.args.a.0 c.loop-place.place (members_in (session_in c.args.ss.now.sessions c.args.s.0)) c.in-Some.m (sym c.in-Some.ensures.value) (same-test _ _ c.if-m-a.true)) ∙ c.loop-place.invariant

pub loop-place-preserved : goal.loop-place-preserved
loop-place-preserved c =
    sym (found-later c.args.a.0 c.loop-place.place (members_in (session_in c.args.ss.now.sessions c.args.s.0)) c.in-Some.m (sym c.in-Some.ensures.value) (differ-test _ _ c.if-m-a.false)) ∙ c.loop-place.invariant
