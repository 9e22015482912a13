use Rattle.std.proofs.Common.{◌≡◌, ◌==◌, None, take}
use Rattle.std.specs.List.{find}
use Rattle.dr_ids.specs.declared.names.Member.{Member}
use Rattle.dr_model.specs.Sessions.{session_in, members_in}
use Rattle.dr_gmirror.proofs.restores.member_with.Given as goal

abbrev pub invariant-loop-at : goal.invariant-loop-at
invariant-loop-at l = record {
  -- no member so far has that target
  none : find (λ (m : Member). m.c.0 == l.t.0) (take l.at (members_in (session_in l.ss.sessions l.s.0))) ≡ None;
}
