use Rattle.std.proofs.Common.{◌≡◌, ◌==◌, false, take}
use Rattle.std.specs.List.{list_any}
use Rattle.dr_ids.specs.declared.names.Member.{Member}
use Rattle.dr_model.specs.Sessions.{session_in, members_in}
use Rattle.dr_gmirror.proofs.looks.has_member_on.Given as goal

abbrev pub invariant-loop-at : goal.invariant-loop-at
invariant-loop-at l = record {
  none : list_any (λ (m : Member). m.server.0 == l.server.0) (take l.at (members_in (session_in l.ss.sessions l.s.0))) ≡ false;
}
