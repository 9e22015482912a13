use Rattle.std.proofs.Common.{◌≡◌, ◌≤◌, ◌+◌, ◌++◌, filter, map, nat_eq, take}
use Rattle.dr_ids.specs.declared.names.Member.{Member}
use Rattle.dr_model.specs.Listings.{member_line}
use Rattle.dr_model.specs.Sessions.{session_in, members_in, subsystem_of}
use Rattle.dr_volume.specs.View.{Rest, control_seen}
use Rattle.dr_listing.proofs.members.push_members.Given as goal

abbrev pub invariant-loop-at : goal.invariant-loop-at
invariant-loop-at g l = record {
  told : (r : Rest) → l.journal.events ≡ l.fn.journal.events ++ map (member_line (control_seen (g.P.Plant.state l.plant) l.config r) l.line l.s.0) (filter (λ (m : Member). nat_eq (subsystem_of m.a.0) l.lss.0) (take l.at (members_in (session_in l.sessions.sessions l.s.0))));
  left : l.fn.journal.spare ≤ l.journal.spare + l.at;
}
