use Rattle.std.proofs.Common.{◌≡◌, ◌≤◌, ◌<◌, ◌+◌, ◌-◌, ◌++◌, filter, take, length}
use Rattle.std.specs.List.{flat_map}
use Rattle.dr_model.specs.Groups.{In}
use Rattle.dr_model.specs.Listings.{member_lines}
use Rattle.dr_model.specs.Sessions.{Session, has_subsystem}
use Rattle.dr_volume.specs.View.{Rest, control_seen}
use Rattle.dr_listing.specs.Told.{members_of}
use Rattle.dr_listing.proofs.members.sessions.Given as goal

abbrev pub invariant-loop-s : goal.invariant-loop-s
invariant-loop-s g l = record {
  told : (r : Rest) → l.journal.events ≡ l.fn.journal.events ++ flat_map (member_lines (control_seen (g.P.Plant.state l.plant) l.config r) l.line l.lss.0) (filter (has_subsystem l.lss.0) (take l.at l.sessions.sessions));
  within : l.at ≤ length l.sessions.sessions;
  low : (x : Session) → In x (take l.at l.sessions.sessions) → x.number < 256;
  left : l.fn.journal.spare ≤ l.journal.spare + length (members_of (take l.at l.sessions.sessions));
}

abbrev pub decreases-loop-s : goal.decreases-loop-s
decreases-loop-s g l = length l.sessions.sessions - l.at
