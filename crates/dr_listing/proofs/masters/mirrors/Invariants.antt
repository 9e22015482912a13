use Rattle.std.proofs.Common.{◌≡◌, ◌≤◌, ◌<◌, ◌+◌, ◌-◌, ◌++◌, filter, take, length}
use Rattle.std.specs.List.{flat_map}
use Rattle.dr_model.specs.Groups.{In}
use Rattle.dr_model.specs.Listings.{mirror_lines}
use Rattle.dr_model.specs.Sessions.{Session, has_subsystem}
use Rattle.dr_listing.proofs.masters.mirrors.Given as goal

abbrev pub invariant-loop-s : goal.invariant-loop-s
invariant-loop-s l = record {
  told : l.journal.events ≡ l.fn.journal.events ++ flat_map (λ (x : Session). mirror_lines l.line x.number x.mirror) (filter (has_subsystem l.lss.0) (take l.at l.sessions.sessions));
  within : l.at ≤ length l.sessions.sessions;
  low : (x : Session) → In x (take l.at l.sessions.sessions) → x.number < 256;
  left : l.fn.journal.spare ≤ l.journal.spare + l.at;
}

abbrev pub decreases-loop-s : goal.decreases-loop-s
decreases-loop-s l = length l.sessions.sessions - l.at
