use Rattle.std.proofs.Common.{◌≡◌, drop}
use Rattle.std.specs.Prelude.{slice_get}
use Rattle.std.specs.List.{filter_map}
use Rattle.dr_list.specs.Seen.{heard_seen}
use Rattle.dr_sweep.specs.Reach.{stopped_by, stopped_since}
use Rattle.dr_sweep.proofs.reach.first_stopped.Given as goal

abbrev pub invariant-loop-place : goal.invariant-loop-place
invariant-loop-place l = slice_get (filter_map (stopped_by (heard_seen l.told) l.names) (drop l.place l.journal.events)) 0 ≡ slice_get (stopped_since l.names l.from l.journal.events) 0
