use Rattle.std.proofs.Common.{◌≡◌, ◌≤◌, take}
use Rattle.dr_sweep.specs.Calm.{calm_heard}
use Rattle.dr_sweep.specs.Seen.{calm_seen}
use Rattle.dr_sweep.proofs.calm.heard_of.Given as goal

abbrev pub invariant-loop-place : goal.invariant-loop-place
invariant-loop-place l = record { heard : calm_seen l.heard ≡ calm_heard l.plan (take l.place l.journal.events); few : l.heard.steps ≤ l.place }
