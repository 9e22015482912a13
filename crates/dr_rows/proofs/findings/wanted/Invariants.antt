use Rattle.std.proofs.Common.{◌≡◌}
use Rattle.std.specs.List.{flat_map, range_with_len}
use Rattle.dr_rows.specs.Findings.{wanted_at}
use Rattle.dr_rows.proofs.findings.wanted.Given as goal

abbrev pub invariant-loop-place : goal.invariant-loop-place
invariant-loop-place l = l.found.items ≡ flat_map (wanted_at l.plan) (range_with_len 0 l.place)
