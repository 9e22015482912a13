use Rattle.std.proofs.Common.{◌≡◌, ◌++◌}
use Rattle.std.specs.List.{flat_map, range_with_len}
use Rattle.dr_rows.specs.Strip.{line_strip}
use Rattle.dr_rows.proofs.strip.push_line_strips.Given as goal

abbrev pub invariant-loop-place : goal.invariant-loop-place
invariant-loop-place l = l.text ≡ l.fn.text ++ flat_map (line_strip l.plan l.signs l.disaster) (range_with_len 0 l.place)
