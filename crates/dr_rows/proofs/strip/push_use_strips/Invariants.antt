use Rattle.std.proofs.Common.{◌≡◌, ◌++◌}
use Rattle.std.specs.List.{flat_map, range_with_len}
use Rattle.dr_rows.specs.Strip.{use_strip}
use Rattle.dr_rows.proofs.strip.push_use_strips.Given as goal

abbrev pub invariant-loop-which : goal.invariant-loop-which
invariant-loop-which l = l.text ≡ l.fn.text ++ flat_map (use_strip l.plan l.asks l.rows l.disaster) (range_with_len 0 l.which)
