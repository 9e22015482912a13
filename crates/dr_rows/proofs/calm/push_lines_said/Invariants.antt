use Rattle.std.proofs.Common.{◌≡◌, ◌≤◌, ◌++◌, ◌-◌}
use Rattle.std.specs.List.{flat_map, range_with_len}
use Rattle.dr_rows.specs.Calm.{line_said}
use Rattle.dr_rows.proofs.calm.push_lines_said.Given as goal

abbrev pub invariant-loop-number : goal.invariant-loop-number
invariant-loop-number l = record {
  within : l.number - 1 ≤ l.plan.then_line - 1;
  says : l.text ≡ l.fn.text ++ flat_map (line_said l.plan l.calm) (range_with_len 1 (l.number - 1));
}
