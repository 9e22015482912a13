use Rattle.std.proofs.Common.{◌≡◌, ◌++◌, ◌-◌}
use Rattle.std.specs.Prelude.{count_by}
use Rattle.std.specs.List.{flat_map, range_with_len}
use Rattle.dr_rows.specs.Refusals.{refusal_said, refuses_line}
use Rattle.dr_rows.proofs.recovery.push_refusals.Given as goal

abbrev pub invariant-loop-code : goal.invariant-loop-code
invariant-loop-code l = l.text ≡ l.fn.text ++ flat_map (λ code. refusal_said code (count_by (refuses_line l.number code) l.rows)) (range_with_len 1 (l.code - 1))
