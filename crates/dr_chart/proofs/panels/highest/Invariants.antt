use Rattle.std.proofs.Common.{◌≡◌, map}
use Rattle.std.specs.Prelude.{fold, max}
use Rattle.std.specs.List.{range_with_len}
use Rattle.dr_rows.specs.Places.{most_lost}
use Rattle.dr_chart.proofs.panels.highest.Given as goal

abbrev pub invariant-loop-which : goal.invariant-loop-which
invariant-loop-which l = l.most ≡ fold max 0 (map (λ which. most_lost which l.rows) (range_with_len 0 l.which))
