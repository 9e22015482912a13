use Rattle.std.proofs.Common.{◌≡◌, length, map}
use Rattle.std.specs.Prelude.{fold, max}
use Rattle.std.specs.List.{range_with_len}
use Rattle.dr_chart.specs.Panels.{label}
use Rattle.dr_chart.proofs.panels.longest.Given as goal

abbrev pub invariant-loop-stretch : goal.invariant-loop-stretch
invariant-loop-stretch l = l.most ≡ fold max 0 (map (λ stretch. length (label l.plan stretch)) (range_with_len 0 l.stretch))
