use Rattle.std.proofs.Common.{◌≡◌, map, take}
use Rattle.dr_rows.specs.Places.{most_lost}
use Rattle.dr_rows.proofs.disasters.most_of.Given as goal

abbrev pub invariant-loop-row : goal.invariant-loop-row
invariant-loop-row l = l.most ≡ most_lost l.which (map (λ row. row.now) (take l.row-index l.rows))
