use Rattle.std.proofs.Common.{◌≡◌, take}
use Rattle.dr_rows.specs.Places.{most_lost}
use Rattle.dr_rows.proofs.places.most_lost.Given as goal

abbrev pub invariant-loop-row : goal.invariant-loop-row
invariant-loop-row l = l.most ≡ most_lost l.which (take l.row-index l.rows)
