use Rattle.std.proofs.Common.{◌≡◌, take, false}
use Rattle.std.specs.List.{list_any}
use Rattle.dr_rows.specs.Places.{differs}
use Rattle.dr_rows.proofs.places.any_differs.Given as goal

abbrev pub invariant-loop-row : goal.invariant-loop-row
invariant-loop-row l = list_any (differs l.asks l.which l.first) (take l.row-index l.more) ≡ false
