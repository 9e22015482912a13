use Rattle.std.proofs.Common.{◌≡◌, map, take}
use Rattle.dr_rows.specs.Kinds.{kinds}
use Rattle.dr_rows.proofs.disasters.kinds.Given as goal

abbrev pub invariant-loop-row : goal.invariant-loop-row
invariant-loop-row l = l.found.items ≡ kinds l.asks (map (λ row. row.now) (take l.row-index l.rows))
