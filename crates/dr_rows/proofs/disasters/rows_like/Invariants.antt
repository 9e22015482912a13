use Rattle.std.proofs.Common.{◌≡◌, map, take}
use Rattle.dr_rows.specs.Kinds.{rows_like}
use Rattle.dr_rows.proofs.disasters.rows_like.Given as goal

abbrev pub invariant-loop-row : goal.invariant-loop-row
invariant-loop-row l = map (λ row. row.now) l.found.items ≡ rows_like l.asks l.said (map (λ row. row.now) (take l.row-index l.rows))
