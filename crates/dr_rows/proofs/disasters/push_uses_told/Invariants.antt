use Rattle.std.proofs.Common.{map, ◌≡◌, ◌++◌}
use Rattle.std.specs.List.{flat_map, range_with_len}
use Rattle.dr_rows.specs.Kinds.{told}
use Rattle.dr_rows.proofs.disasters.push_uses_told.Given as goal

abbrev pub invariant-loop-which : goal.invariant-loop-which
invariant-loop-which l = l.text ≡ l.fn.text ++ flat_map (told l.plan l.asks (map (λ row. row.now) l.rows)) (range_with_len 0 l.which)
