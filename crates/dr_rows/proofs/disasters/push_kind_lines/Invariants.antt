use Rattle.std.proofs.Common.{◌≡◌, ◌++◌, map, take}
use Rattle.std.specs.List.{flat_map}
use Rattle.dr_rows.specs.Kinds.{kind_line}
use Rattle.dr_rows.proofs.disasters.push_kind_lines.Given as goal

abbrev pub invariant-loop-said : goal.invariant-loop-said
invariant-loop-said l = l.text ≡ l.fn.text ++ flat_map (kind_line l.asks l.which (map (λ row. row.now) l.rows)) (take l.said-index l.kinds)
