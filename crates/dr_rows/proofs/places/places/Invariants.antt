use Rattle.std.proofs.Common.{◌≡◌, ◌++◌, ◌≤◌, ◌<◌, ◌-◌, map, take, drop, length}
use Rattle.dr_rows.specs.Places.{places, places_from}
use Rattle.dr_rows.proofs.places.places.Given as goal

abbrev pub invariant-loop-end : goal.invariant-loop-end
invariant-loop-end l = record {
  within : l.start < l.end;
  fits : l.end ≤ length l.rows;
  leads : map (λ place. place.now) l.found.items ++ places_from (take (l.end - l.start) (drop l.start l.rows)) (drop l.end l.rows) ≡ places l.rows;
}
