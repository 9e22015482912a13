use Rattle.std.proofs.Common.{◌≡◌, map, take}
use Rattle.dr_rows.specs.Strip.{sign_of}
use Rattle.dr_rows.proofs.signs.signs_of.Given as goal

abbrev pub invariant-loop-place : goal.invariant-loop-place
invariant-loop-place l = l.found.items ≡ map (sign_of l.asks l.which) (map (λ place. place.now) (take l.place-index l.places))
