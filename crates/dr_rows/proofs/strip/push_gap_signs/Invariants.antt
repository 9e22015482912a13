use Rattle.std.proofs.Common.{◌≡◌, ◌++◌, take}
use Rattle.dr_rows.specs.Strip.{gap_signs}
use Rattle.dr_rows.proofs.strip.push_gap_signs.Given as goal

abbrev pub invariant-loop-sign : goal.invariant-loop-sign
invariant-loop-sign l = l.text ≡ l.fn.text ++ gap_signs (take l.sign-index l.signs) l.disaster l.place
