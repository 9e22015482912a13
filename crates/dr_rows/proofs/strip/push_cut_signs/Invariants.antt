use Rattle.std.proofs.Common.{◌≡◌, ◌++◌, take}
use Rattle.dr_rows.specs.Strip.{cut_signs}
use Rattle.dr_rows.proofs.strip.push_cut_signs.Given as goal

abbrev pub invariant-loop-sign : goal.invariant-loop-sign
invariant-loop-sign l = l.text ≡ l.fn.text ++ cut_signs (take l.sign-index l.signs) l.disaster l.place l.server
