use Rattle.std.proofs.Common.{◌≡◌, take}
use Rattle.dr_rows.specs.Strip.{gap_lost}
use Rattle.dr_rows.proofs.strip.gap_lost.Given as goal

abbrev pub invariant-loop-sign : goal.invariant-loop-sign
invariant-loop-sign l = l.most ≡ gap_lost (take l.sign-index l.signs) l.disaster l.place
