use Rattle.std.proofs.Common.{◌≡◌, ◌++◌, take}
use Rattle.dr_chart.specs.Picture.{escaped}
use Rattle.dr_chart.proofs.pieces.push_escaped.Given as goal

abbrev pub invariant-loop-byte : goal.invariant-loop-byte
invariant-loop-byte l = l.text ≡ l.fn.text ++ escaped (take l.byte-index l.said)
