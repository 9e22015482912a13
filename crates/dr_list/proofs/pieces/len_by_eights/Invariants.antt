use Rattle.std.proofs.Common.{◌≡◌, ◌≤◌, take, length}
use Rattle.dr_model.specs.Text.{trimmed}
use Rattle.dr_list.proofs.pieces.len_by_eights.Given as goal

abbrev pub invariant-loop-len : goal.invariant-loop-len
invariant-loop-len l = record {
  within : l.len ≤ length l.bytes;
  front : trimmed (take l.len l.bytes) ≡ trimmed l.bytes;
}

abbrev pub decreases-loop-len : goal.decreases-loop-len
decreases-loop-len l = l.len
