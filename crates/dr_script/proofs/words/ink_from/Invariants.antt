use Rattle.std.proofs.Common.{◌≡◌, ◌≤◌, ◌+◌, ◌-◌, length, drop}
use Rattle.std.specs.List.{position_or_len}
use Rattle.dr_script.specs.Pieces.{is_ink}
use Rattle.dr_script.proofs.words.ink_from.Given as goal

abbrev pub invariant-loop-at : goal.invariant-loop-at
invariant-loop-at l = record {
  within : l.at ≤ length l.line;
  reached : l.at + position_or_len is_ink (drop l.at l.line) ≡ l.fn.from + position_or_len is_ink (drop l.fn.from l.line);
}

abbrev pub decreases-loop-at : goal.decreases-loop-at
decreases-loop-at l = length l.line - l.at
