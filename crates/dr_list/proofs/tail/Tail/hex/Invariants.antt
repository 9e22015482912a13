use Rattle.std.proofs.Common.{◌≡◌, ◌+◌, ◌*◌, ◌≤◌, ◌++◌, length, take}
use Rattle.std.specs.List.{flat_map}
use Rattle.dr_ids.specs.Spelling.{hex2}
use Rattle.dr_list.proofs.tail.Tail.hex.Given as goal

abbrev pub invariant-loop-at : goal.invariant-loop-at
invariant-loop-at l = record {
  within : l.at ≤ length l.bytes;
  text : flat_map hex2 (take l.at l.bytes) ++ l.self ≡ flat_map hex2 l.bytes ++ l.fn.self;
  len : length l.self + 2 * l.at ≡ length l.fn.self + 2 * length l.bytes;
}

abbrev pub decreases-loop-at : goal.decreases-loop-at
decreases-loop-at l = l.at
