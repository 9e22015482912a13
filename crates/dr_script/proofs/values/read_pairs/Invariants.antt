use Rattle.std.proofs.Common.{◌≡◌, ◌-◌, ◌*◌, drop, length, map, replicate, take}
use Rattle.std.specs.List.{range_with_len}
use Rattle.dr_ids.specs.Spelling.{all_digits}
use Rattle.dr_model.specs.LineWords.{byte_at}
use Rattle.dr_script.proofs.values.read_pairs.Given as goal

abbrev pub invariant-loop-k : goal.invariant-loop-k
invariant-loop-k l = record {
  sized : length l.bytes ≡ 64;
  front : take l.k l.bytes ≡ map (byte_at l.word) (range_with_len 0 l.k);
  back : drop l.k l.bytes ≡ replicate (64 - l.k) 0;
  digits : all_digits 16 (drop (2 * l.k) l.word) ≡ all_digits 16 l.word;
}
