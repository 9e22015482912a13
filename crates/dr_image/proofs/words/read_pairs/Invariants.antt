use Rattle.std.proofs.Common.{◌≡◌, ◌*◌, ◌-◌, ◌++◌, length, take, drop, replicate, Some}
use Rattle.dr_model.specs.LineWords.{◌>>=◌}
use Rattle.dr_model.specs.PlantImage.{upper_bytes}
use Rattle.dr_image.proofs.words.read_pairs.Given as goal

abbrev pub invariant-loop-i : goal.invariant-loop-i
invariant-loop-i l = record {
  sized : length l.bytes ≡ 64;
  rest : upper_bytes l.word ≡ (upper_bytes (drop (2 * l.i) l.word) >>= λ more. Some (take l.i l.bytes ++ more));
  zeros : drop l.i l.bytes ≡ replicate (64 - l.i) 0;
}
