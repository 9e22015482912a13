use Rattle.std.proofs.Common.{◌≡◌, ◌<◌, ℕ, length, get_or, take}
use Rattle.dr_model.specs.Contents.{byte_laid}
use Rattle.dr_metro.proofs.landing.laid.Given as goal

abbrev pub invariant-loop-i : goal.invariant-loop-i
invariant-loop-i l = record {
  sized : length l.track ≡ 64;
  so_far : (k : ℕ) → k < 64 → get_or l.track k 0 ≡ byte_laid l.offset (take l.i l.bytes) l.old k;
}
