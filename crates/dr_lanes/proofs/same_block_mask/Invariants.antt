use Rattle.std.proofs.Common.{ℕ, ◌≡◌, ◌↔◌, ◌<◌, ◌*◌, true, length, min}
use Rattle.dr_lanes.specs.Words.{is_set}
use Rattle.dr_lanes.specs.Blocks.{IsSameBlock}
use Rattle.dr_lanes.proofs.same_block_mask.Given as goal

abbrev pub invariant-loop-word : goal.invariant-loop-word
invariant-loop-word l = record {
  reached : l.at ≡ min (64 * l.word-index) (length l.a);
  so_far : (k : ℕ) → k < 64 * l.word-index → (is_set l.mask k ≡ true) ↔ IsSameBlock l.a l.b k;
}
