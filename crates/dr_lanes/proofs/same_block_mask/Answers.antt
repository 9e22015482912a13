use Rattle.std.proofs.Common.{arith}
use Rattle.dr_lanes.proofs.SameBlocks.{mask-more, mask-all}
use Rattle.dr_lanes.proofs.same_block_mask.Goals as goal

pub loop-word-preserved : goal.loop-word-preserved
loop-word-preserved c = record {
  reached = omega arith;
  so_far = mask-more c.args.a.now c.args.b.now c.loop-word.mask c.loop-word.word-index c.same_in_word.result c.loop-word.at c.min-blocks.result (omega arith) c.loop-word.invariant.reached (omega arith) c.same_in_word.ensures c.loop-word.invariant.so_far;
}

pub returns : goal.returns
returns c = mask-all c.args.a.now c.args.b.now c.loop-word.mask c.loop-word.word-index (omega arith) (omega arith) c.loop-word.invariant.so_far
