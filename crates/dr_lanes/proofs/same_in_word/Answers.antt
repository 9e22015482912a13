use Rattle.std.proofs.Common.{ℕ, ◌+◌, arith, sym, subst}
use Rattle.dr_lanes.proofs.SameBlocks.{IsMarked, marked-same, marked-other}
use Rattle.dr_lanes.proofs.same_in_word.Goals as goal
use Rattle.dr_lanes.proofs.same_in_word.Goals.{then-same_block, else-same_block}

pub loop-k-preserved : goal.loop-k-preserved
loop-k-preserved c = elim c.if-same_block.branch [
  | then-same_block w ↦
      subst (λ (n : ℕ). IsMarked c.args.a.now c.args.b.now c.args.at n (c.loop-k.k + 1)) (sym w.word-is)
      (marked-same c.args.a.now c.args.b.now c.args.at c.loop-k.word c.loop-k.k (omega arith)
      record { in_a = omega arith; in_b = omega arith; same = c.same_block.ensures.0 w.if-same_block.true }
      c.loop-k.invariant)
  | else-same_block w ↦
      subst (λ (n : ℕ). IsMarked c.args.a.now c.args.b.now c.args.at n (c.loop-k.k + 1)) (sym w.word-is)
      (marked-other c.args.a.now c.args.b.now c.args.at c.loop-k.word c.loop-k.k
      (λ same. let is = c.same_block.ensures.1 same.same in let no = w.if-same_block.false in cc)
      c.loop-k.invariant)
]
