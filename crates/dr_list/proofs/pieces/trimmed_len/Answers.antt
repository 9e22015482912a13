use Rattle.std.proofs.Common.{◌≡◌, ◌∙◌, false, nat_eq, get_or, ◌-◌, arith}
use Rattle.std.proofs.lemmas.Bool.Decides.{nat_tests}
use Rattle.dr_list.proofs.TextLemmas.{trimmed-shorter, trimmed-whole}
use Rattle.dr_list.proofs.pieces.trimmed_len.Goals as goal

pub loop-len-preserved : goal.loop-len-preserved
loop-len-preserved c = record {
  within = omega arith;
  front = trimmed-shorter c.args.bytes.now c.loop-len.len c.loop-len-test.true c.loop-len.invariant.within c.if-bytes-len-eq0.true ∙ c.loop-len.invariant.front;
}

pub returns-else-bytes-len-eq0-clause-front : goal.returns-else-bytes-len-eq0-clause-front
returns-else-bytes-len-eq0-clause-front c =
    let no = c.if-bytes-len-eq0.false in
    let other : nat_eq (get_or c.args.bytes.now (c.loop-len.len - 1) 0) 0 ≡ false = grind (arith, nat_tests, no) in
    trimmed-whole c.args.bytes.now c.loop-len.len c.loop-len-test.true c.loop-len.invariant.within other ∙ c.loop-len.invariant.front
