use Rattle.std.proofs.Common.{ap, arith, ◌+◌, ◌++◌}
use Rattle.dr_model.specs.LineWords.{items_from, span_len}
use Rattle.dr_script.proofs.ItemLemmas.{item_more, all_items}
use Rattle.dr_plan.proofs.ranges.push_pairs.Goals as goal

pub loop-k-preserved : goal.loop-k-preserved
loop-k-preserved c =
    let n = c.span_len-k-end.ensures in
    item_more c.loop-k.pairs.items c.push.new.self.items (c.args.pairs.now.items ++ items_from c.args.a.low c.args.b.low (span_len c.args.a)) c.args.a.low c.args.b.low c.loop-k.k (span_len c.args.a) _ _
    (let t = c.loop-k-test.true in omega (arith, n)) (ap (λ x. x + c.loop-k.k) c.from.ensures) (ap (λ x. x + c.loop-k.k) c.from-in-loop-k.ensures) c.in_ok-push.ensures.items c.loop-k.invariant

pub returns : goal.returns
returns c = all_items c.loop-k.pairs.items c.args.pairs.now.items c.args.a c.args.b c.loop-k.k (let n = c.span_len-k-end.ensures in omega (arith, n)) c.loop-k.invariant
