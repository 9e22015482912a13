use Rattle.std.proofs.Common.{◌+◌, ◌∙◌, ap, sym, arith, take}
use Rattle.dr_top.specs.Trials.{refusals}
use Rattle.dr_top.proofs.SummaryLemmas.{refusals-more}
use Rattle.dr_top.proofs.summary.refusals.Goals as goal

pub loop-i-preserved : goal.loop-i-preserved
loop-i-preserved c =
    let es = c.args.journal.now.events in
    let i = c.loop-i.i in
    ap (λ n. n + c.refusals_at-count.result) c.loop-i.invariant
    ∙ ap (λ n. refusals (take i es) + n) c.refusals_at-count.ensures
    ∙ sym (refusals-more es i (let lt = c.loop-i-test.true in let len = c.len-i-end.ensures in omega (arith, lt, len)))
