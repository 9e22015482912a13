use Rattle.std.proofs.Common.{◌≤◌, ◌-◌, ◌∙◌, sym, ap, subst, arith}
use Rattle.dr_model.specs.Limits.{most_events}
use Rattle.dr_model.specs.Log.{size_from, memory_for}
use Rattle.dr_model.proofs.MemoryLemmas.{memory-none, memory-some, next-most, size-none, size-here, size-next}
use Rattle.dr_model.proofs.journal.memory_for.Goals as goal

pub returns-then-events-eq0 : goal.returns-then-events-eq0
returns-then-events-eq0 c = sym memory-none ∙ ap memory_for (sym c.if-events-eq0.true)

pub returns-then-events-size : goal.returns-then-events-size
returns-then-events-size c =
    sym (size-here c.loop-more.more c.loop-more.size c.args.events c.loop-more-test.true c.if-events-size.true) ∙ c.loop-more.invariant.same
    ∙ sym (memory-some c.args.events c.if-events-eq0.false)

pub loop-more-preserved : goal.loop-more-preserved
loop-more-preserved c = record {
  same = ap (λ size. size_from (c.loop-more.more - 1) size c.args.events) c.min-size.ensures ∙ sym (size-next c.loop-more.more c.loop-more.size c.args.events c.loop-more-test.true c.if-events-size.false) ∙ c.loop-more.invariant.same;
  low = subst (λ n. n ≤ most_events) (sym c.min-size.ensures) (next-most most_events c.loop-more.size);
}

pub returns : goal.returns
returns c =
    let le = c.loop-more-test.false in
    sym (size-none c.loop-more.more c.loop-more.size c.args.events (omega (arith, le))) ∙ c.loop-more.invariant.same ∙ sym (memory-some c.args.events c.if-events-eq0.false)
