use Rattle.std.proofs.Common.{◌||◌, ◌+◌, ap, sym, ◌∙◌, drop, arith}
use Rattle.dr_top.specs.Outcome.{has_refusal}
use Rattle.dr_top.proofs.RefusalLemmas.{refusal-more}
use Rattle.dr_top.proofs.status.has_refusal.Goals as goal

pub returns-then-is_refusal_at : goal.returns-then-is_refusal_at
returns-then-is_refusal_at c =
    let es = c.args.journal.now.events in
    sym (sym c.loop-i.invariant ∙ refusal-more es c.loop-i.i (let lt = c.loop-i-test.true in let len = c.len-i-end.ensures in omega (arith, lt, len)) ∙ ap (λ b. b || has_refusal (drop (c.loop-i.i + 1) es)) (sym c.if-is_refusal_at.ensures))

pub loop-i-preserved : goal.loop-i-preserved
loop-i-preserved c =
    let es = c.args.journal.now.events in
    sym (refusal-more es c.loop-i.i (let lt = c.loop-i-test.true in let len = c.len-i-end.ensures in omega (arith, lt, len)) ∙ ap (λ b. b || has_refusal (drop (c.loop-i.i + 1) es)) (sym c.if-is_refusal_at.ensures)) ∙ c.loop-i.invariant
