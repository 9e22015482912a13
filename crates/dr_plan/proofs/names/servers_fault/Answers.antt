use Rattle.std.proofs.Common.{sym, ◌∙◌}
use Rattle.dr_plan.proofs.FaultLemmas.{twice-at, unknown-at, known-at, names-past}
use Rattle.dr_plan.proofs.names.servers_fault.Goals as goal

pub returns-then-is_among : goal.returns-then-is_among
returns-then-is_among c = twice-at c.args.known.now c.args.names.now c.loop-i.i _ _ c.loop-i-test.true (sym c.is_among.ensures ∙ c.if-is_among.true) c.loop-i.invariant

pub returns-then-not-is_among : goal.returns-then-not-is_among
returns-then-not-is_among c =
    unknown-at c.args.known.now c.args.names.now c.loop-i.i _ _ c.loop-i-test.true (sym c.is_among.ensures ∙ c.if-is_among.false) (sym c.is_among-in-loop-i.ensures ∙ c.if-not-is_among.true) c.loop-i.invariant

pub loop-i-preserved : goal.loop-i-preserved
loop-i-preserved c = known-at c.args.known.now c.args.names.now c.loop-i.i _ _ c.loop-i-test.true (sym c.is_among.ensures ∙ c.if-is_among.false) (sym c.is_among-in-loop-i.ensures ∙ c.if-not-is_among.false) c.loop-i.invariant

pub returns : goal.returns
returns c = names-past c.args.known.now c.args.names.now c.loop-i.i _ c.loop-i-test.false c.loop-i.invariant
