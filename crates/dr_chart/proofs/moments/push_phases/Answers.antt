use Rattle.std.proofs.Common.{◌∙◌, sym, arith}
use Rattle.dr_chart.specs.Picture.{phase_at}
use Rattle.dr_chart.proofs.NumberedLemmas.{none_left, said}
use Rattle.dr_chart.proofs.moments.push_phases.Goals as goal

pub loop-i-preserved : goal.loop-i-preserved
loop-i-preserved c = said (phase_at c.args.frame c.args.columns.now) c.loop-i.i c.args.columns.now _ c.loop-i.text c.push_phase_at.new.text c.loop-i-test.true c.in_ok-push_phase_at.ensures ∙ c.loop-i.invariant

pub returns : goal.returns
returns c = sym (none_left (phase_at c.args.frame c.args.columns.now) c.loop-i.i c.args.columns.now c.loop-i.text (omega arith)) ∙ c.loop-i.invariant
