use Rattle.std.proofs.Common.{◌∙◌, sym, arith}
use Rattle.dr_chart.specs.Picture.{mark_at}
use Rattle.dr_chart.proofs.NumberedLemmas.{none_left, said}
use Rattle.dr_chart.proofs.legend.push_legend.Goals as goal

pub loop-i-preserved : goal.loop-i-preserved
loop-i-preserved c = said (mark_at c.args.below) c.loop-i.i c.args.marks.now _ c.loop-i.text c.push_mark_at.new.text c.loop-i-test.true c.in_ok-push_mark_at.ensures ∙ c.loop-i.invariant

pub returns : goal.returns
returns c = sym (none_left (mark_at c.args.below) c.loop-i.i c.args.marks.now c.loop-i.text (omega arith)) ∙ c.loop-i.invariant
