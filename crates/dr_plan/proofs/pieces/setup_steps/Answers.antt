use Rattle.std.proofs.Common.{◌+◌, ◌++◌, ap, ◌∙◌}
use Rattle.dr_plan.specs.Above.{line_steps}
use Rattle.dr_plan.specs.Parts.{tried_from}
use Rattle.dr_plan.specs.Reading.{tried_steps}
use Rattle.dr_plan.proofs.LineLemmas.{steps-more, steps-done}
use Rattle.dr_plan.proofs.pieces.setup_steps.Goals as goal

pub loop-i-preserved : goal.loop-i-preserved
loop-i-preserved c =
    steps-more c.loop-i.steps.items c.push_read.new.all.items (tried_from 1 c.setup-setup.result.now) c.setup-setup.result.now c.loop-i.i c.index-setup-i.result c.loop-i-test.true
    (c.in_ok-push_read.ensures ∙ ap (λ line. c.loop-i.steps.items ++ tried_steps (c.loop-i.i + 1) line (line_steps line)) (c.bytes.ensures ∙ c.index-setup-i.is)) c.loop-i.invariant

pub returns : goal.returns
returns c = steps-done c.loop-i.steps.items (tried_from 1 c.setup-setup.result.now) c.setup-setup.result.now c.loop-i.i c.loop-i-test.false c.loop-i.invariant ∙ ap (tried_from 1) c.setup-setup.ensures
