use Rattle.std.proofs.Common.{refl, ◌++◌}
use Rattle.std.proofs.lemmas.Option.{slice_get-get_or}
use Rattle.dr_plan.specs.Reading.{parts_from}
use Rattle.dr_plan.proofs.LineLemmas.{parts-more, parts-done}
use Rattle.dr_plan.proofs.apart.push_step_parts.Goals as goal

pub loop-i-preserved : goal.loop-i-preserved
loop-i-preserved c =
    parts-more c.args.number c.loop-i.all.items c.push_part.new.all.items (c.args.all.now.items ++ parts_from c.args.number 1 c.args.steps.now) c.args.steps.now c.loop-i.i _ _
    (slice_get-get_or c.args.steps.now c.loop-i.i _ c.loop-i-test.true) refl c.in_ok-push_part.ensures c.loop-i.invariant

pub returns : goal.returns
returns c = parts-done c.args.number c.loop-i.all.items (c.args.all.now.items ++ parts_from c.args.number 1 c.args.steps.now) c.args.steps.now c.loop-i.i c.loop-i-test.false c.loop-i.invariant
