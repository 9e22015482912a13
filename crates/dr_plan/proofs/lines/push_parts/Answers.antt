use Rattle.std.proofs.Common.{refl, ap, sym, ◌∙◌, ◌++◌, arith}
use Rattle.dr_model.specs.LineText.{step_text}
use Rattle.std.specs.Option.{option_copied}
use Rattle.dr_plan.specs.Reading.{parts_from}
use Rattle.dr_plan.proofs.LineLemmas.{parts-more, parts-done}
use Rattle.dr_plan.proofs.lines.push_parts.Goals as goal

pub loop-i-preserved : goal.loop-i-preserved
loop-i-preserved c =
    parts-more c.args.number c.loop-i.all.items c.push_part.new.all.items (c.args.all.now.items ++ parts_from c.args.number 1 c.args.steps.now) c.args.steps.now c.loop-i.i c.unwrap-step.result.now (step_text c.unwrap-step.result.now)
    (sym c.step.ensures ∙ ap option_copied c.unwrap-step.ensures) refl c.in_ok-push_part.ensures c.loop-i.invariant

pub returns : goal.returns
returns c = parts-done c.args.number c.loop-i.all.items (c.args.all.now.items ++ parts_from c.args.number 1 c.args.steps.now) c.args.steps.now c.loop-i.i (let n = c.len-i-end.ensures in let past = c.loop-i-test.false in omega (arith, n, past)) c.loop-i.invariant
