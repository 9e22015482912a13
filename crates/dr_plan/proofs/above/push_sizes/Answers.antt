use Rattle.std.proofs.Common.{ap, sym, ◌∙◌}
use Rattle.std.specs.Option.{option_copied}
use Rattle.dr_plan.specs.Above.{volume_in}
use Rattle.dr_plan.proofs.AboveLemmas.{found-more}
use Rattle.dr_plan.proofs.above.push_sizes.Goals as goal

pub loop-i-preserved : goal.loop-i-preserved
loop-i-preserved c =
    found-more volume_in c.args.found.now.items c.loop-i.found.items c.push_size.new.found.items c.args.steps.now c.loop-i.i c.unwrap.result.now (sym c.step.ensures ∙ ap option_copied c.unwrap.ensures) c.in_ok-push_size.ensures c.loop-i.invariant
