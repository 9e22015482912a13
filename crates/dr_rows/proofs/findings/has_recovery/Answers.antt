use Rattle.std.proofs.Common.{sym, ap, ◌∙◌}
use Rattle.std.specs.Option.{option_copied}
use Rattle.std.proofs.lemmas.Map.Keys.{any_passes_from_place}
use Rattle.dr_rows.specs.Findings.{is_recovery}
use Rattle.dr_rows.proofs.StepLemmas.{none-more}
use Rattle.dr_rows.proofs.findings.has_recovery.Goals as goal

pub returns-then-is_recovery : goal.returns-then-is_recovery
returns-then-is_recovery c =
    sym (any_passes_from_place is_recovery c.args.steps.now c.loop-i.i c.unwrap-step.result.now (sym c.step.ensures ∙ ap option_copied c.unwrap-step.ensures) (sym c.is_recovery.ensures ∙ c.if-is_recovery.true))

pub loop-i-preserved : goal.loop-i-preserved
loop-i-preserved c =
    none-more is_recovery c.args.steps.now c.loop-i.i c.unwrap-step.result.now (sym c.step.ensures ∙ ap option_copied c.unwrap-step.ensures) (sym c.is_recovery.ensures ∙ c.if-is_recovery.false) c.loop-i.invariant
