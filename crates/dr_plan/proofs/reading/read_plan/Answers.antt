use Rattle.std.proofs.Common.{sym, subst}
use Rattle.std.specs.Str.Lines.{lines}
use Rattle.dr_plan.specs.Parts.{IsPlan}
use Rattle.dr_plan.proofs.EachLaws.{no-plan}
use Rattle.dr_plan.proofs.FirstLaws.{first-told}
use Rattle.dr_plan.proofs.PlanLaws.{plan-read}
use Rattle.dr_plan.proofs.WholeLemmas.{plan-sweep}
use Rattle.dr_plan.proofs.reading.read_plan.Goals as goal

pub of-requires : goal.of-requires
of-requires c = plan-sweep c.args.text.now c.in-Ok.draft (plan-read (lines c.args.text.now) c.in-Ok.draft c.in-Ok.ensures)

pub returns-in-Ok-clause-plan : goal.returns-in-Ok-clause-plan
returns-in-Ok-clause-plan c = subst (IsPlan (lines c.args.text.now)) (sym c.of.ensures) (plan-read (lines c.args.text.now) c.in-Ok.draft c.in-Ok.ensures)

pub returns-in-Err-clause-bad : goal.returns-in-Err-clause-bad
returns-in-Err-clause-bad c = no-plan (lines c.args.text.now) c.in-Err.fault c.in-Err.ensures

pub returns-in-Err-clause-first : goal.returns-in-Err-clause-first
returns-in-Err-clause-first c = first-told (lines c.args.text.now) c.in-Err.fault c.in-Err.ensures
