use Rattle.std.proofs.Common.{sym, ◌∙◌}
use Rattle.dr_model.specs.Plans.{issue_refusal, issue_done}
use Rattle.dr_model.specs.Runs.{said}
use Rattle.dr_model.specs.declared.said.Said.TheVariants.{Refused}
use Rattle.dr_ids.specs.declared.names.WriteId.{WriteId}
use Rattle.dr_steps.specs.Here.{here}
use Rattle.dr_steps.proofs.StepLemmas.{issued-stays, fault-answers, plan-unless}
use Rattle.dr_model.specs.declared.said.Addition.{Addition}
use Rattle.dr_steps.proofs.WantLemmas.{no-memory-weaker, issue-wants}
use Rattle.dr_steps.proofs.steps.issue.Goals as goal

pub returns-in-Ok-clause-step : goal.returns-in-Ok-clause-step
returns-in-Ok-clause-step g c line =
    issued-stays (g.P.Plant.state c.args.plant.now) c.args.config.now c.args.tables.now c.issue_write.new.tables c.args.journal.now.events c.issue_write.new.journal.events c.args.write.now c.in-Ok.w.0 c.in-Ok.ensures.done line

pub returns-in-Err-clause-step : goal.returns-in-Err-clause-step
returns-in-Err-clause-step g c =
    let s = g.P.Plant.state c.args.plant.now in let t = c.args.config.now in let h = c.args.tables.now in let ev = c.args.journal.now.events in let x = c.args.write.now in
    let w = here s t h ev in
    fault-answers WriteId c.in-Err.fault _ _ (λ r is line.
    plan-unless w line (issue_done w.control x.volume.0 x.track x.offset x.len x.bytes) (issue_refusal w.control x.volume.0 x.track) r (is s)
    ∙ (λ i. said (here s t (sym c.in-Err.ensures.same i) (sym c.in-Err.ensures.untold i)) line (Refused r))) c.in-Err.ensures.refused

pub returns-in-Err-clause-wanted : goal.returns-in-Err-clause-wanted
returns-in-Err-clause-wanted g c =
    let s = g.P.Plant.state c.args.plant.now in let t = c.args.config.now in let h = c.args.tables.now in let ev = c.args.journal.now.events in
    let x = c.args.write.now in
    no-memory-weaker WriteId Addition c.in-Err.fault _ _ (λ free. issue-wants s t h ev x.volume.0 x.track x.offset x.len x.bytes (free s)) c.in-Err.ensures.wanted
