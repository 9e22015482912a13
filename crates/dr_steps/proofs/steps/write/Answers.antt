use Rattle.std.proofs.Common.{sym, ap, ◌∙◌, Ok, Err}
use Rattle.std.specs.List.{find}
use Rattle.dr_host.specs.Writes.{has_number}
use Rattle.dr_model.specs.Plans.{issue_refusal, write_done}
use Rattle.dr_model.specs.Runs.{said}
use Rattle.dr_model.specs.declared.said.Said.TheVariants.{Refused}
use Rattle.dr_ids.specs.declared.names.WriteId.{WriteId}
use Rattle.dr_steps.specs.Here.{here}
use Rattle.dr_steps.proofs.StepLemmas.{issued-there, issued-lands, fault-says, plan-unless}
use Rattle.dr_steps.proofs.RelationLemmas.{relations-fit, partners-fit}
use Rattle.dr_model.specs.declared.said.Said.{Said}
use Rattle.dr_steps.proofs.WantLemmas.{no-memory-weaker, write-wants}
use Rattle.dr_steps.proofs.steps.write.Goals as goal

pub carry_write-requires-clause-found : goal.carry_write-requires-clause-found
carry_write-requires-clause-found g c = ap (λ n. find (has_number n) c.issue_write.new.tables.host.pending) c.pending_write-issued.ensures.named ∙ c.pending_write-issued.ensures.found

pub carry_write-requires-clause-there : goal.carry_write-requires-clause-there
carry_write-requires-clause-there g c =
    issued-there (g.P.Plant.state c.args.plant.now) c.args.config.now c.args.tables.now c.issue_write.new.tables c.args.journal.now.events c.issue_write.new.journal.events c.args.write.now c.in-Ok.w.0 c.in-Ok.ensures.done
    c.pending_write-issued.result c.pending_write-issued.ensures.found

pub carry_write-requires-clause-fit : goal.carry_write-requires-clause-fit
carry_write-requires-clause-fit g c = relations-fit (g.P.Plant.state c.args.plant.now) c.args.config.now c.args.tables.now c.args.journal.now.events c.requires.sound

pub carry_write-requires-clause-partners : goal.carry_write-requires-clause-partners
carry_write-requires-clause-partners g c = partners-fit (g.P.Plant.state c.args.plant.now) c.args.config.now c.args.tables.now c.args.journal.now.events c.requires.sound

pub returns-in-Ok-carry_write-clause-step : goal.returns-in-Ok-carry_write-clause-step
returns-in-Ok-carry_write-clause-step g c line =
    let t = c.args.config.now in
    issued-lands (g.P.Plant.state c.args.plant.now) t c.args.tables.now c.issue_write.new.tables c.args.journal.now.events c.issue_write.new.journal.events c.args.write.now c.in-Ok.w.0 c.in-Ok.ensures.done c.requires.ready.reads line
    (here (g.P.Plant.state c.carry_write.new.plant) t c.carry_write.new.tables c.carry_write.new.journal.events) (Ok c.in-Ok-carry_write.answer) c.pending_write-issued.result c.pending_write-issued.ensures.found c.in-Ok-carry_write.ensures.carried c.in-Ok-carry_write.ensures.says

pub returns-in-Err-carry_write-clause-step : goal.returns-in-Err-carry_write-clause-step
returns-in-Err-carry_write-clause-step g c line =
    let t = c.args.config.now in
    issued-lands (g.P.Plant.state c.args.plant.now) t c.args.tables.now c.issue_write.new.tables c.args.journal.now.events c.issue_write.new.journal.events c.args.write.now c.in-Ok.w.0 c.in-Ok.ensures.done c.requires.ready.reads line
    (here (g.P.Plant.state c.carry_write.new.plant) t c.carry_write.new.tables c.carry_write.new.journal.events) (Err c.in-Err-carry_write.refusal) c.pending_write-issued.result c.pending_write-issued.ensures.found c.in-Err-carry_write.ensures.carried tt

pub returns-in-Err-clause-step : goal.returns-in-Err-clause-step
returns-in-Err-clause-step g c =
    let s = g.P.Plant.state c.args.plant.now in let t = c.args.config.now in let h = c.args.tables.now in let ev = c.args.journal.now.events in let x = c.args.write.now in
    let w = here s t h ev in
    fault-says WriteId c.in-Err.fault _ _ (λ r is line.
    plan-unless w line (write_done w.control x.volume.0 x.track x.offset x.len x.bytes) (issue_refusal w.control x.volume.0 x.track) r (is s)
    ∙ (λ i. said (here s t (sym c.in-Err.ensures.same i) (sym c.in-Err.ensures.untold i)) line (Refused r))) c.in-Err.ensures.refused

pub returns-in-Err-clause-wanted : goal.returns-in-Err-clause-wanted
returns-in-Err-clause-wanted g c =
    let s = g.P.Plant.state c.args.plant.now in let t = c.args.config.now in let h = c.args.tables.now in let ev = c.args.journal.now.events in
    let x = c.args.write.now in
    no-memory-weaker WriteId Said c.in-Err.fault _ _ (λ free. write-wants s t h ev x.volume.0 x.track x.offset x.len x.bytes (free s)) c.in-Err.ensures.wanted
