use Rattle.std.proofs.Common.{ap, sym, ◌∙◌, ◌≡◌, ◌++◌, ◌∷◌, [], Some, None, Err}
use Rattle.dr_plant.specs.State.{PlantState}
use Rattle.dr_host.specs.Writes.{written, with_write}
use Rattle.dr_model.specs.declared.event.Event.TheVariants.{Issue}
use Rattle.dr_ids.specs.declared.names.WriteId.{WriteId}
use Rattle.dr_steps.proofs.StepLemmas.{issues-nowhere, issues-by, fault-refused, issued-told, any_plant}
use Rattle.dr_config.specs.Rules.{refusal_of}
use Rattle.dr_steps.proofs.WantLemmas.{on-no-memory}
use Rattle.dr_steps.proofs.steps.issue_write.Goals as goal

pub returns-in-Err-clause-refused : goal.returns-in-Err-clause-refused
returns-in-Err-clause-refused c s =
    issues-nowhere s c.args.config.now c.args.tables.now c.args.journal.now.events c.args.write.now.volume.0 c.args.write.now.track c.in-Err.refusal (c.in-Err.ensures s c.args.tables.now c.args.journal.now.events)

pub returns-in-Ok-issue-clause-done : goal.returns-in-Ok-issue-clause-done
returns-in-Ok-issue-clause-done c =
    let t = c.args.config.now in let h = c.args.tables.now in let ev = c.args.journal.now.events in let x = c.args.write.now in let w = c.in-Ok-issue.w.0 in
    let at = λ (s : PlantState). c.in-Ok.ensures s h ev in
    let track : c.in-Ok.place.track ≡ x.track = (at any_plant).1.track in
    record {
      number = c.in-Ok-issue.ensures.number;
      tables = (λ i. record h { host = (c.in-Ok-issue.ensures.added ∙ (λ i. with_write h.host x.volume.0 (track i) x.offset (c.front.ensures i))) i });
      found = c.in-Ok-issue.ensures.found ∙ (λ i. Some (written w x.volume.0 (track i) x.offset (c.front.ensures i)));
      told = c.push.ensures.events ∙ ap (λ k. ev ++ Issue w x.volume.0 k x.offset x.len x.bytes ∷ []) track;
      there = λ s. (at s).0;
      free = λ s. issues-by s t h ev x.volume.0 x.track None (at s).0 c.in-Ok-issue.ensures.refused;
    }

pub returns-in-Ok-issue-clause-told : goal.returns-in-Ok-issue-clause-told
returns-in-Ok-issue-clause-told c told =
    let h = c.args.tables.now in let ev = c.args.journal.now.events in let x = c.args.write.now in
    issued-told h.host c.issue.new.self ev c.push.new.self.events c.in-Ok-issue.w.0 x.volume.0 c.in-Ok.place.track x.offset x.len x.bytes c.front.result.now c.in-Ok-issue.ensures.number c.front.ensures c.in-Ok-issue.ensures.added c.push.ensures.events c.issued-issued.ensures.sound told

pub returns-in-Err-issue-clause-refused : goal.returns-in-Err-issue-clause-refused
returns-in-Err-issue-clause-refused c =
    let t = c.args.config.now in let h = c.args.tables.now in let ev = c.args.journal.now.events in let x = c.args.write.now in
    fault-refused WriteId c.in-Err-issue.fault _ _ c.in-Err-issue.ensures.refused (λ r is s. issues-by s t h ev x.volume.0 x.track (Some r) (c.in-Ok.ensures s h ev).0 is)

pub returns-in-Err-issue-clause-wanted : goal.returns-in-Err-issue-clause-wanted
returns-in-Err-issue-clause-wanted c =
    let t = c.args.config.now in let h = c.args.tables.now in let ev = c.args.journal.now.events in let x = c.args.write.now in
    on-no-memory WriteId c.in-Err-issue.fault _ (λ is s. issues-by s t h ev x.volume.0 x.track None (c.in-Ok.ensures s h ev).0 (ap (λ f. refusal_of {T = WriteId} (Err f)) (sym is) ∙ c.in-Err-issue.ensures.refused))
