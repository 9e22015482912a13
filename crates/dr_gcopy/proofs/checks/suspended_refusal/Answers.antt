use Rattle.std.proofs.Common.{ap, sym, ◌∙◌, Some}
use Rattle.std.proofs.lemmas.Bool.{and_parts}
use Rattle.dr_ids.specs.declared.refusal.Refusal.{Refusal}
use Rattle.dr_model.specs.Entries.{pair_state}
use Rattle.dr_model.specs.PairEntries.{may_resume}
use Rattle.dr_moves.specs.Here.{world_seen}
use Rattle.dr_facts.proofs.Ends.{ends-passed}
use Rattle.dr_moves.proofs.EntryLemmas.{refuses}
use Rattle.dr_gcopy.specs.Heads.{paused_by}
use Rattle.dr_gcopy.proofs.checks.suspended_refusal.Goals as goal

pub returns-in-Some-clause-checked : goal.returns-in-Some-clause-checked
returns-in-Some-clause-checked g c r events armed ds =
    c.in-Some.ensures.checked r events armed _

pub returns-then-not-may_resume-clause-checked : goal.returns-then-not-may_resume-clause-checked
returns-then-not-may_resume-clause-checked g c r events armed ds =
    c.in_default.ensures.checked r events armed (world_seen (g.P.Plant.state c.args.plant.now) c.args.config.now r events) (Some c.pair_state.result) _
    (refuses armed (world_seen (g.P.Plant.state c.args.plant.now) c.args.config.now r events) (may_resume c.args.a.0 c.args.b.0 c.args.kind) (pair_state (world_seen (g.P.Plant.state c.args.plant.now) c.args.config.now r events).control c.args.a.0) (Some c.pair_state.result) _ (ap (paused_by c.args.b.0 c.args.kind) (sym c.peek_head.ensures) ∙ sym c.may_resume.ensures ∙ c.if-not-may_resume.true) (ap (λ (x : Refusal). Some x) (c.pair_state.ensures.refusal r events)))

pub returns-clause-checked : goal.returns-clause-checked
returns-clause-checked g c r events armed u r' ds more =
    c.in_default.ensures.checked r events armed u r' _
    (ends-passed armed u r' (world_seen (g.P.Plant.state c.args.plant.now) c.args.config.now r events) (may_resume c.args.a.0 c.args.b.0 c.args.kind) (pair_state (world_seen (g.P.Plant.state c.args.plant.now) c.args.config.now r events).control c.args.a.0) _ (ap (paused_by c.args.b.0 c.args.kind) (sym c.peek_head.ensures) ∙ sym c.may_resume.ensures ∙ c.if-not-may_resume.false)
    (more))

pub returns-clause-primary : goal.returns-clause-primary
returns-clause-primary g c =
    (and_parts _ _ ((and_parts _ _ (ap (paused_by c.args.b.0 c.args.kind) (sym c.peek_head.ensures) ∙ sym c.may_resume.ensures ∙ c.if-not-may_resume.false)).0)).0
