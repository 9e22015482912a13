use Rattle.std.proofs.Common.{ap, sym, ◌∙◌, Some}
use Rattle.std.proofs.lemmas.Bool.{and_parts}
use Rattle.dr_ids.specs.declared.refusal.Refusal.{Refusal}
use Rattle.dr_model.specs.Entries.{secondary_state}
use Rattle.dr_model.specs.PairEntries.{reach_refusal, belongs_to}
use Rattle.dr_moves.specs.Here.{world_seen}
use Rattle.dr_facts.proofs.Ends.{ends-passed}
use Rattle.dr_moves.proofs.EntryLemmas.{refuses, ends-clear, ends-why}
use Rattle.dr_gcopy.specs.Heads.{secondary_by}
use Rattle.dr_gcopy.proofs.checks.resume_refusal.Goals as goal

pub returns-in-Some-clause-checked : goal.returns-in-Some-clause-checked
returns-in-Some-clause-checked g c r events armed ds =
    c.in-Some.ensures.checked r events armed _

pub returns-in-Some-reach_refusal-clause-checked : goal.returns-in-Some-reach_refusal-clause-checked
returns-in-Some-reach_refusal-clause-checked g c r events armed ds =
    c.in_default.ensures.checked r events armed (world_seen (g.P.Plant.state c.args.plant.now) c.args.config.now r events) (Some c.in-Some-reach_refusal.why) _
    (ends-why armed (world_seen (g.P.Plant.state c.args.plant.now) c.args.config.now r events) (reach_refusal c.args.a.0 c.args.b.0) c.in-Some-reach_refusal.why _ (sym (c.in-Some-reach_refusal.ensures.refusal r events)))

pub returns-then-not-is_secondary_by-clause-checked : goal.returns-then-not-is_secondary_by-clause-checked
returns-then-not-is_secondary_by-clause-checked g c r events armed ds =
    c.in_default.ensures.checked r events armed (world_seen (g.P.Plant.state c.args.plant.now) c.args.config.now r events) (Some c.secondary_state.result) _
    (ends-clear armed (world_seen (g.P.Plant.state c.args.plant.now) c.args.config.now r events) (Some c.secondary_state.result) (world_seen (g.P.Plant.state c.args.plant.now) c.args.config.now r events) (reach_refusal c.args.a.0 c.args.b.0) _ (sym (c.in_default-reach_refusal.ensures.refusal r events))
    (refuses armed (world_seen (g.P.Plant.state c.args.plant.now) c.args.config.now r events) (belongs_to c.args.a.0 c.args.b.0) (secondary_state (world_seen (g.P.Plant.state c.args.plant.now) c.args.config.now r events).control c.args.b.0) (Some c.secondary_state.result) _ (ap (secondary_by c.args.a.0) (sym c.peek_head.ensures) ∙ sym c.is_secondary_by.ensures ∙ c.if-not-is_secondary_by.true) (ap (λ (x : Refusal). Some x) (c.secondary_state.ensures.refusal r events))))

pub returns-clause-checked : goal.returns-clause-checked
returns-clause-checked g c r events armed u r' ds more =
    c.in_default.ensures.checked r events armed u r' _
    (ends-clear armed u r' (world_seen (g.P.Plant.state c.args.plant.now) c.args.config.now r events) (reach_refusal c.args.a.0 c.args.b.0) _ (sym (c.in_default-reach_refusal.ensures.refusal r events))
    (ends-passed armed u r' (world_seen (g.P.Plant.state c.args.plant.now) c.args.config.now r events) (belongs_to c.args.a.0 c.args.b.0) (secondary_state (world_seen (g.P.Plant.state c.args.plant.now) c.args.config.now r events).control c.args.b.0) _ (ap (secondary_by c.args.a.0) (sym c.peek_head.ensures) ∙ sym c.is_secondary_by.ensures ∙ c.if-not-is_secondary_by.false)
    (more)))

pub returns-clause-secondary : goal.returns-clause-secondary
returns-clause-secondary g c =
    (and_parts _ _ (ap (secondary_by c.args.a.0) (sym c.peek_head.ensures) ∙ sym c.is_secondary_by.ensures ∙ c.if-not-is_secondary_by.false)).0
