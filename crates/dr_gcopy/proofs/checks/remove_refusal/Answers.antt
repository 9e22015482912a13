use Rattle.std.proofs.Common.{ap, sym, ◌∙◌, Some}
use Rattle.dr_ids.specs.declared.refusal.Refusal.{Refusal}
use Rattle.dr_model.specs.Entries.{pair_state}
use Rattle.dr_model.specs.PairEntries.{leads_to}
use Rattle.dr_moves.specs.Here.{world_seen}
use Rattle.dr_facts.proofs.Ends.{ends-passed}
use Rattle.dr_moves.proofs.EntryLemmas.{refuses}
use Rattle.dr_gcopy.specs.Heads.{primary_by}
use Rattle.dr_gcopy.proofs.checks.remove_refusal.Goals as goal

pub returns-in-Some-clause-checked : goal.returns-in-Some-clause-checked
returns-in-Some-clause-checked g c r events armed ds =
    c.in-Some.ensures.checked r events armed _

pub returns-then-not-is_primary_by-clause-checked : goal.returns-then-not-is_primary_by-clause-checked
returns-then-not-is_primary_by-clause-checked g c r events armed ds =
    c.in_default.ensures.checked r events armed (world_seen (g.P.Plant.state c.args.plant.now) c.args.config.now r events) (Some c.pair_state.result) _
    (refuses armed (world_seen (g.P.Plant.state c.args.plant.now) c.args.config.now r events) (leads_to c.args.a.0 c.args.b.0) (pair_state (world_seen (g.P.Plant.state c.args.plant.now) c.args.config.now r events).control c.args.a.0) (Some c.pair_state.result) _ (ap (primary_by c.args.b.0) (sym c.peek_head.ensures) ∙ sym c.is_primary_by.ensures ∙ c.if-not-is_primary_by.true) (ap (λ (x : Refusal). Some x) (c.pair_state.ensures.refusal r events)))

pub returns-clause-checked : goal.returns-clause-checked
returns-clause-checked g c r events armed u r' ds more =
    c.in_default.ensures.checked r events armed u r' _
    (ends-passed armed u r' (world_seen (g.P.Plant.state c.args.plant.now) c.args.config.now r events) (leads_to c.args.a.0 c.args.b.0) (pair_state (world_seen (g.P.Plant.state c.args.plant.now) c.args.config.now r events).control c.args.a.0) _ (ap (primary_by c.args.b.0) (sym c.peek_head.ensures) ∙ sym c.is_primary_by.ensures ∙ c.if-not-is_primary_by.false)
    (more))
