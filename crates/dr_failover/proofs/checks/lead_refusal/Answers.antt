use Rattle.std.proofs.Common.{not, ◌&&◌, ap, sym, ◌∙◌, Some}
use Rattle.dr_ids.specs.declared.refusal.Refusal.{Refusal}
use Rattle.dr_model.specs.Entries.{is_no_secondary, pair_state, secondary_state}
use Rattle.dr_model.specs.PairEntries.{leads_as, leads_to}
use Rattle.dr_model.specs.Layout.{is_part}
use Rattle.dr_model.specs.Pairs.{is_kind}
use Rattle.dr_volume.specs.declared.head.Head.{Head}
use Rattle.dr_moves.specs.Here.{world_seen}
use Rattle.dr_facts.proofs.Ends.{ends-passed}
use Rattle.dr_moves.proofs.EntryLemmas.{refuses}
use Rattle.dr_gcopy.specs.Heads.{primary_by}
use Rattle.dr_failover.proofs.checks.lead_refusal.Goals as goal

pub returns-then-not-leads_as-clause-checked : goal.returns-then-not-leads_as-clause-checked
returns-then-not-leads_as-clause-checked g c r events armed ds =
    let w = world_seen (g.P.Plant.state c.args.plant.now) c.args.config.now r events in
    refuses armed w (leads_as c.args.x.0 c.args.y.0 c.args.kind) (pair_state w.control c.args.x.0) (Some c.pair_state.result) _
    (ap (λ (h : Head). primary_by c.args.y.0 h && is_kind c.args.kind h.primary) (sym c.peek_head.ensures) ∙ sym c.leads_as.ensures ∙ c.if-not-leads_as.true)
    (ap (λ (x : Refusal). Some x) (c.pair_state.ensures.refusal r events))

pub returns-then-not-is_primary_by-clause-checked : goal.returns-then-not-is_primary_by-clause-checked
returns-then-not-is_primary_by-clause-checked g c r events armed ds =
    let w = world_seen (g.P.Plant.state c.args.plant.now) c.args.config.now r events in
    ends-passed armed w (Some c.pair_state-then-not-is_primary_by.result) w (leads_as c.args.x.0 c.args.y.0 c.args.kind) (pair_state w.control c.args.x.0) _
    (ap (λ (h : Head). primary_by c.args.y.0 h && is_kind c.args.kind h.primary) (sym c.peek_head.ensures) ∙ sym c.leads_as.ensures ∙ c.if-not-leads_as.false)
    (refuses armed w (leads_to c.args.y.0 c.args.x.0) (pair_state w.control c.args.y.0) (Some c.pair_state-then-not-is_primary_by.result) _
    (ap (primary_by c.args.x.0) (sym c.peek_head-2.ensures) ∙ sym c.is_primary_by.ensures ∙ c.if-not-is_primary_by.true)
    (ap (λ (x : Refusal). Some x) (c.pair_state-then-not-is_primary_by.ensures.refusal r events)))

pub returns-then-is_part-clause-checked : goal.returns-then-is_part-clause-checked
returns-then-is_part-clause-checked g c r events armed ds =
    let w = world_seen (g.P.Plant.state c.args.plant.now) c.args.config.now r events in
    ends-passed armed w (Some c.secondary_state.result) w (leads_as c.args.x.0 c.args.y.0 c.args.kind) (pair_state w.control c.args.x.0) _
    (ap (λ (h : Head). primary_by c.args.y.0 h && is_kind c.args.kind h.primary) (sym c.peek_head.ensures) ∙ sym c.leads_as.ensures ∙ c.if-not-leads_as.false)
    (ends-passed armed w (Some c.secondary_state.result) w (leads_to c.args.y.0 c.args.x.0) (pair_state w.control c.args.y.0) _
    (ap (primary_by c.args.x.0) (sym c.peek_head-2.ensures) ∙ sym c.is_primary_by.ensures ∙ c.if-not-is_primary_by.false)
    (refuses armed w (is_no_secondary c.args.x.0) (secondary_state w.control c.args.x.0) (Some c.secondary_state.result) _
    (ap (λ (h : Head). not (is_part h.secondary)) (sym c.peek_head-3.ensures) ∙ ap not (sym c.is_part.ensures ∙ c.if-is_part.true))
    (ap (λ (x : Refusal). Some x) (c.secondary_state.ensures.refusal r events))))

pub returns-then-is_part-2-clause-checked : goal.returns-then-is_part-2-clause-checked
returns-then-is_part-2-clause-checked g c r events armed ds =
    let w = world_seen (g.P.Plant.state c.args.plant.now) c.args.config.now r events in
    ends-passed armed w (Some c.secondary_state-then-is_part-2.result) w (leads_as c.args.x.0 c.args.y.0 c.args.kind) (pair_state w.control c.args.x.0) _
    (ap (λ (h : Head). primary_by c.args.y.0 h && is_kind c.args.kind h.primary) (sym c.peek_head.ensures) ∙ sym c.leads_as.ensures ∙ c.if-not-leads_as.false)
    (ends-passed armed w (Some c.secondary_state-then-is_part-2.result) w (leads_to c.args.y.0 c.args.x.0) (pair_state w.control c.args.y.0) _
    (ap (primary_by c.args.x.0) (sym c.peek_head-2.ensures) ∙ sym c.is_primary_by.ensures ∙ c.if-not-is_primary_by.false)
    (ends-passed armed w (Some c.secondary_state-then-is_part-2.result) w (is_no_secondary c.args.x.0) (secondary_state w.control c.args.x.0) _
    (ap (λ (h : Head). not (is_part h.secondary)) (sym c.peek_head-3.ensures) ∙ ap not (sym c.is_part.ensures ∙ c.if-is_part.false))
    (refuses armed w (is_no_secondary c.args.y.0) (secondary_state w.control c.args.y.0) (Some c.secondary_state-then-is_part-2.result) _
    (ap (λ (h : Head). not (is_part h.secondary)) (sym c.peek_head-4.ensures) ∙ ap not (sym c.is_part-2.ensures ∙ c.if-is_part-2.true))
    (ap (λ (x : Refusal). Some x) (c.secondary_state-then-is_part-2.ensures.refusal r events)))))

pub returns-clause-checked : goal.returns-clause-checked
returns-clause-checked g c r events armed u r' ds more =
    let w = world_seen (g.P.Plant.state c.args.plant.now) c.args.config.now r events in
    ends-passed armed u r' w (leads_as c.args.x.0 c.args.y.0 c.args.kind) (pair_state w.control c.args.x.0) _
    (ap (λ (h : Head). primary_by c.args.y.0 h && is_kind c.args.kind h.primary) (sym c.peek_head.ensures) ∙ sym c.leads_as.ensures ∙ c.if-not-leads_as.false)
    (ends-passed armed u r' w (leads_to c.args.y.0 c.args.x.0) (pair_state w.control c.args.y.0) _
    (ap (primary_by c.args.x.0) (sym c.peek_head-2.ensures) ∙ sym c.is_primary_by.ensures ∙ c.if-not-is_primary_by.false)
    (ends-passed armed u r' w (is_no_secondary c.args.x.0) (secondary_state w.control c.args.x.0) _
    (ap (λ (h : Head). not (is_part h.secondary)) (sym c.peek_head-3.ensures) ∙ ap not (sym c.is_part.ensures ∙ c.if-is_part.false))
    (ends-passed armed u r' w (is_no_secondary c.args.y.0) (secondary_state w.control c.args.y.0) _
    (ap (λ (h : Head). not (is_part h.secondary)) (sym c.peek_head-4.ensures) ∙ ap not (sym c.is_part-2.ensures ∙ c.if-is_part-2.false))
    more)))

pub returns-clause-leads : goal.returns-clause-leads
returns-clause-leads g c =
    ap (λ (h : Head). primary_by c.args.y.0 h && is_kind c.args.kind h.primary) (sym c.peek_head.ensures) ∙ sym c.leads_as.ensures ∙ c.if-not-leads_as.false

pub returns-clause-led : goal.returns-clause-led
returns-clause-led g c =
    ap (primary_by c.args.x.0) (sym c.peek_head-2.ensures) ∙ sym c.is_primary_by.ensures ∙ c.if-not-is_primary_by.false
