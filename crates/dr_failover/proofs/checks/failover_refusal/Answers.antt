use Rattle.std.proofs.Common.{◌&&◌, ap, sym, ◌∙◌, Some}
use Rattle.dr_ids.specs.declared.refusal.Refusal.{Refusal}
use Rattle.dr_model.specs.Entries.{secondary_state}
use Rattle.dr_model.specs.PairEntries.{may_take_over}
use Rattle.dr_model.specs.Pairs.{is_kind}
use Rattle.dr_volume.specs.declared.head.Head.{Head}
use Rattle.dr_moves.specs.Here.{world_seen}
use Rattle.dr_facts.proofs.Ends.{ends-passed}
use Rattle.dr_moves.proofs.EntryLemmas.{refuses}
use Rattle.dr_gcopy.specs.Heads.{secondary_by}
use Rattle.dr_failover.proofs.checks.failover_refusal.Goals as goal

pub returns-in-Some-clause-checked : goal.returns-in-Some-clause-checked
returns-in-Some-clause-checked g c r events armed ds =
    c.in-Some.ensures.checked r events armed _

pub returns-then-not-may_take_over-clause-checked : goal.returns-then-not-may_take_over-clause-checked
returns-then-not-may_take_over-clause-checked g c r events armed ds =
    let w = world_seen (g.P.Plant.state c.args.plant.now) c.args.config.now r events in
    c.in_default.ensures.checked r events armed w (Some c.secondary_state.result) _
    (refuses armed w (may_take_over c.args.a.0 c.args.b.0 c.args.kind) (secondary_state w.control c.args.b.0) (Some c.secondary_state.result) _
    (ap (λ (h : Head). secondary_by c.args.a.0 h && is_kind c.args.kind h.secondary) (sym c.peek_head.ensures) ∙ sym c.may_take_over.ensures ∙ c.if-not-may_take_over.true)
    (ap (λ (x : Refusal). Some x) (c.secondary_state.ensures.refusal r events)))

pub returns-clause-checked : goal.returns-clause-checked
returns-clause-checked g c r events armed u r' ds more =
    let w = world_seen (g.P.Plant.state c.args.plant.now) c.args.config.now r events in
    c.in_default.ensures.checked r events armed u r' _
    (ends-passed armed u r' w (may_take_over c.args.a.0 c.args.b.0 c.args.kind) (secondary_state w.control c.args.b.0) _
    (ap (λ (h : Head). secondary_by c.args.a.0 h && is_kind c.args.kind h.secondary) (sym c.peek_head.ensures) ∙ sym c.may_take_over.ensures ∙ c.if-not-may_take_over.false)
    more)

pub returns-clause-secondary : goal.returns-clause-secondary
returns-clause-secondary g c =
    ap (λ (h : Head). secondary_by c.args.a.0 h && is_kind c.args.kind h.secondary) (sym c.peek_head.ensures) ∙ sym c.may_take_over.ensures ∙ c.if-not-may_take_over.false
