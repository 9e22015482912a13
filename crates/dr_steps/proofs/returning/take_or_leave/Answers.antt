use Rattle.std.proofs.Common.{◌≡◌, true, ◌&&◌, ap, sym, ◌∙◌, subst, cond, [], ◌∷◌, ◌++◌, Some}
use Rattle.std.proofs.lemmas.Bool.{and_parts}
use Rattle.dr_model.specs.Layout.{is_part}
use Rattle.dr_model.specs.Moves.{LeavePrimary, TakeOver}
use Rattle.dr_model.specs.Carry.{now}
use Rattle.dr_model.specs.PairEntries.{failover_entries}
use Rattle.dr_model.specs.Pairs.{is_cascaded}
use Rattle.dr_model.specs.ReadStops.{Ends}
use Rattle.dr_volume.specs.declared.head.Head.{Head}
use Rattle.dr_moves.specs.Here.{world_seen, armed_in, refusal_of}
use Rattle.dr_failover.specs.Steps.{failover_checks}
use Rattle.dr_gcopy.specs.Kinds.{part_of}
use Rattle.dr_steps.proofs.returning.take_or_leave.Goals as goal

pub failover-requires-clause-uncascaded : goal.failover-requires-clause-uncascaded
failover-requires-clause-uncascaded g c = ap (λ (x : Head). is_part x.primary && is_part x.secondary) (sym c.peek_head.ensures) ∙ sym c.if-not-is_cascaded.ensures

pub returns-in-Some-clause-carried : goal.returns-in-Some-clause-carried
returns-in-Some-clause-carried g c r =
    let s = g.P.Plant.state c.args.plant.now in
    let w = world_seen s c.args.config.now r c.args.journal.now.events in
    let b = c.args.b.0 in
    subst (λ k. Ends (armed_in s) w (Some c.in-Some.why) w (failover_entries w.control b c.args.a.0 k)) c.part_of.ensures.part
    (c.in-Some.ensures.checked r c.args.journal.now.events (armed_in s) (now (cond (is_cascaded (w.control.volume b).fields) (LeavePrimary b) (TakeOver b)) ∷ []))

pub leave-requires-clause-primary : goal.leave-requires-clause-primary
leave-requires-clause-primary g c =
    (and_parts _ _ (ap (λ (x : Head). is_part x.primary && is_part x.secondary) (sym c.peek_head.ensures) ∙ sym c.if-not-is_cascaded.ensures)).0

pub leave-requires-clause-secondary : goal.leave-requires-clause-secondary
leave-requires-clause-secondary g c =
    (and_parts _ _ (ap (λ (x : Head). is_part x.primary && is_part x.secondary) (sym c.peek_head.ensures) ∙ sym c.if-not-is_cascaded.ensures)).1

pub returns-clause-carried : goal.returns-clause-carried
returns-clause-carried g c r =
    let s = g.P.Plant.state c.args.plant.now in
    let t = c.args.config.now in
    let w = world_seen s t r c.args.journal.now.events in
    let u = world_seen (g.P.Plant.state c.leave.new.plant) t r c.leave.new.journal.events in
    let b = c.args.b.0 in
    let cascaded : is_cascaded (w.control.volume b).fields ≡ true = ap (λ (x : Head). is_part x.primary && is_part x.secondary) (sym c.peek_head.ensures) ∙ sym c.if-not-is_cascaded.ensures in
    subst (λ x. Ends (armed_in s) u (refusal_of c.leave.result) w (failover_checks w.control b c.args.a.0 (part_of c.args.kind) ++ now (cond x (LeavePrimary b) (TakeOver b)) ∷ [])) (sym cascaded)
    (subst (λ k. Ends (armed_in s) u (refusal_of c.leave.result) w (failover_checks w.control b c.args.a.0 k ++ now (LeavePrimary b) ∷ [])) c.part_of.ensures.part
    (c.in_default.ensures.checked r c.args.journal.now.events (armed_in s) u (refusal_of c.leave.result) (now (LeavePrimary b) ∷ []) (c.leave.ensures.carried r)))
