use Rattle.std.proofs.Common.{◌∷◌, sym, Some}
use Rattle.dr_model.specs.Entries.{running_check}
use Rattle.dr_model.specs.PairEntries.{refuse_if, reach_refusal}
use Rattle.dr_moves.specs.Here.{world_seen}
use Rattle.dr_moves.proofs.EntryLemmas.{ends-clear, ends-why}
use Rattle.dr_flash.proofs.CheckLemmas.{then-checked}
use Rattle.dr_failover.specs.Steps.{lead_checks, settled_checks}
use Rattle.dr_failover.proofs.checks.failback_refusal.Goals as goal

pub returns-in-Some-clause-checked : goal.returns-in-Some-clause-checked
returns-in-Some-clause-checked g c r events armed ds =
    c.in-Some.ensures.checked r events armed _

pub returns-in-Some-reach_refusal-clause-checked : goal.returns-in-Some-reach_refusal-clause-checked
returns-in-Some-reach_refusal-clause-checked g c r events armed ds =
    let w = world_seen (g.P.Plant.state c.args.plant.now) c.args.config.now r events in
    c.in_default.ensures.checked r events armed w (Some c.in-Some-reach_refusal.why) _
    (ends-why armed w (reach_refusal c.args.x.0 c.args.y.0) c.in-Some-reach_refusal.why _ (sym (c.in-Some-reach_refusal.ensures.refusal r events)))

pub returns-in-Some-lead_refusal-clause-checked : goal.returns-in-Some-lead_refusal-clause-checked
returns-in-Some-lead_refusal-clause-checked g c r events armed ds =
    let w = world_seen (g.P.Plant.state c.args.plant.now) c.args.config.now r events in
    c.in_default.ensures.checked r events armed w (Some c.in-Some-lead_refusal.why) _
    (ends-clear armed w (Some c.in-Some-lead_refusal.why) w (reach_refusal c.args.x.0 c.args.y.0) _ (sym (c.in_default-reach_refusal.ensures.refusal r events))
    (c.in-Some-lead_refusal.ensures.checked r events armed _))

pub returns-clause-checked : goal.returns-clause-checked
returns-clause-checked g c r events =
    let w = world_seen (g.P.Plant.state c.args.plant.now) c.args.config.now r events in
    let x = c.args.x.0 in
    let y = c.args.y.0 in
    then-checked w (running_check w.control x ∷ refuse_if (reach_refusal x y) ∷ lead_checks w.control x y c.args.kind) (settled_checks w.control x y) c.settled_refusal.result
    (λ armed u r' ds more. c.in_default.ensures.checked r events armed u r' _
    (ends-clear armed u r' w (reach_refusal x y) _ (sym (c.in_default-reach_refusal.ensures.refusal r events))
    (c.in_default-lead_refusal.ensures.checked r events armed u r' ds more)))
    (c.settled_refusal.ensures.checked r events)
