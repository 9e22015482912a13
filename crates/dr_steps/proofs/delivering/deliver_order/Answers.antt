use Rattle.std.proofs.Common.{ℕ, ◌≡◌, [], ap, sym, subst, ◌∙◌}
use Rattle.dr_model.specs.Messages.{Asks, is_full}
use Rattle.dr_model.specs.declared.said.Said.{Said}
use Rattle.dr_model.specs.Refusals.{server_off}
use Rattle.dr_model.specs.Runs.{after_plan, said}
use Rattle.dr_volume.proofs.WorldLaws.{on-seen}
use Rattle.dr_facts.proofs.Refusals.{met}
use Rattle.dr_steps.specs.Arrivals.{message_at, arrives}
use Rattle.dr_steps.specs.Here.{here, said_of, OnAnswer}
use Rattle.dr_steps.proofs.DeliverLemmas.{order-free, order-refused, order-carried, answer-refused}
use Rattle.dr_steps.proofs.ExchangeLemmas.{master-near}
use Rattle.dr_steps.proofs.delivering.deliver_order.Goals as goal

pub order_refusal-requires-clause-near : goal.order_refusal-requires-clause-near
order_refusal-requires-clause-near g c =
    master-near (g.P.Plant.state c.args.plant.now) c.args.config.now c.args.tables.now c.args.journal.now.events c.requires.sound c.args.x.now.session.0

pub returns-in-Some-clause-step : goal.returns-in-Some-clause-step
returns-in-Some-clause-step g c starts found =
    order-refused (g.P.Plant.state c.args.plant.now) c.args.config.now c.args.tables.now c.args.journal.now.events c.args.x.now starts c.in-Some.why (c.in-Some.ensures.refusal starts found)

pub carry_order-requires-clause-running : goal.carry_order-requires-clause-running
carry_order-requires-clause-running g c =
    let s = g.P.Plant.state c.args.plant.now in let x = c.args.x.now in
    let k = (here s c.args.config.now c.args.tables.now []).control in
    let free = order-free k x c.requires.found.0 (sym (c.in_default.ensures.refusal c.requires.found.0 c.requires.found.1)) in
    sym (on-seen s x.server.0 c.requires.low) ∙ met (k.on x.server.0) (server_off x.server.0) free.on

pub carry_order-requires-clause-space : goal.carry_order-requires-clause-space
carry_order-requires-clause-space g c =
    let x = c.args.x.now in let k = (here (g.P.Plant.state c.args.plant.now) c.args.config.now c.args.tables.now []).control in
    let free = order-free k x c.requires.found.0 (sym (c.in_default.ensures.refusal c.requires.found.0 c.requires.found.1)) in
    ap is_full c.in-Ok.ensures.same ∙ free.space

pub returns-clause-step : goal.returns-clause-step
returns-clause-step g c starts found =
    let s = g.P.Plant.state c.args.plant.now in let t = c.args.config.now in let h = c.args.tables.now in let ev = c.args.journal.now.events in let x = c.args.x.now in
    let w = here s t h ev in let u = here (g.P.Plant.state c.carry_order.new.plant) t c.carry_order.new.tables c.carry_order.new.journal.events in
    let P : Said → Type 0 = λ a. (line : ℕ) → after_plan w line (arrives w.control (message_at x (Asks starts))) ≡ said u line a in
    subst (λ r. OnAnswer r P) (sym c.refused.ensures)
    (answer-refused c.carry_order.result P (order-carried s t h ev x starts c.reserve.new.self u (said_of c.carry_order.result) c.in-Ok.ensures.same (c.in_default.ensures.refusal starts found) c.carry_order.ensures.step))
