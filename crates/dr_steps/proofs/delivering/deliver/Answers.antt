use Rattle.std.proofs.Common.{◌≡◌, ℕ, sym, subst, ap, ◌∙◌, Option, Some}
use Rattle.dr_ctl.specs.Kept.{flight_in}
use Rattle.dr_ctl.specs.Seen.{message_of}
use Rattle.dr_model.specs.Messages.{Message, Asks, Replies}
use Rattle.dr_model.specs.MessagePlans.{on_message}
use Rattle.dr_model.specs.PlanParts.{Plan}
use Rattle.dr_model.specs.Runs.{after_plan, said}
use Rattle.dr_model.specs.declared.said.Said.TheVariants.{Refused}
use Rattle.dr_model.specs.Refusals.{unknown}
use Rattle.dr_model.proofs.CarryLemmas.{plan-refuses}
use Rattle.dr_ids.specs.declared.refusal.Kind.TheVariants.{Message as OfMessage}
use Rattle.dr_master.specs.Seen.{reply_of}
use Rattle.dr_steps.specs.declared.delivering.Arrived.{Arrived}
use Rattle.dr_steps.specs.Arrivals.{message_at, arrives}
use Rattle.dr_steps.specs.Here.{here, OnAnswer}
use Rattle.dr_steps.proofs.PostLemmas.{in-flight}
use Rattle.dr_steps.proofs.DeliverLemmas.{deliver-found, deliver-wants}
use Rattle.dr_steps.proofs.WantLemmas.{no-memory-then}
use Rattle.dr_steps.proofs.delivering.deliver.Goals as goal

pub deliver_order-requires-clause-known : goal.deliver_order-requires-clause-known
deliver_order-requires-clause-known g c =
    let x : Arrived = record { number = c.args.number; session = c.in-Some-Order.session; epoch = c.in-Some-Order.epoch; server = c.in-Some-Order.server; order = c.in-Some-Order.order } in
    let m = message_at x (Asks c.in-Some-Order.field-0-4) in
    let there = sym c.in-Some-Order.ensures.value ∙ ap (λ q. Some (message_of c.args.number q)) c.in-Some-Order.field-0-is in
    c.requires.homes m (in-flight (flight_in c.args.tables.now.flight) x.number m there)

pub deliver_reply-requires-clause-known : goal.deliver_reply-requires-clause-known
deliver_reply-requires-clause-known g c =
    let x : Arrived = record { number = c.args.number; session = c.in-Some-Reply.session; epoch = c.in-Some-Reply.epoch; server = c.in-Some-Reply.server; order = c.in-Some-Reply.order } in
    let m = message_at x (Replies (reply_of c.in-Some-Reply.reply)) in
    let there = sym c.in-Some-Reply.ensures.value ∙ ap (λ q. Some (message_of c.args.number q)) c.in-Some-Reply.field-0-is in
    c.requires.homes m (in-flight (flight_in c.args.tables.now.flight) x.number m there)

pub returns-in-Some-Order-clause-step : goal.returns-in-Some-Order-clause-step
returns-in-Some-Order-clause-step g c =
    let x : Arrived = record { number = c.args.number; session = c.in-Some-Order.session; epoch = c.in-Some-Order.epoch; server = c.in-Some-Order.server; order = c.in-Some-Order.order } in
    let m = message_at x (Asks c.in-Some-Order.field-0-4) in
    let there = sym c.in-Some-Order.ensures.value ∙ ap (λ q. Some (message_of c.args.number q)) c.in-Some-Order.field-0-is in
    let w = here (g.P.Plant.state c.args.plant.now) c.args.config.now c.args.tables.now c.args.journal.now.events in
    let u = here (g.P.Plant.state c.deliver_order.new.plant) c.args.config.now c.deliver_order.new.tables c.deliver_order.new.journal.events in
    subst (λ (p : Plan). OnAnswer c.deliver_order.result (λ a. (line : ℕ) → after_plan w line p ≡ said u line a)) (deliver-found w.control x.number m there)
    (c.deliver_order.ensures.step c.in-Some-Order.field-0-4 there)

pub returns-in-Some-Order-clause-wanted : goal.returns-in-Some-Order-clause-wanted
returns-in-Some-Order-clause-wanted g c =
    let x : Arrived = record { number = c.args.number; session = c.in-Some-Order.session; epoch = c.in-Some-Order.epoch; server = c.in-Some-Order.server; order = c.in-Some-Order.order } in
    let w = here (g.P.Plant.state c.args.plant.now) c.args.config.now c.args.tables.now c.args.journal.now.events in
    let there = sym c.in-Some-Order.ensures.value ∙ ap (λ q. Some (message_of c.args.number q)) c.in-Some-Order.field-0-is in
    no-memory-then _ c.deliver_order.result _ _ (λ free. deliver-wants w x c.in-Some-Order.field-0-4 there (free c.in-Some-Order.field-0-4 there))
    c.deliver_order.ensures.wanted

pub returns-in-None-clause-step : goal.returns-in-None-clause-step
returns-in-None-clause-step g c line =
    let w = here (g.P.Plant.state c.args.plant.now) c.args.config.now c.args.tables.now c.args.journal.now.events in
    ap (λ (o : Option Message). after_plan w line (on_message o (arrives w.control))) (sym c.in-None.ensures.value)
    ∙ plan-refuses w line (unknown OfMessage) ∙ ap (λ r. said w line (Refused r)) (sym c.unknown_message.ensures)
