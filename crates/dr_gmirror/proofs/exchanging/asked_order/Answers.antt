use Rattle.std.proofs.Common.{length, ap, sym, ◌∙◌, Option}
use Rattle.dr_model.specs.Sessions.{Mirror, session_in, members_in, mirror_in}
use Rattle.dr_moves.specs.Here.{world_seen}
use Rattle.dr_gmirror.specs.Exchange.{asking_refusal_in, order_in, IsNear}
use Rattle.dr_gmirror.proofs.ExchangeLemmas.{look-none, look-some, order-there}
use Rattle.dr_facts.proofs.Refusals.{second-none}
use Rattle.dr_model.specs.SessionPlans as plans
use Rattle.dr_gmirror.proofs.exchanging.asked_order.Goals as goal
use Rattle.dr_logic.proofs.Options.{if-some}

pub returns-in_default-clause-refused : goal.returns-in_default-clause-refused
returns-in_default-clause-refused g c q events =
    let k = (world_seen (g.P.Plant.state c.args.plant.now) c.args.config.now q events).control in
    let o = mirror_in (session_in c.args.ss.now.sessions c.args.s.0) in
    sym (ap (λ (o : Option Mirror). asking_refusal_in k o c.args.server.0 (members_in (session_in c.args.ss.now.sessions c.args.s.0))) (look-none o c.args.server.0 c.in_default.ensures))

pub returns-in-Some-asking_refusal-clause-refused : goal.returns-in-Some-asking_refusal-clause-refused
returns-in-Some-asking_refusal-clause-refused g c q events =
    let k = (world_seen (g.P.Plant.state c.args.plant.now) c.args.config.now q events).control in
    let o = mirror_in (session_in c.args.ss.now.sessions c.args.s.0) in
    let l = look-some c.in-Some.x o c.args.server.0 c.in-Some.ensures in
    let near = if-some (IsNear (length c.args.config.now.names)) o l.0 l.1 c.requires.near in
    c.in-Some-asking_refusal.ensures.refusal q events l.0 l.2 near.in_phase
    ∙ sym (ap (λ (o : Option Mirror). asking_refusal_in k o c.args.server.0 (members_in (session_in c.args.ss.now.sessions c.args.s.0))) l.1)

pub returns-in-Some-order_of-clause-refused : goal.returns-in-Some-order_of-clause-refused
returns-in-Some-order_of-clause-refused g c q events =
    let k = (world_seen (g.P.Plant.state c.args.plant.now) c.args.config.now q events).control in
    let o = mirror_in (session_in c.args.ss.now.sessions c.args.s.0) in
    let l = look-some c.in-Some.x o c.args.server.0 c.in-Some.ensures in
    let near = if-some (IsNear (length c.args.config.now.names)) o l.0 l.1 c.requires.near in
    c.in_default-asking_refusal.ensures.refusal q events l.0 l.2 near.in_phase
    ∙ sym (ap (λ (o : Option Mirror). asking_refusal_in k o c.args.server.0 (members_in (session_in c.args.ss.now.sessions c.args.s.0))) l.1)

pub returns-in-Some-order_of-clause-order : goal.returns-in-Some-order_of-clause-order
returns-in-Some-order_of-clause-order g c =
    let o = mirror_in (session_in c.args.ss.now.sessions c.args.s.0) in
    let l = look-some c.in-Some.x o c.args.server.0 c.in-Some.ensures in
    ap (λ (o : Option Mirror). order_in o c.args.server.0) l.1 ∙ sym (c.in-Some-order_of.ensures l.0 c.args.server.0 l.2)

pub returns-in-None-clause-refused : goal.returns-in-None-clause-refused
returns-in-None-clause-refused g c q events =
    let k = (world_seen (g.P.Plant.state c.args.plant.now) c.args.config.now q events).control in
    let o = mirror_in (session_in c.args.ss.now.sessions c.args.s.0) in
    let ms = members_in (session_in c.args.ss.now.sessions c.args.s.0) in
    let l = look-some c.in-Some.x o c.args.server.0 c.in-Some.ensures in
    let near = if-some (IsNear (length c.args.config.now.names)) o l.0 l.1 c.requires.near in
    let free = c.in_default-asking_refusal.ensures.refusal q events l.0 l.2 near.in_phase in
    absurd (order-there l.0 c.args.server.0 ms near.in_phase (second-none (plans.off_refusal k l.0.server) (plans.phase_refusal l.0 c.args.server.0 ms) (sym free)) (sym (c.in-None.ensures l.0 c.args.server.0 l.2)))
