use Rattle.std.proofs.Common.{ap, Option}
use Rattle.std.specs.Option.{option_or}
use Rattle.dr_ids.specs.declared.refusal.Refusal.{Refusal}
use Rattle.dr_volume.specs.declared.head.Head.{Head}
use Rattle.dr_moves.specs.Here.{world_seen}
use Rattle.dr_admin.specs.Adding.{lone_refusal, member_planned}
use Rattle.dr_admin.proofs.PairLemmas.{lone-is, pair-is, planned-is}
use Rattle.dr_admin.proofs.pairing.pair_member.Goals as goal

pub returns-in-Some-clause-refused : goal.returns-in-Some-clause-refused
returns-in-Some-clause-refused g c r events =
    let k = (world_seen (g.P.Plant.state c.args.plant.now) c.args.config.now r events).control in
    ap (λ (o : Option Refusal). option_or o (lone_refusal k c.args.a.0 (member_planned k c.args.a.0))) (c.in-Some.ensures.refusal r events)

pub returns-in_default-member_target-clause-refused : goal.returns-in_default-member_target-clause-refused
returns-in_default-member_target-clause-refused g c r events =
    let k = (world_seen (g.P.Plant.state c.args.plant.now) c.args.config.now r events).control in
    lone-is k c.args.a.0 c.peek_head.result.primary_partner.0 (ap (λ (f : Head). f.primary_partner.0) c.peek_head.ensures) c.relation_state.result
    (c.in_default.ensures.refusal r events) (c.in_default-member_target.ensures.target r events) (c.relation_state.ensures.refusal r events)

pub returns-clause-refused : goal.returns-clause-refused
returns-clause-refused g c r events =
    let k = (world_seen (g.P.Plant.state c.args.plant.now) c.args.config.now r events).control in
    pair-is k c.args.a.0 c.peek_head.result.primary_partner.0 (ap (λ (f : Head). f.primary_partner.0) c.peek_head.ensures) c.in-Some-member_target.target.0
    (c.in_default.ensures.refusal r events) (c.in-Some-member_target.ensures.target r events)

pub returns-clause-member : goal.returns-clause-member
returns-clause-member g c r events =
    let s = g.P.Plant.state c.args.plant.now in
    let k = (world_seen s c.args.config.now r events).control in
    planned-is k c.args.a.0 c.peek_head.result.primary_partner.0 (ap (λ (f : Head). f.primary_partner.0) c.peek_head.ensures) c.in-Some-member_target.target.0 c.server_of-server.result.0
    (c.in-Some-member_target.ensures.target r events) (c.server_of-server.ensures.seen s)
