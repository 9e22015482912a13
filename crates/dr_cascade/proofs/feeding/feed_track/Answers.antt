use Rattle.std.proofs.Common.{◌≡◌, true, ap, sym, subst}
use Rattle.dr_model.specs.PairEntries.{feed_stretches}
use Rattle.dr_model.specs.Pairs.{is_cascaded}
use Rattle.dr_volume.specs.declared.head.Head.{Head}
use Rattle.dr_volume.specs.View.{ids_of, volume_seen}
use Rattle.dr_moves.specs.Followed.{EndsIn}
use Rattle.dr_moves.specs.Here.{world_seen, armed_in, refusal_of}
use Rattle.dr_gcopy.specs.Sending.{MayPair}
use Rattle.dr_cascade.proofs.FedLemmas.{ran-ends-in}
use Rattle.dr_cascade.proofs.feeding.feed_track.Goals as goal

pub feed_to-requires-clause-at : goal.feed_to-requires-clause-at
feed_to-requires-clause-at g c = record { rest = c.requires.rest; fit = c.requires.fit }

pub feed_to-requires-clause-cascaded : goal.feed_to-requires-clause-cascaded
feed_to-requires-clause-cascaded g c =
    subst (λ b. is_cascaded (volume_seen (g.P.Plant.state c.args.plant.now) c.args.config.now b).fields ≡ true) (ap (λ (h : Head). h.primary_partner.0) (sym c.peek_head.ensures)) c.requires.cascaded

pub feed_to-requires-clause-pair : goal.feed_to-requires-clause-pair
feed_to-requires-clause-pair g c =
    subst (λ b. MayPair (g.P.Plant.state c.args.plant.now) c.args.config.now c.args.a.0 b) (ap (λ (h : Head). h.primary_partner.0) (sym c.peek_head.ensures)) c.requires.pair

pub feed_to-requires-clause-next : goal.feed_to-requires-clause-next
feed_to-requires-clause-next g c =
    let s = g.P.Plant.state c.args.plant.now in
    let t = c.args.config.now in
    subst (λ b. MayPair s t b (volume_seen s t b).fields.primary_partner) (ap (λ (h : Head). h.primary_partner.0) (sym c.peek_head.ensures)) c.requires.next

pub returns-clause-carried : goal.returns-clause-carried
returns-clause-carried g c r =
    let s = g.P.Plant.state c.args.plant.now in
    let u = g.P.Plant.state c.feed_to.new.plant in
    let t = c.args.config.now in
    let j = c.args.journal.now in
    let new = c.feed_to.new.journal in
    let b = c.peek_head.result.primary_partner.0 in
    let ran = c.feed_to.ensures.ran in
    subst (λ q. EndsIn (armed_in s) (world_seen s t r j.events) (feed_stretches (ids_of t.volumes) c.args.a.0 q (volume_seen s t q).fields.primary_partner c.args.t) (world_seen u t r new.events) (refusal_of c.feed_to.result)) (ap (λ (h : Head). h.primary_partner.0) c.peek_head.ensures)
    (ran-ends-in c.feed_to.result (armed_in s) (λ r. world_seen s t r j.events) (λ r. world_seen u t r new.events) (feed_stretches (ids_of t.volumes) c.args.a.0 b (volume_seen s t b).fields.primary_partner c.args.t) ran.leads ran.fails r)

pub returns-clause-rest : goal.returns-clause-rest
returns-clause-rest g c = c.feed_to.ensures.ran.at.rest

pub returns-clause-fit : goal.returns-clause-fit
returns-clause-fit g c = c.feed_to.ensures.ran.at.fit

pub returns-clause-unarmed : goal.returns-clause-unarmed
returns-clause-unarmed g c = c.feed_to.ensures.ran.unarmed

pub returns-clause-faults : goal.returns-clause-faults
returns-clause-faults g c = c.feed_to.ensures.ran.faults

pub returns-clause-on : goal.returns-clause-on
returns-clause-on g c = c.feed_to.ensures.ran.on

pub returns-clause-room : goal.returns-clause-room
returns-clause-room g c = c.feed_to.ensures.ran.room

pub returns-clause-room_left : goal.returns-clause-room_left
returns-clause-room_left g c = c.feed_to.ensures.ran.left

pub returns-clause-spare : goal.returns-clause-spare
returns-clause-spare g c = c.feed_to.ensures.ran.spare
