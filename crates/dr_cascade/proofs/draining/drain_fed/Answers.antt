use Rattle.std.proofs.Common.{ℕ, ◌≡◌, true, List, length, take, sym, subst}
use Rattle.std.specs.Prelude.{IfOk}
use Rattle.dr_model.specs.Carry.{Stretch}
use Rattle.dr_model.specs.Layout.{Fields}
use Rattle.dr_model.specs.PairEntries.{feeds, tracks_to_send}
use Rattle.dr_model.specs.Pairs.{is_cascaded}
use Rattle.dr_model.specs.Relations.{in_order}
use Rattle.dr_volume.specs.View.{volume_seen, ids_of}
use Rattle.dr_moves.specs.Followed.{EndsIn}
use Rattle.dr_moves.specs.Here.{world_seen, armed_in, refusal_of}
use Rattle.dr_gcopy.specs.Sending.{MayPair}
use Rattle.dr_cascade.specs.Feeding.{LeadsIn}
use Rattle.dr_cascade.proofs.FedLemmas.{ran-ends-in}
use Rattle.dr_cascade.proofs.draining.drain_fed.Goals as goal

pub drain_to-requires-clause-at : goal.drain_to-requires-clause-at
drain_to-requires-clause-at g c = record { rest = c.requires.rest; fit = c.requires.fit }

pub drain_to-requires-clause-cascaded : goal.drain_to-requires-clause-cascaded
drain_to-requires-clause-cascaded g c =
    subst (λ (f : Fields). is_cascaded (volume_seen (g.P.Plant.state c.args.plant.now) c.args.config.now f.primary_partner).fields ≡ true) (sym c.peek_fields-fields.ensures.fields) c.requires.cascaded

pub drain_to-requires-clause-pair : goal.drain_to-requires-clause-pair
drain_to-requires-clause-pair g c =
    subst (λ (f : Fields). MayPair (g.P.Plant.state c.args.plant.now) c.args.config.now c.args.a.0 f.primary_partner) (sym c.peek_fields-fields.ensures.fields) c.requires.pair

pub drain_to-requires-clause-next : goal.drain_to-requires-clause-next
drain_to-requires-clause-next g c =
    let s = g.P.Plant.state c.args.plant.now in
    let t = c.args.config.now in
    subst (λ (f : Fields). MayPair s t f.primary_partner (volume_seen s t f.primary_partner).fields.primary_partner) (sym c.peek_fields-fields.ensures.fields) c.requires.next

pub drain_to-requires-clause-room : goal.drain_to-requires-clause-room
drain_to-requires-clause-room g c k r u leads =
    let s = g.P.Plant.state c.args.plant.now in
    let t = c.args.config.now in
    c.requires.room k r u (subst (λ (ss : List Stretch). LeadsIn (world_seen s t r c.args.journal.now.events) ss u)
    (λ i. let f : Fields = c.peek_fields-fields.ensures.fields i in feeds (ids_of t.volumes) c.args.a.0 f.primary_partner (volume_seen s t f.primary_partner).fields.primary_partner (take k (in_order ((sym (c.tracks_of-n.ensures.seen s)) i) f.out_of_sync))) leads)

pub returns-clause-carried : goal.returns-clause-carried
returns-clause-carried g c r =
    let s = g.P.Plant.state c.args.plant.now in
    let u = g.P.Plant.state c.drain_to.new.plant in
    let t = c.args.config.now in
    let a = c.args.a.0 in
    let j = c.args.journal.now in
    let new = c.drain_to.new.journal in
    subst (λ (ss : List Stretch). EndsIn (armed_in s) (world_seen s t r j.events) ss (world_seen u t r new.events) (refusal_of c.drain_to.result))
    (λ i. let f : Fields = c.peek_fields-fields.ensures.fields i in feeds (ids_of t.volumes) a f.primary_partner (volume_seen s t f.primary_partner).fields.primary_partner (tracks_to_send c.args.most ((sym (c.tracks_of-n.ensures.seen s)) i) f.out_of_sync))
    (ran-ends-in c.drain_to.result (armed_in s) (λ r. world_seen s t r j.events) (λ r. world_seen u t r new.events)
    _ c.drain_to.ensures.leads c.drain_to.ensures.fails r)

pub returns-clause-count : goal.returns-clause-count
returns-clause-count g c =
    subst (λ (ts : List ℕ). IfOk c.drain_to.result (λ sent. sent ≡ length ts)) (λ i. tracks_to_send c.args.most ((sym (c.tracks_of-n.ensures.seen (g.P.Plant.state c.args.plant.now))) i) (c.peek_fields-fields.ensures.fields i).out_of_sync) c.drain_to.ensures.count

pub returns-clause-rest : goal.returns-clause-rest
returns-clause-rest g c = c.drain_to.ensures.at.rest

pub returns-clause-fit : goal.returns-clause-fit
returns-clause-fit g c = c.drain_to.ensures.at.fit
