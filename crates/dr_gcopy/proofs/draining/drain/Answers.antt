use Rattle.std.proofs.Common.{ℕ, ◌≡◌, List, length, take, sym, subst}
use Rattle.std.specs.Prelude.{IfOk, OnOk, OnErr}
use Rattle.dr_model.specs.Carry.{Entry}
use Rattle.dr_model.specs.PairEntries.{sends, suspend_after, tracks_to_send}
use Rattle.dr_model.specs.Relations.{in_order}
use Rattle.dr_volume.specs.View.{Rest, volume_seen, ids_of}
use Rattle.dr_moves.specs.Here.{world_seen, armed_in, refusal_of}
use Rattle.dr_moves.specs.Turns.{Leads}
use Rattle.dr_moves.specs.Followed.{FailsFollowed}
use Rattle.dr_moves.proofs.FollowLemmas.{followed-by}
use Rattle.dr_gcopy.proofs.draining.drain.Goals as goal

pub drain_to-requires-clause-room : goal.drain_to-requires-clause-room
drain_to-requires-clause-room g c k r u leads =
    c.requires.room k r u (subst (λ (es : List Entry). Leads (world_seen (g.P.Plant.state c.args.plant.now) c.args.config.now r c.args.journal.now.events) es u) (λ i. sends (ids_of c.args.config.now.volumes) c.args.a.0 (c.peek_fields-fields.ensures.fields i).primary_partner (take k (in_order ((sym (c.tracks_of-n.ensures.seen (g.P.Plant.state c.args.plant.now))) i) (c.peek_fields-fields.ensures.fields i).out_of_sync))) leads)

pub returns-clause-leads : goal.returns-clause-leads
returns-clause-leads g c =
    subst (λ (es : List Entry). OnOk c.drain_to.result ((r : Rest) → Leads (world_seen (g.P.Plant.state c.args.plant.now) c.args.config.now r c.args.journal.now.events) es (world_seen (g.P.Plant.state c.drain_to.new.plant) c.args.config.now r c.drain_to.new.journal.events))) (λ i. sends (ids_of c.args.config.now.volumes) c.args.a.0 (c.peek_fields-fields.ensures.fields i).primary_partner (tracks_to_send c.args.most ((sym (c.tracks_of-n.ensures.seen (g.P.Plant.state c.args.plant.now))) i) (c.peek_fields-fields.ensures.fields i).out_of_sync)) c.drain_to.ensures.leads

pub returns-clause-fails : goal.returns-clause-fails
returns-clause-fails g c =
    subst (λ (es : List Entry). OnErr c.drain_to.result ((r : Rest) → FailsFollowed (armed_in (g.P.Plant.state c.args.plant.now)) (world_seen (g.P.Plant.state c.args.plant.now) c.args.config.now r c.args.journal.now.events) es (suspend_after c.args.a.0) (world_seen (g.P.Plant.state c.drain_to.new.plant) c.args.config.now r c.drain_to.new.journal.events) (refusal_of c.drain_to.result))) (λ i. sends (ids_of c.args.config.now.volumes) c.args.a.0 (c.peek_fields-fields.ensures.fields i).primary_partner (tracks_to_send c.args.most ((sym (c.tracks_of-n.ensures.seen (g.P.Plant.state c.args.plant.now))) i) (c.peek_fields-fields.ensures.fields i).out_of_sync)) c.drain_to.ensures.fails

pub returns-clause-carried : goal.returns-clause-carried
returns-clause-carried g c =
    let s = g.P.Plant.state c.args.plant.now in
    let t = c.args.config.now in
    let x = volume_seen s t c.args.a.0 in
    followed-by c.drain_to.result (armed_in s) (λ r. world_seen s t r c.args.journal.now.events) (λ r. world_seen (g.P.Plant.state c.drain_to.new.plant) t r c.drain_to.new.journal.events)
    (sends (ids_of t.volumes) c.args.a.0 x.fields.primary_partner (tracks_to_send c.args.most x.tracks x.fields.out_of_sync)) (suspend_after c.args.a.0) (returns-clause-leads g c) (returns-clause-fails g c)

pub returns-clause-count : goal.returns-clause-count
returns-clause-count g c =
    subst (λ (ts : List ℕ). IfOk c.drain_to.result (λ sent. sent ≡ length ts)) (λ i. (tracks_to_send c.args.most ((sym (c.tracks_of-n.ensures.seen (g.P.Plant.state c.args.plant.now))) i) (c.peek_fields-fields.ensures.fields i).out_of_sync)) c.drain_to.ensures.count
