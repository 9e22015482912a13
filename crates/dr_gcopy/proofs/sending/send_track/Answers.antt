use Rattle.std.proofs.Common.{ℕ, ◌≡◌, ◌≢◌, false, ap, subst}
use Rattle.std.specs.Prelude.{OnOk, OnErr}
use Rattle.dr_model.specs.Entries.{copies_from}
use Rattle.dr_model.specs.PairEntries.{send_entries, suspend_after}
use Rattle.dr_model.specs.Pairs.{is_last, received}
use Rattle.dr_volume.specs.declared.head.Head.{Head}
use Rattle.dr_volume.specs.Update.{IsAsBefore}
use Rattle.dr_volume.specs.View.{Rest, volume_seen, ids_of}
use Rattle.dr_moves.specs.Here.{world_seen, armed_in, refusal_of}
use Rattle.dr_moves.specs.Turns.{Leads}
use Rattle.dr_moves.specs.Followed.{FailsFollowed}
use Rattle.dr_moves.proofs.FollowLemmas.{followed-by}
use Rattle.dr_gcopy.proofs.sending.send_track.Goals as goal

pub returns-clause-leads : goal.returns-clause-leads
returns-clause-leads g c =
    subst (λ b. OnOk c.send_to.result ((r : Rest) → Leads (world_seen (g.P.Plant.state c.args.plant.now) c.args.config.now r c.args.journal.now.events) (send_entries (ids_of c.args.config.now.volumes) c.args.a.0 b c.args.t) (world_seen (g.P.Plant.state c.send_to.new.plant) c.args.config.now r c.send_to.new.journal.events))) (ap (λ (h : Head). h.primary_partner.0) c.peek_head.ensures) c.send_to.ensures.leads

pub returns-clause-fails : goal.returns-clause-fails
returns-clause-fails g c =
    subst (λ b. OnErr c.send_to.result ((r : Rest) → FailsFollowed (armed_in (g.P.Plant.state c.args.plant.now)) (world_seen (g.P.Plant.state c.args.plant.now) c.args.config.now r c.args.journal.now.events) (send_entries (ids_of c.args.config.now.volumes) c.args.a.0 b c.args.t) (suspend_after c.args.a.0) (world_seen (g.P.Plant.state c.send_to.new.plant) c.args.config.now r c.send_to.new.journal.events) (refusal_of c.send_to.result))) (ap (λ (h : Head). h.primary_partner.0) c.peek_head.ensures) c.send_to.ensures.fails

pub returns-clause-carried : goal.returns-clause-carried
returns-clause-carried g c =
    let s = g.P.Plant.state c.args.plant.now in
    let t = c.args.config.now in
    followed-by c.send_to.result (armed_in s) (λ r. world_seen s t r c.args.journal.now.events) (λ r. world_seen (g.P.Plant.state c.send_to.new.plant) t r c.send_to.new.journal.events)
    (send_entries (ids_of t.volumes) c.args.a.0 (volume_seen s t c.args.a.0).fields.primary_partner c.args.t) (suspend_after c.args.a.0) (returns-clause-leads g c) (returns-clause-fails g c)

pub returns-clause-others : goal.returns-clause-others
returns-clause-others g c =
    subst (λ b. (q : ℕ) → q ≢ c.args.a.0 → q ≢ b → copies_from b (volume_seen (g.P.Plant.state c.args.plant.now) c.args.config.now q).fields ≡ false → IsAsBefore (g.P.Plant.state c.args.plant.now) (g.P.Plant.state c.send_to.new.plant) c.args.config.now q) (ap (λ (h : Head). h.primary_partner.0) c.peek_head.ensures) c.send_to.ensures.others

pub returns-clause-stored : goal.returns-clause-stored
returns-clause-stored g c =
    let s = g.P.Plant.state c.args.plant.now in
    let t = c.args.config.now in
    subst (λ b. OnOk c.send_to.result ((volume_seen (g.P.Plant.state c.send_to.new.plant) t b).fields ≡ received (is_last (volume_seen s t c.args.a.0).fields c.args.t) (volume_seen s t b).fields c.args.t)) (ap (λ (h : Head). h.primary_partner.0) c.peek_head.ensures) c.send_to.ensures.stored
