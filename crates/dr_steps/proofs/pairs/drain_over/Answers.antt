use Rattle.std.proofs.Common.{◌≡◌, ◌≤◌, ◌+◌, true, false, length, arith, sym, subst, ◌∙◌, cond, [], ◌∷◌}
use Rattle.std.specs.Prelude.{is_some}
use Rattle.std.proofs.lemmas.Bool.{and_parts}
use Rattle.dr_config.specs.Table.{place_of}
use Rattle.dr_model.specs.PairEntries.{feeds, sends, suspend_after, tracks_to_send}
use Rattle.dr_volume.specs.declared.head.Head.{Head}
use Rattle.dr_volume.specs.View.{volume_seen, ids_of}
use Rattle.dr_moves.specs.Here.{armed_in, refusal_of}
use Rattle.dr_moves.specs.Followed.{EndsIn}
use Rattle.dr_steps.specs.Here.{here, rest_of}
use Rattle.dr_steps.proofs.RelationLemmas.{relations-fit, partners-fit}
use Rattle.dr_steps.proofs.DrainLemmas.{one-stretch, sends-tell, feeds-tell, is-cascaded, may-pair}
use Rattle.dr_steps.proofs.pairs.drain_over.Goals as goal

pub peek_head-requires-clause-defined : goal.peek_head-requires-clause-defined
peek_head-requires-clause-defined g c =
    let s = g.P.Plant.state c.args.plant.now in let t = c.args.config.now in let h = c.args.tables.now in let ev = c.args.journal.now.events in
    subst (λ (x : Head). is_some (place_of t x.primary_partner.0) ≡ true) (sym c.requires.head) ((partners-fit s t h ev c.requires.sound).defined c.args.a.0 c.requires.primary)

pub drain_fed-requires-clause-fit : goal.drain_fed-requires-clause-fit
drain_fed-requires-clause-fit g c = relations-fit (g.P.Plant.state c.args.plant.now) c.args.config.now c.args.tables.now c.args.journal.now.events c.requires.sound

pub drain_fed-requires-clause-cascaded : goal.drain_fed-requires-clause-cascaded
drain_fed-requires-clause-cascaded g c = is-cascaded (g.P.Plant.state c.args.plant.now) c.args.config.now c.args.a.0 true c.args.head.now c.peek_head.result c.requires.head c.peek_head.ensures (sym c.is_cascaded.ensures ∙ c.if-is_cascaded.true)

pub drain_fed-requires-clause-pair : goal.drain_fed-requires-clause-pair
drain_fed-requires-clause-pair g c = may-pair (g.P.Plant.state c.args.plant.now) c.args.config.now (partners-fit (g.P.Plant.state c.args.plant.now) c.args.config.now c.args.tables.now c.args.journal.now.events c.requires.sound) c.args.a.0 c.requires.primary

pub drain_fed-requires-clause-next : goal.drain_fed-requires-clause-next
drain_fed-requires-clause-next g c =
    let s = g.P.Plant.state c.args.plant.now in let t = c.args.config.now in
    may-pair s t (partners-fit s t c.args.tables.now c.args.journal.now.events c.requires.sound) (volume_seen s t c.args.a.0).fields.primary_partner
    (and_parts _ _ (is-cascaded s t c.args.a.0 true c.args.head.now c.peek_head.result c.requires.head c.peek_head.ensures (sym c.is_cascaded.ensures ∙ c.if-is_cascaded.true))).0

pub drain_fed-requires-clause-room : goal.drain_fed-requires-clause-room
drain_fed-requires-clause-room g c k r u leads =
    let s = g.P.Plant.state c.args.plant.now in let t = c.args.config.now in let h = c.args.tables.now in let ev = c.args.journal.now.events in
    let cascaded = is-cascaded s t c.args.a.0 true c.args.head.now c.peek_head.result c.requires.head c.peek_head.ensures (sym c.is_cascaded.ensures ∙ c.if-is_cascaded.true) in
    let tell : length u.events ≤ length ev + 7168 + 1 = feeds-tell s t h ev c.args.a.0 c.requires.ready.reads cascaded c.requires.sound c.requires.ready.rest k r u leads in
    let few = c.requires.few in
    let room = c.requires.room in
    omega (arith, tell, few, room)

pub returns-then-is_cascaded-clause-carried : goal.returns-then-is_cascaded-clause-carried
returns-then-is_cascaded-clause-carried g c =
    let s = g.P.Plant.state c.args.plant.now in let t = c.args.config.now in let h = c.args.tables.now in let ev = c.args.journal.now.events in
    let a = c.args.a.0 in
    let f = (volume_seen s t a).fields in
    let b = f.primary_partner in
    let ids = ids_of t.volumes in
    let ts = tracks_to_send c.args.most (volume_seen s t a).tracks f.out_of_sync in
    let cascaded = is-cascaded s t a true c.args.head.now c.peek_head.result c.requires.head c.peek_head.ensures (sym c.is_cascaded.ensures ∙ c.if-is_cascaded.true) in
    subst (λ x. EndsIn (armed_in s) (here s t h ev) (cond x (feeds ids a b (volume_seen s t b).fields.primary_partner ts) (record { entries = sends ids a b ts; follows = suspend_after a } ∷ [])) (here (g.P.Plant.state c.drain_fed.new.plant) t h c.drain_fed.new.journal.events) (refusal_of c.drain_fed.result)) (sym cascaded)
    (c.drain_fed.ensures.carried (rest_of h ev))

pub drain-requires-clause-fit : goal.drain-requires-clause-fit
drain-requires-clause-fit g c = relations-fit (g.P.Plant.state c.args.plant.now) c.args.config.now c.args.tables.now c.args.journal.now.events c.requires.sound

pub drain-requires-clause-to : goal.drain-requires-clause-to
drain-requires-clause-to g c = (partners-fit (g.P.Plant.state c.args.plant.now) c.args.config.now c.args.tables.now c.args.journal.now.events c.requires.sound).defined c.args.a.0 c.requires.primary

pub drain-requires-clause-two_servers : goal.drain-requires-clause-two_servers
drain-requires-clause-two_servers g c = (partners-fit (g.P.Plant.state c.args.plant.now) c.args.config.now c.args.tables.now c.args.journal.now.events c.requires.sound).apart c.args.a.0 c.requires.primary

pub drain-requires-clause-size : goal.drain-requires-clause-size
drain-requires-clause-size g c = (partners-fit (g.P.Plant.state c.args.plant.now) c.args.config.now c.args.tables.now c.args.journal.now.events c.requires.sound).same_tracks c.args.a.0 c.requires.primary

pub drain-requires-clause-room : goal.drain-requires-clause-room
drain-requires-clause-room g c k r u leads =
    let s = g.P.Plant.state c.args.plant.now in let t = c.args.config.now in let h = c.args.tables.now in let ev = c.args.journal.now.events in
    let alone = is-cascaded s t c.args.a.0 false c.args.head.now c.peek_head.result c.requires.head c.peek_head.ensures (sym c.is_cascaded.ensures ∙ c.if-is_cascaded.false) in
    let tell : length u.events ≤ length ev + 7168 + 1 = sends-tell s t h ev c.args.a.0 c.requires.ready.reads alone c.requires.sound c.requires.ready.rest k r u leads in
    let few = c.requires.few in
    let room = c.requires.room in
    omega (arith, tell, few, room)

pub returns-clause-carried : goal.returns-clause-carried
returns-clause-carried g c =
    let s = g.P.Plant.state c.args.plant.now in let t = c.args.config.now in let h = c.args.tables.now in let ev = c.args.journal.now.events in
    let a = c.args.a.0 in
    let f = (volume_seen s t a).fields in
    let b = f.primary_partner in
    let ids = ids_of t.volumes in
    let ts = tracks_to_send c.args.most (volume_seen s t a).tracks f.out_of_sync in
    let alone = is-cascaded s t a false c.args.head.now c.peek_head.result c.requires.head c.peek_head.ensures (sym c.is_cascaded.ensures ∙ c.if-is_cascaded.false) in
    let u = here (g.P.Plant.state c.drain.new.plant) t h c.drain.new.journal.events in
    subst (λ x. EndsIn (armed_in s) (here s t h ev) (cond x (feeds ids a b (volume_seen s t b).fields.primary_partner ts) (record { entries = sends ids a b ts; follows = suspend_after a } ∷ [])) u (refusal_of c.drain.result)) (sym alone)
    (one-stretch (armed_in s) (here s t h ev) (sends ids a b ts) (suspend_after a) u (refusal_of c.drain.result) (c.drain.ensures.carried (rest_of h ev)))
