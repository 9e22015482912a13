use Rattle.std.proofs.Common.{ℕ, ◌≡◌, ◌<◌, ◌≤◌, ◌+◌, true, ◌&&◌, inl, inr, [], ◌∷◌, ◌++◌, arith, ap, sym, subst, ◌∙◌, refl, take, drop, None, Some}
use Rattle.std.proofs.Math.Numerals.{suc-eq-add-one}
use Rattle.dr_model.specs.Layout.{is_part}
use Rattle.dr_model.specs.Messages.{no_flight}
use Rattle.dr_model.specs.PairEntries.{feeds, feed_stretches, tracks_to_send}
use Rattle.dr_model.specs.Relations.{in_order}
use Rattle.dr_volume.specs.View.{Rest, volume_seen, ids_of}
use Rattle.dr_moves.specs.Here.{world_seen, armed_in}
use Rattle.dr_moves.proofs.KeptLemmas.{wider-armed}
use Rattle.dr_moves.proofs.TurnLemmas.{refused-by}
use Rattle.dr_logic.proofs.Results.{err-always}
use Rattle.dr_gcopy.specs.Sending.{MayPair}
use Rattle.dr_gcopy.proofs.DrainLemmas.{Within, all-sent, end-sent, count-sent, next-sent, within-next, in_order-next, first-some, first-none, take-next, drop-next, more-next}
use Rattle.dr_gcopy.proofs.SendLemmas.{same-tracks}
use Rattle.dr_metro.proofs.WroteLemmas.{on-still, pair-still}
use Rattle.dr_cascade.specs.Feeding.{LeadsIn, FailsIn}
use Rattle.dr_cascade.proofs.FedLemmas.{feeds-next, feeds-failed, fails-in-wider, parts-then}
use Rattle.dr_cascade.proofs.draining.drain_to.Goals as goal

pub returns-then-is_enough-clause-leads : goal.returns-then-is_enough-clause-leads
returns-then-is_enough-clause-leads g c r =
    let s = g.P.Plant.state c.args.plant.now in
    let t = c.args.config.now in
    subst (λ ts. LeadsIn (world_seen s t r c.args.journal.now.events) (feeds (ids_of t.volumes) c.args.a.0 c.args.b.0 (volume_seen s t c.args.b.0).fields.primary_partner ts) (world_seen (g.P.Plant.state c.loop-sent.plant) t r c.loop-sent.journal.events))
    (all-sent c.args.n c.args.out_of_sync.now c.loop-sent.sent c.args.most c.loop-sent.invariant.within (inl (sym c.is_enough.ensures ∙ c.if-is_enough.true))) (c.loop-sent.invariant.led r)

pub returns-then-is_enough-clause-count : goal.returns-then-is_enough-clause-count
returns-then-is_enough-clause-count g c =
    count-sent c.args.n c.args.out_of_sync.now c.loop-sent.sent c.args.most c.loop-sent.invariant.few (all-sent c.args.n c.args.out_of_sync.now c.loop-sent.sent c.args.most c.loop-sent.invariant.within (inl (sym c.is_enough.ensures ∙ c.if-is_enough.true)))

pub returns-in_default-clause-leads : goal.returns-in_default-clause-leads
returns-in_default-clause-leads g c r =
    let s = g.P.Plant.state c.args.plant.now in
    let t = c.args.config.now in
    subst (λ ts. LeadsIn (world_seen s t r c.args.journal.now.events) (feeds (ids_of t.volumes) c.args.a.0 c.args.b.0 (volume_seen s t c.args.b.0).fields.primary_partner ts) (world_seen (g.P.Plant.state c.loop-sent.plant) t r c.loop-sent.journal.events))
    (all-sent c.args.n c.args.out_of_sync.now c.loop-sent.sent c.args.most c.loop-sent.invariant.within (inr (c.loop-sent.invariant.left ∙ first-none (in_order c.args.n c.loop-sent.left) c.in_default.ensures.lowest))) (c.loop-sent.invariant.led r)

pub returns-in_default-clause-count : goal.returns-in_default-clause-count
returns-in_default-clause-count g c =
    count-sent c.args.n c.args.out_of_sync.now c.loop-sent.sent c.args.most c.loop-sent.invariant.few (all-sent c.args.n c.args.out_of_sync.now c.loop-sent.sent c.args.most c.loop-sent.invariant.within (inr (c.loop-sent.invariant.left ∙ first-none (in_order c.args.n c.loop-sent.left) c.in_default.ensures.lowest)))

pub returns-clause-leads : goal.returns-clause-leads
returns-clause-leads g c r =
    let s = g.P.Plant.state c.args.plant.now in
    let t = c.args.config.now in
    subst (λ ts. LeadsIn (world_seen s t r c.args.journal.now.events) (feeds (ids_of t.volumes) c.args.a.0 c.args.b.0 (volume_seen s t c.args.b.0).fields.primary_partner ts) (world_seen (g.P.Plant.state c.loop-sent.plant) t r c.loop-sent.journal.events))
    (end-sent c.args.n c.args.out_of_sync.now c.loop-sent.sent c.args.most c.loop-sent.invariant.within (let f = c.loop-sent-test.false in omega (arith, f))) (c.loop-sent.invariant.led r)

pub returns-clause-count : goal.returns-clause-count
returns-clause-count g c =
    let end : c.args.n ≡ c.loop-sent.sent = (let e = c.loop-sent.auto.sent-end in let f = c.loop-sent-test.false in omega (arith, e, f)) in
    end ∙ count-sent c.args.n c.args.out_of_sync.now c.loop-sent.sent c.args.most c.loop-sent.invariant.few (end-sent c.args.n c.args.out_of_sync.now c.loop-sent.sent c.args.most c.loop-sent.invariant.within (let f = c.loop-sent-test.false in omega (arith, f)))

pub returns-in_err-feed_to-clause-fails : goal.returns-in_err-feed_to-clause-fails
returns-in_err-feed_to-clause-fails g c =
    err-always c.from_residual.result (λ r.
    let s = g.P.Plant.state c.args.plant.now in
    let m = g.P.Plant.state c.loop-sent.plant in
    let t = c.args.config.now in
    let a = c.args.a.0 in
    let b = c.args.b.0 in
    let z = (volume_seen s t b).fields.primary_partner in
    let ids = ids_of t.volumes in
    let k = c.in-Some.t in
    let why = c.in_err-feed_to.field-0.0 in
    let w = world_seen s t r c.args.journal.now.events in
    let v = world_seen m t r c.loop-sent.journal.events in
    let u = world_seen (g.P.Plant.state c.feed_to.new.plant) t r c.feed_to.new.journal.events in
    let nx = next-sent c.args.n c.args.out_of_sync.now c.loop-sent.sent c.args.most k (drop 1 (in_order c.args.n c.loop-sent.left)) (c.loop-sent.invariant.left ∙ first-some (in_order c.args.n c.loop-sent.left) k c.in-Some.ensures.lowest) (sym c.is_enough.ensures ∙ c.if-is_enough.false) in
    subst (λ e. FailsIn (armed_in s) w (feeds ids a b z (tracks_to_send c.args.most c.args.n c.args.out_of_sync.now)) u e) (sym (refused-by c.from_residual.result why c.from_residual.ensures.0 c.from_residual.ensures.1))
    (subst (λ ts. FailsIn (armed_in s) w (feeds ids a b z ts) u (Some why)) (sym nx.1)
    (feeds-failed ids a b z k (armed_in s) (take c.loop-sent.sent (in_order c.args.n c.args.out_of_sync.now)) nx.0 w v u (Some why) (c.loop-sent.invariant.led r)
    (fails-in-wider (armed_in m) (armed_in s) (wider-armed s m c.loop-sent.invariant.unarmed) v u (feed_stretches ids a b z k) (Some why)
    (subst (λ q. FailsIn (armed_in m) v (feed_stretches ids a b q k) u (Some why)) c.loop-sent.invariant.to_parts.primary_partner (c.in_err-feed_to.ensures.ran.fails r))))))

pub loop-sent-init : goal.loop-sent-init
loop-sent-init g c =
    let r : Rest = record { issued = 0; pending = []; sessions = []; flight = no_flight; events = [] } in
    let h = c.requires.room 0 r (world_seen (g.P.Plant.state c.args.plant.now) c.args.config.now r c.args.journal.now.events) (λ armed u q ts ends. ends) in
    record {
      led = λ r armed u q ts ends. ends;
      left = refl;
      few = omega arith;
      within = elim c.args.most as (λ o. Within o 0) [ None ↦ tt | Some m ↦ omega arith ];
      at = c.requires.at;
      unarmed = λ q none. none;
      on = refl;
      faults = refl;
      room = omega (arith, h);
      from_parts = record { primary = refl; primary_partner = refl; secondary = refl; secondary_partner = refl };
      to_parts = record { primary = refl; primary_partner = refl; secondary = refl; secondary_partner = refl };
      spare = refl;
    }

pub loop-sent-preserved : goal.loop-sent-preserved
loop-sent-preserved g c =
    let s = g.P.Plant.state c.args.plant.now in
    let m = g.P.Plant.state c.loop-sent.plant in
    let t = c.args.config.now in
    let a = c.args.a.0 in
    let b = c.args.b.0 in
    let z = (volume_seen s t b).fields.primary_partner in
    let ids = ids_of t.volumes in
    let k = c.in-Some.t in
    let xs = in_order c.args.n c.args.out_of_sync.now in
    let i = c.loop-sent.sent in
    let last = g.P.Plant.state c.feed_to.new.plant in
    let next = c.loop-sent.invariant.left ∙ first-some (in_order c.args.n c.loop-sent.left) k c.in-Some.ensures.lowest in
    let ok = c.in_ok-feed_to.ensures in
    let inv = c.loop-sent.invariant in
    let led = λ (r : Rest).
    let w = world_seen s t r c.args.journal.now.events in
    let v = world_seen m t r c.loop-sent.journal.events in
    let u = world_seen last t r c.feed_to.new.journal.events in
    subst (λ ts. LeadsIn w (feeds ids a b z ts) u) (sym (take-next xs i k (drop 1 (in_order c.args.n c.loop-sent.left)) next) ∙ ap (λ n. take n xs) (suc-eq-add-one i))
    (feeds-next ids a b z k (take i xs) w v u (inv.led r) (subst (λ q. LeadsIn v (feed_stretches ids a b q k) u) inv.to_parts.primary_partner (ok.ran.leads r))) in
    let r : Rest = record { issued = 0; pending = []; sessions = []; flight = no_flight; events = [] } in
    let h = c.requires.room (i + 1) r (world_seen last t r c.feed_to.new.journal.events) (led r) in
    let sum = ok.ran.spare ∙ inv.spare in
    record {
      led = led;
      left = sym (ap (λ n. drop n xs) (suc-eq-add-one i)) ∙ drop-next xs i k (drop 1 (in_order c.args.n c.loop-sent.left)) next ∙ sym (in_order-next c.args.n k c.loop-sent.left (drop 1 (in_order c.args.n c.loop-sent.left)) (first-some (in_order c.args.n c.loop-sent.left) k c.in-Some.ensures.lowest)) ∙ ap (in_order c.args.n) (sym c.remove.ensures);
      few = let more = more-next xs i k (drop 1 (in_order c.args.n c.loop-sent.left)) next in omega (arith, more);
      within = within-next c.args.most i (sym c.is_enough.ensures ∙ c.if-is_enough.false);
      at = ok.ran.at;
      unarmed = λ q none. ok.ran.unarmed q (inv.unarmed q none);
      on = ok.ran.on ∙ inv.on;
      faults = ok.ran.faults ∙ inv.faults;
      room = omega (arith, h, sum);
      from_parts = parts-then (volume_seen s t a).fields (volume_seen m t a).fields (volume_seen last t a).fields inv.from_parts ok.from_parts;
      to_parts = parts-then (volume_seen s t b).fields (volume_seen m t b).fields (volume_seen last t b).fields inv.to_parts ok.to_parts;
      spare = sum;
    }

pub feed_to-requires-clause-at : goal.feed_to-requires-clause-at
feed_to-requires-clause-at g c = c.loop-sent.invariant.at

pub feed_to-requires-clause-running : goal.feed_to-requires-clause-running
feed_to-requires-clause-running g c = on-still (g.P.Plant.state c.args.plant.now) (g.P.Plant.state c.loop-sent.plant) c.args.config.now c.args.a.0 c.loop-sent.invariant.on c.requires.running

pub feed_to-requires-clause-primary : goal.feed_to-requires-clause-primary
feed_to-requires-clause-primary g c = ap is_part c.loop-sent.invariant.from_parts.primary ∙ c.requires.primary

pub feed_to-requires-clause-cascaded : goal.feed_to-requires-clause-cascaded
feed_to-requires-clause-cascaded g c = let parts = c.loop-sent.invariant.to_parts in (λ i. is_part (parts.primary i) && is_part (parts.secondary i)) ∙ c.requires.cascaded

pub feed_to-requires-clause-pair : goal.feed_to-requires-clause-pair
feed_to-requires-clause-pair g c = pair-still (g.P.Plant.state c.args.plant.now) (g.P.Plant.state c.loop-sent.plant) c.args.config.now c.args.a.0 c.args.b.0 c.requires.pair

pub feed_to-requires-clause-next : goal.feed_to-requires-clause-next
feed_to-requires-clause-next g c =
    let s = g.P.Plant.state c.args.plant.now in
    let m = g.P.Plant.state c.loop-sent.plant in
    let t = c.args.config.now in
    subst (MayPair m t c.args.b.0) (sym c.loop-sent.invariant.to_parts.primary_partner) (pair-still s m t c.args.b.0 (volume_seen s t c.args.b.0).fields.primary_partner c.requires.next)

pub feed_to-requires-clause-within : goal.feed_to-requires-clause-within
feed_to-requires-clause-within g c =
    subst (λ n. c.in-Some.t < n) (sym c.requires.tracks ∙ same-tracks (g.P.Plant.state c.args.plant.now) (g.P.Plant.state c.loop-sent.plant) c.args.config.now c.args.a.0) c.in-Some.ensures.within

pub feed_to-requires-clause-room : goal.feed_to-requires-clause-room
feed_to-requires-clause-room g c = let a = c.loop-sent.invariant.room in omega (arith, a)

pub returns-in_err-feed_to-clause-room : goal.returns-in_err-feed_to-clause-room
returns-in_err-feed_to-clause-room g c = let a = c.loop-sent.invariant.room in let b = c.in_err-feed_to.ensures.ran.room in omega (arith, a, b)

pub returns-in_err-feed_to-clause-unarmed : goal.returns-in_err-feed_to-clause-unarmed
returns-in_err-feed_to-clause-unarmed g c q none = c.in_err-feed_to.ensures.ran.unarmed q (c.loop-sent.invariant.unarmed q none)
