use Rattle.std.proofs.Common.{◌≡◌, ◌<◌, ◌+◌, [], take, drop, arith, inl, inr, refl, ap, sym, subst, ◌∙◌, None, Some}
use Rattle.std.proofs.Math.Numerals.{suc-eq-add-one}
use Rattle.dr_model.specs.Layout.{Fields, is_part}
use Rattle.dr_model.specs.PairEntries.{send_entries, sends, suspend_after, tracks_to_send}
use Rattle.dr_model.specs.Relations.{in_order}
use Rattle.dr_model.specs.Messages.{no_flight}
use Rattle.dr_volume.specs.View.{Rest, ids_of}
use Rattle.dr_moves.specs.Here.{world_seen, armed_in}
use Rattle.dr_moves.specs.Turns.{Leads}
use Rattle.dr_moves.proofs.KeptLemmas.{wider-armed}
use Rattle.dr_moves.proofs.TurnLemmas.{refused-by}
use Rattle.dr_moves.specs.Followed.{FailsFollowed}
use Rattle.dr_moves.proofs.FollowLemmas.{failed-wider}
use Rattle.dr_gcopy.proofs.DrainLemmas.{Within, sent-next, sent-failed, all-sent, end-sent, count-sent, next-sent, within-next, in_order-next, first-some, first-none, take-next, drop-next, more-next}
use Rattle.dr_gcopy.proofs.SendLemmas.{same-tracks}
use Rattle.dr_gcopy.proofs.TwoMoves.{server-stays, still-running}
use Rattle.dr_gcopy.proofs.draining.drain_to.Goals as goal
use Rattle.dr_logic.proofs.Results.{err-always}

pub returns-then-is_enough-clause-leads : goal.returns-then-is_enough-clause-leads
returns-then-is_enough-clause-leads g c r =
    subst (λ ts. Leads (world_seen (g.P.Plant.state c.args.plant.now) c.args.config.now r c.args.journal.now.events) (sends (ids_of c.args.config.now.volumes) c.args.a.0 c.args.b.0 ts) (world_seen (g.P.Plant.state c.loop-sent.plant) c.args.config.now r c.loop-sent.journal.events)) (all-sent c.args.n c.args.out_of_sync.now c.loop-sent.sent c.args.most c.loop-sent.invariant.within (inl (sym c.is_enough.ensures ∙ c.if-is_enough.true))) (c.loop-sent.invariant.led r)

pub returns-then-is_enough-clause-count : goal.returns-then-is_enough-clause-count
returns-then-is_enough-clause-count g c =
    count-sent c.args.n c.args.out_of_sync.now c.loop-sent.sent c.args.most c.loop-sent.invariant.few (all-sent c.args.n c.args.out_of_sync.now c.loop-sent.sent c.args.most c.loop-sent.invariant.within (inl (sym c.is_enough.ensures ∙ c.if-is_enough.true)))

pub returns-in_default-clause-leads : goal.returns-in_default-clause-leads
returns-in_default-clause-leads g c r =
    subst (λ ts. Leads (world_seen (g.P.Plant.state c.args.plant.now) c.args.config.now r c.args.journal.now.events) (sends (ids_of c.args.config.now.volumes) c.args.a.0 c.args.b.0 ts) (world_seen (g.P.Plant.state c.loop-sent.plant) c.args.config.now r c.loop-sent.journal.events)) (all-sent c.args.n c.args.out_of_sync.now c.loop-sent.sent c.args.most c.loop-sent.invariant.within (inr (c.loop-sent.invariant.left ∙ first-none (in_order c.args.n c.loop-sent.left) c.in_default.ensures.lowest))) (c.loop-sent.invariant.led r)

pub returns-in_default-clause-count : goal.returns-in_default-clause-count
returns-in_default-clause-count g c =
    count-sent c.args.n c.args.out_of_sync.now c.loop-sent.sent c.args.most c.loop-sent.invariant.few (all-sent c.args.n c.args.out_of_sync.now c.loop-sent.sent c.args.most c.loop-sent.invariant.within (inr (c.loop-sent.invariant.left ∙ first-none (in_order c.args.n c.loop-sent.left) c.in_default.ensures.lowest)))

pub returns-clause-leads : goal.returns-clause-leads
returns-clause-leads g c r =
    subst (λ ts. Leads (world_seen (g.P.Plant.state c.args.plant.now) c.args.config.now r c.args.journal.now.events) (sends (ids_of c.args.config.now.volumes) c.args.a.0 c.args.b.0 ts) (world_seen (g.P.Plant.state c.loop-sent.plant) c.args.config.now r c.loop-sent.journal.events)) (end-sent c.args.n c.args.out_of_sync.now c.loop-sent.sent c.args.most c.loop-sent.invariant.within (let f = c.loop-sent-test.false in omega (arith, f))) (c.loop-sent.invariant.led r)

pub returns-clause-count : goal.returns-clause-count
returns-clause-count g c =
    let end : c.args.n ≡ c.loop-sent.sent = (let e = c.loop-sent.auto.sent-end in let f = c.loop-sent-test.false in omega (arith, e, f)) in
    end ∙ count-sent c.args.n c.args.out_of_sync.now c.loop-sent.sent c.args.most c.loop-sent.invariant.few (end-sent c.args.n c.args.out_of_sync.now c.loop-sent.sent c.args.most c.loop-sent.invariant.within (let f = c.loop-sent-test.false in omega (arith, f)))

pub returns-in_err-send_to-clause-fails : goal.returns-in_err-send_to-clause-fails
returns-in_err-send_to-clause-fails g c =
    err-always c.from_residual.result (λ r.
    let nx = next-sent c.args.n c.args.out_of_sync.now c.loop-sent.sent c.args.most c.in-Some.t (drop 1 (in_order c.args.n c.loop-sent.left)) (c.loop-sent.invariant.left ∙ first-some (in_order c.args.n c.loop-sent.left) c.in-Some.t c.in-Some.ensures.lowest) (sym c.is_enough.ensures ∙ c.if-is_enough.false) in
    subst (λ e. FailsFollowed (armed_in (g.P.Plant.state c.args.plant.now)) (world_seen (g.P.Plant.state c.args.plant.now) c.args.config.now r c.args.journal.now.events) (sends (ids_of c.args.config.now.volumes) c.args.a.0 c.args.b.0 (tracks_to_send c.args.most c.args.n c.args.out_of_sync.now)) (suspend_after c.args.a.0) (world_seen (g.P.Plant.state c.send_to.new.plant) c.args.config.now r c.send_to.new.journal.events) e) (sym (refused-by c.from_residual.result c.in_err-send_to.field-0.0 c.from_residual.ensures.0 c.from_residual.ensures.1))
    (subst (λ ts. FailsFollowed (armed_in (g.P.Plant.state c.args.plant.now)) (world_seen (g.P.Plant.state c.args.plant.now) c.args.config.now r c.args.journal.now.events) (sends (ids_of c.args.config.now.volumes) c.args.a.0 c.args.b.0 ts) (suspend_after c.args.a.0) (world_seen (g.P.Plant.state c.send_to.new.plant) c.args.config.now r c.send_to.new.journal.events) (Some c.in_err-send_to.field-0.0)) (sym nx.1)
    (sent-failed (armed_in (g.P.Plant.state c.args.plant.now)) (ids_of c.args.config.now.volumes) c.args.a.0 c.args.b.0 c.in-Some.t (take c.loop-sent.sent (in_order c.args.n c.args.out_of_sync.now)) nx.0 (world_seen (g.P.Plant.state c.args.plant.now) c.args.config.now r c.args.journal.now.events) (world_seen (g.P.Plant.state c.loop-sent.plant) c.args.config.now r c.loop-sent.journal.events) (world_seen (g.P.Plant.state c.send_to.new.plant) c.args.config.now r c.send_to.new.journal.events) (suspend_after c.args.a.0) (Some c.in_err-send_to.field-0.0) (c.loop-sent.invariant.led r)
    (failed-wider (armed_in (g.P.Plant.state c.loop-sent.plant)) (armed_in (g.P.Plant.state c.args.plant.now)) (wider-armed (g.P.Plant.state c.args.plant.now) (g.P.Plant.state c.loop-sent.plant) c.loop-sent.invariant.unarmed) (world_seen (g.P.Plant.state c.loop-sent.plant) c.args.config.now r c.loop-sent.journal.events) (world_seen (g.P.Plant.state c.send_to.new.plant) c.args.config.now r c.send_to.new.journal.events) (send_entries (ids_of c.args.config.now.volumes) c.args.a.0 c.args.b.0 c.in-Some.t) (suspend_after c.args.a.0) (Some c.in_err-send_to.field-0.0) (c.in_err-send_to.ensures.fails r)))))

pub loop-sent-init : goal.loop-sent-init
loop-sent-init g c =
    let r : Rest = record { issued = 0; pending = []; sessions = []; flight = no_flight; events = [] } in
    let h = c.requires.room 0 r (world_seen (g.P.Plant.state c.args.plant.now) c.args.config.now r c.args.journal.now.events) (λ armed u q ds ends. ends) in
    record {
      led = λ r armed u q ds ends. ends;
      left = refl;
      few = omega arith;
      within = elim c.args.most as (λ o. Within o 0) [ None ↦ tt | Some m ↦ omega arith ];
      rest = c.requires.rest;
      fit = c.requires.fit;
      unarmed = λ q none. none;
      on = refl;
      faults = refl;
      room = omega (arith, h);
      primary = c.requires.primary;
      spare = refl;
    }

pub loop-sent-preserved : goal.loop-sent-preserved
loop-sent-preserved g c =
    let led = λ (r : Rest). subst (λ ts. Leads (world_seen (g.P.Plant.state c.args.plant.now) c.args.config.now r c.args.journal.now.events) (sends (ids_of c.args.config.now.volumes) c.args.a.0 c.args.b.0 ts) (world_seen (g.P.Plant.state c.send_to.new.plant) c.args.config.now r c.send_to.new.journal.events)) (sym (take-next (in_order c.args.n c.args.out_of_sync.now) c.loop-sent.sent c.in-Some.t (drop 1 (in_order c.args.n c.loop-sent.left)) (c.loop-sent.invariant.left ∙ first-some (in_order c.args.n c.loop-sent.left) c.in-Some.t c.in-Some.ensures.lowest)) ∙ ap (λ k. take k (in_order c.args.n c.args.out_of_sync.now)) (suc-eq-add-one c.loop-sent.sent)) (sent-next (ids_of c.args.config.now.volumes) c.args.a.0 c.args.b.0 c.in-Some.t (take c.loop-sent.sent (in_order c.args.n c.args.out_of_sync.now)) (world_seen (g.P.Plant.state c.args.plant.now) c.args.config.now r c.args.journal.now.events) (world_seen (g.P.Plant.state c.loop-sent.plant) c.args.config.now r c.loop-sent.journal.events) (world_seen (g.P.Plant.state c.send_to.new.plant) c.args.config.now r c.send_to.new.journal.events) (c.loop-sent.invariant.led r) (c.in_ok-send_to.ensures.leads r)) in
    let r : Rest = record { issued = 0; pending = []; sessions = []; flight = no_flight; events = [] } in
    let h = c.requires.room (c.loop-sent.sent + 1) r (world_seen (g.P.Plant.state c.send_to.new.plant) c.args.config.now r c.send_to.new.journal.events) (led r) in
    let sum = c.in_ok-send_to.ensures.spare ∙ c.loop-sent.invariant.spare in
    record {
      led = led;
      left = sym (ap (λ k. drop k (in_order c.args.n c.args.out_of_sync.now)) (suc-eq-add-one c.loop-sent.sent)) ∙ drop-next (in_order c.args.n c.args.out_of_sync.now) c.loop-sent.sent c.in-Some.t (drop 1 (in_order c.args.n c.loop-sent.left)) (c.loop-sent.invariant.left ∙ first-some (in_order c.args.n c.loop-sent.left) c.in-Some.t c.in-Some.ensures.lowest) ∙ sym (in_order-next c.args.n c.in-Some.t c.loop-sent.left (drop 1 (in_order c.args.n c.loop-sent.left)) (first-some (in_order c.args.n c.loop-sent.left) c.in-Some.t c.in-Some.ensures.lowest)) ∙ ap (in_order c.args.n) (sym c.remove.ensures);
      few = let more = more-next (in_order c.args.n c.args.out_of_sync.now) c.loop-sent.sent c.in-Some.t (drop 1 (in_order c.args.n c.loop-sent.left)) (c.loop-sent.invariant.left ∙ first-some (in_order c.args.n c.loop-sent.left) c.in-Some.t c.in-Some.ensures.lowest) in omega (arith, more);
      within = within-next c.args.most c.loop-sent.sent (sym c.is_enough.ensures ∙ c.if-is_enough.false);
      rest = c.in_ok-send_to.ensures.rest;
      fit = c.in_ok-send_to.ensures.fit;
      unarmed = λ q none. c.in_ok-send_to.ensures.unarmed q (c.loop-sent.invariant.unarmed q none);
      on = c.in_ok-send_to.ensures.on ∙ c.loop-sent.invariant.on;
      faults = c.in_ok-send_to.ensures.faults ∙ c.loop-sent.invariant.faults;
      room = omega (arith, h, sum);
      primary = ap (λ (f : Fields). is_part f.primary) c.in_ok-send_to.ensures.struck ∙ c.loop-sent.invariant.primary;
      spare = c.in_ok-send_to.ensures.spare ∙ c.loop-sent.invariant.spare;
    }

pub send_to-requires-clause-running : goal.send_to-requires-clause-running
send_to-requires-clause-running g c =
    still-running (g.P.Plant.state c.args.plant.now) (g.P.Plant.state c.loop-sent.plant) c.args.config.now c.args.a.0 c.requires.from c.loop-sent.invariant.on c.requires.running

pub send_to-requires-clause-two_servers : goal.send_to-requires-clause-two_servers
send_to-requires-clause-two_servers g c =
    let s = g.P.Plant.state c.args.plant.now in let u = g.P.Plant.state c.loop-sent.plant in let t = c.args.config.now in
    λ same. c.requires.two_servers (sym (server-stays s u t c.args.a.0 c.requires.from) ∙ same ∙ server-stays s u t c.args.b.0 c.requires.to)

pub send_to-requires-clause-within : goal.send_to-requires-clause-within
send_to-requires-clause-within g c =
    let s = g.P.Plant.state c.args.plant.now in let u = g.P.Plant.state c.loop-sent.plant in let t = c.args.config.now in
    subst (λ n. c.in-Some.t < n) (sym c.requires.tracks ∙ same-tracks s u t c.args.a.0) c.in-Some.ensures.within

pub send_to-requires-clause-size : goal.send_to-requires-clause-size
send_to-requires-clause-size g c =
    let s = g.P.Plant.state c.args.plant.now in let u = g.P.Plant.state c.loop-sent.plant in let t = c.args.config.now in
    same-tracks u s t c.args.b.0 ∙ c.requires.size ∙ same-tracks s u t c.args.a.0
