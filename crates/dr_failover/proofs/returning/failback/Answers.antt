use Rattle.std.proofs.Common.{ℕ, ◌≡◌, ◌≢◌, true, ◌&&◌, sym, subst, ◌∙◌, Some}
use Rattle.dr_model.specs.declared.state.Part.{Part}
use Rattle.dr_model.specs.PairEntries.{failback_entries}
use Rattle.dr_model.specs.Plans as plans
use Rattle.dr_model.specs.Pairs.{is_primary_of, is_kind}
use Rattle.dr_model.specs.ReadStops.{Ends}
use Rattle.dr_volume.specs.View.{volume_seen}
use Rattle.dr_moves.specs.Here.{world_seen, armed_in, refusal_of}
use Rattle.dr_moves.proofs.EntryLemmas.{ends-clear, ends-why, ends-by}
use Rattle.dr_moves.proofs.TurnLemmas.{ok-along}
use Rattle.dr_gcopy.specs.Kinds.{part_of}
use Rattle.dr_gcopy.proofs.PairChecks.{unless-stopped, servers-apart}
use Rattle.dr_gmirror.specs.Orders.{with_sessions}
use Rattle.dr_failover.specs.Steps.{failback_moves}
use Rattle.dr_failover.proofs.TurnedLemmas.{leads-partner}
use Rattle.dr_failover.proofs.FallenLemmas.{is-turned, alike-outside}
use Rattle.dr_failover.proofs.returning.failback.Goals as goal

pub returns-in-Some-clause-carried : goal.returns-in-Some-clause-carried
returns-in-Some-clause-carried g c r =
    let s = g.P.Plant.state c.args.plant.now in
    let ev = c.args.journal.now.events in
    let q = with_sessions c.args.ss.now.sessions r in
    let w = world_seen s c.args.config.now q ev in
    subst (λ (k : Part). Ends (armed_in s) w (Some c.in-Some.why) w (failback_entries w.control (plans.yield_refusal c.args.y.0) c.args.x.0 c.args.y.0 k)) c.part_of.ensures.part
    (c.in-Some.ensures.checked q ev (armed_in s) _)

pub returns-in-Some-yield_refusal-clause-carried : goal.returns-in-Some-yield_refusal-clause-carried
returns-in-Some-yield_refusal-clause-carried g c r =
    let s = g.P.Plant.state c.args.plant.now in
    let ev = c.args.journal.now.events in
    let q = with_sessions c.args.ss.now.sessions r in
    let w = world_seen s c.args.config.now q ev in
    subst (λ (k : Part). Ends (armed_in s) w (Some c.in-Some-yield_refusal.why) w (failback_entries w.control (plans.yield_refusal c.args.y.0) c.args.x.0 c.args.y.0 k)) c.part_of.ensures.part
    (c.in_default.ensures.checked q ev (armed_in s) w (Some c.in-Some-yield_refusal.why) _
    (ends-why (armed_in s) w (plans.yield_refusal c.args.y.0) c.in-Some-yield_refusal.why (failback_moves c.args.x.0 c.args.y.0) (sym (c.in-Some-yield_refusal.ensures.refusal r ev))))

pub turn_both-requires-clause-can : goal.turn_both-requires-clause-can
turn_both-requires-clause-can g c =
    let s = g.P.Plant.state c.args.plant.now in
    let t = c.args.config.now in
    let x = c.args.x.0 in
    let y = c.args.y.0 in
    let leads = leads-partner y c.part_of.result (volume_seen s t x).fields c.in_default.ensures.leads in
    record {
      running = c.in_default.ensures.running;
      size = subst (λ (y : ℕ). (volume_seen s t y).tracks ≡ (volume_seen s t x).tracks) leads.1 (c.requires.partner.size leads.0);
      follows = record {
        first = c.requires.first;
        second = c.requires.second;
        reached = c.in_default.ensures.reached;
        primary = leads.0;
        apart = λ is. servers-apart s t x y (subst (λ (y : ℕ). (volume_seen s t x).server ≢ (volume_seen s t y).server) leads.1 (c.requires.partner.apart leads.0)) (sym is);
      };
    }

pub returns-clause-carried : goal.returns-clause-carried
returns-clause-carried g c r =
    let s = g.P.Plant.state c.args.plant.now in
    let u = g.P.Plant.state c.turn_both.new.plant in
    let t = c.args.config.now in
    let ev = c.args.journal.now.events in
    let q = with_sessions c.args.ss.now.sessions r in
    let w = world_seen s t q ev in
    let v = world_seen u t q c.turn_both.new.journal.events in
    let moves = failback_moves c.args.x.0 c.args.y.0 in
    subst (λ (k : Part). Ends (armed_in s) v (refusal_of c.turn_both.result) w (failback_entries w.control (plans.yield_refusal c.args.y.0) c.args.x.0 c.args.y.0 k)) c.part_of.ensures.part
    (c.in_default.ensures.checked q ev (armed_in s) v (refusal_of c.turn_both.result) _
    (ends-clear (armed_in s) v (refusal_of c.turn_both.result) w (plans.yield_refusal c.args.y.0) moves (sym (c.in_default-yield_refusal.ensures.refusal r ev))
    (ends-by c.turn_both.result (armed_in s) (λ r. world_seen s t r ev) (λ r. world_seen u t r c.turn_both.new.journal.events) (λ r. moves) c.turn_both.ensures.leads c.turn_both.ensures.fails q)))

pub returns-clause-unchanged : goal.returns-clause-unchanged
returns-clause-unchanged g c calm = unless-stopped _ c.turn_both.result c.turn_both.ensures.stops calm

pub returns-clause-turned : goal.returns-clause-turned
returns-clause-turned g c =
    let s = g.P.Plant.state c.args.plant.now in
    let t = c.args.config.now in
    let f = (volume_seen s t c.args.x.0).fields in
    let leads = subst (λ (k : Part). (is_primary_of c.args.y.0 f && is_kind k f.primary) ≡ true) c.part_of.ensures.part c.in_default.ensures.leads in
    ok-along c.turn_both.result c.turn_both.ensures.turned (λ turned. is-turned s (g.P.Plant.state c.turn_both.new.plant) t c.args.x.0 c.args.y.0 (part_of c.args.kind) leads turned)

pub returns-clause-tracks : goal.returns-clause-tracks
returns-clause-tracks g c r sound = c.turn_both.ensures.tracks (λ v. sound.rows.images.blank v)

pub returns-clause-differing : goal.returns-clause-differing
returns-clause-differing g c =
    let s = g.P.Plant.state c.args.plant.now in
    let u = g.P.Plant.state c.turn_both.new.plant in
    let t = c.args.config.now in
    let leads = leads-partner c.args.y.0 c.part_of.result (volume_seen s t c.args.x.0).fields c.in_default.ensures.leads in
    ok-along c.turn_both.result c.turn_both.ensures.turned (λ turned r sound k low none.
    let same = c.turn_both.ensures.tracks (λ v. sound.rows.images.blank v) in
    same c.args.x.0 k
    ∙ alike-outside s u t r c.args.journal.now.events c.args.x.0 c.args.y.0 sound leads.0 leads.1 c.in_default.ensures.led turned k low none
    ∙ sym (same c.args.y.0 k))
