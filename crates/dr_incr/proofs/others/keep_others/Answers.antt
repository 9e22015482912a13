use Rattle.std.proofs.Common.{◌≡◌, ◌++◌, ◌+◌, arith, ap, sym, subst, ◌∙◌, Some, option_map}
use Rattle.dr_ids.specs.declared.names.VolumeId.{VolumeId}
use Rattle.dr_model.specs.Control.{Volume}
use Rattle.dr_model.specs.Relations.{lowest}
use Rattle.dr_model.specs.Entries.{copies_from, keep_on, for_lowest}
use Rattle.dr_model.specs.ReadStops.{Ends}
use Rattle.dr_model.specs.Refusals.{stopped}
use Rattle.dr_volume.specs.View.{volume_seen, ids_of}
use Rattle.dr_moves.specs.Here.{world_seen, armed_in}
use Rattle.dr_moves.proofs.KeptLemmas.{before-then, wider-armed}
use Rattle.dr_flash.proofs.CopyLemmas.{volume-there, no-own}
use Rattle.dr_facts.proofs.Ends.{ends-wider, ends-alike}
use Rattle.dr_moves.proofs.TurnLemmas.{refused-by}
use Rattle.dr_incr.specs.Steps.{keeps_of}
use Rattle.dr_incr.proofs.StepLemmas.{lowest-entry}
use Rattle.dr_incr.proofs.TargetLemmas.{keeps_left, keeps_left-next, keeps_left-none, not-kept}
use Rattle.dr_incr.proofs.others.keep_others.Goals as goal
use Rattle.dr_logic.proofs.Results.{err-always}

pub unwrap-u-requires : goal.unwrap-u-requires
unwrap-u-requires g c = volume-there c.args.config.now c.loop-place.place c.volume_at.result c.volume_at.ensures.value (let e = c.volumes-place-end.ensures.count in let f = c.loop-place-test.true in omega (arith, e, f))

pub keep_on-requires-clause-running : goal.keep_on-requires-clause-running
keep_on-requires-clause-running g c =
    let s = g.P.Plant.state c.args.plant.now in
    let same = c.loop-place.invariant.others c.args.s.0 (no-own s c.args.config.now c.args.s.0 c.requires.fit) in
    (λ i. c.loop-place.invariant.on i (same.volume i).server) ∙ c.requires.running

pub keep_on-requires-clause-within : goal.keep_on-requires-clause-within
keep_on-requires-clause-within g c =
    let s = g.P.Plant.state c.args.plant.now in
    let same = c.loop-place.invariant.others c.args.s.0 (no-own s c.args.config.now c.args.s.0 c.requires.fit) in
    let e : (volume_seen (g.P.Plant.state c.loop-place.plant) c.args.config.now c.args.s.0).tracks ≡ (volume_seen s c.args.config.now c.args.s.0).tracks = ap (λ (x : Volume). x.tracks) same.volume in
    let h = c.requires.within in
    omega (arith, e, h)

pub returns-in_err-keep_on-clause-fails : goal.returns-in_err-keep_on-clause-fails
returns-in_err-keep_on-clause-fails g c =
    let s0 = g.P.Plant.state c.args.plant.now in
    let s = g.P.Plant.state c.loop-place.plant in
    let t = c.args.config.now in
    let k = c.args.k in
    let v = c.args.s.0 in
    let z = c.args.t.0 in
    err-always c.from_residual.result (λ r ds.
    let u = world_seen (g.P.Plant.state c.keep_on.new.plant) t r c.keep_on.new.journal.events in
    let e = c.in_err-keep_on.field-0.0 in
    subst (λ q. Ends (armed_in s0) u q (world_seen s0 t r c.args.journal.now.events) (keeps_of (ids_of t.volumes) v z ++ ds)) (sym (refused-by c.from_residual.result e c.from_residual.ensures.0 c.from_residual.ensures.1))
    (c.loop-place.invariant.left r (armed_in s0) u (Some e) ds
    (subst (λ es. Ends (armed_in s0) u (Some e) (world_seen s t r c.loop-place.journal.events) (es ++ ds)) (sym (keeps_left-next t v z c.loop-place.place c.unwrap-u.result.0 (sym (ap (option_map (λ (v : VolumeId). v.0)) c.unwrap-u.ensures) ∙ c.volume_at.ensures.value)))
    (ends-alike (armed_in s0) u (Some e) (world_seen (g.P.Plant.state c.loop-place.plant) c.args.config.now r c.loop-place.journal.events) (for_lowest c.args.t.0 (λ k. keep_on c.args.s.0 k c.unwrap-u.result.0)) (keep_on c.args.s.0 c.args.k c.unwrap-u.result.0) (keeps_left t v z (c.loop-place.place + 1) ++ ds) (lowest-entry (g.P.Plant.state c.loop-place.plant) c.args.config.now r c.loop-place.journal.events c.args.t.0 c.args.k (λ k. keep_on c.args.s.0 k c.unwrap-u.result.0) ((λ i. lowest (c.loop-place.invariant.aside.volume i).tracks (c.loop-place.invariant.aside.volume i).fields.own) ∙ c.requires.held))
    (ends-wider (armed_in s) (armed_in s0) (wider-armed s0 s c.loop-place.invariant.unarmed) u (Some e) _ _ (c.in_err-keep_on.ensures.halts r (keeps_left t v z (c.loop-place.place + 1) ++ ds)))))))

pub returns-in_err-keep_on-clause-refused : goal.returns-in_err-keep_on-clause-refused
returns-in_err-keep_on-clause-refused g c =
    let s = g.P.Plant.state c.args.plant.now in
    let same = c.loop-place.invariant.others c.args.s.0 (no-own s c.args.config.now c.args.s.0 c.requires.fit) in
    err-always c.from_residual.result
    (refused-by c.from_residual.result c.in_err-keep_on.field-0.0 c.from_residual.ensures.0 c.from_residual.ensures.1 ∙ c.in_err-keep_on.ensures.refused ∙ ap (λ (x : Volume). Some (stopped x.server)) same.volume)

pub returns-in_err-keep_on-clause-unarmed : goal.returns-in_err-keep_on-clause-unarmed
returns-in_err-keep_on-clause-unarmed g c q none = c.in_err-keep_on.ensures.unarmed q (c.loop-place.invariant.unarmed q none)

pub returns-in_err-keep_on-clause-others : goal.returns-in_err-keep_on-clause-others
returns-in_err-keep_on-clause-others g c q other =
    let a = c.loop-place.invariant.others q other in
    before-then (g.P.Plant.state c.args.plant.now) (g.P.Plant.state c.loop-place.plant) (g.P.Plant.state c.keep_on.new.plant) c.args.config.now q a
    (c.in_err-keep_on.ensures.others q (ap (λ (x : Volume). copies_from c.args.s.0 x.fields) a.volume ∙ other))

pub loop-place-preserved : goal.loop-place-preserved
loop-place-preserved g c = record {
  left = λ r armed u r' ds more. c.loop-place.invariant.left r armed u r' ds
      (subst (λ es. Ends armed u r' (world_seen (g.P.Plant.state c.loop-place.plant) c.args.config.now r c.loop-place.journal.events) (es ++ ds)) (sym (keeps_left-next c.args.config.now c.args.s.0 c.args.t.0 c.loop-place.place c.unwrap-u.result.0 (sym (ap (option_map (λ (v : VolumeId). v.0)) c.unwrap-u.ensures) ∙ c.volume_at.ensures.value)))
      (ends-alike armed u r' (world_seen (g.P.Plant.state c.loop-place.plant) c.args.config.now r c.loop-place.journal.events) (for_lowest c.args.t.0 (λ k. keep_on c.args.s.0 k c.unwrap-u.result.0)) (keep_on c.args.s.0 c.args.k c.unwrap-u.result.0) (keeps_left c.args.config.now c.args.s.0 c.args.t.0 (c.loop-place.place + 1) ++ ds) (lowest-entry (g.P.Plant.state c.loop-place.plant) c.args.config.now r c.loop-place.journal.events c.args.t.0 c.args.k (λ k. keep_on c.args.s.0 k c.unwrap-u.result.0) ((λ i. lowest (c.loop-place.invariant.aside.volume i).tracks (c.loop-place.invariant.aside.volume i).fields.own) ∙ c.requires.held))
      (c.in_ok-keep_on.ensures.advances r armed u r' (keeps_left c.args.config.now c.args.s.0 c.args.t.0 (c.loop-place.place + 1) ++ ds) more)));
  rest = c.in_ok-keep_on.ensures.rest;
  fit = c.in_ok-keep_on.ensures.fit;
  unarmed = λ q none. c.in_ok-keep_on.ensures.unarmed q (c.loop-place.invariant.unarmed q none);
  faults = c.in_ok-keep_on.ensures.faults ∙ c.loop-place.invariant.faults;
  others = λ q other.
      let a = c.loop-place.invariant.others q other in
      before-then (g.P.Plant.state c.args.plant.now) (g.P.Plant.state c.loop-place.plant) (g.P.Plant.state c.keep_on.new.plant) c.args.config.now q a
      (c.in_ok-keep_on.ensures.others q (ap (λ (x : Volume). copies_from c.args.s.0 x.fields) a.volume ∙ other));
  on = c.in_ok-keep_on.ensures.on ∙ c.loop-place.invariant.on;
  room = let a = c.loop-place.invariant.room in let b = c.in_ok-keep_on.ensures.room_left in omega (arith, a, b);
  sum = c.in_ok-keep_on.ensures.spare ∙ c.loop-place.invariant.sum;
  aside = before-then (g.P.Plant.state c.args.plant.now) (g.P.Plant.state c.loop-place.plant) (g.P.Plant.state c.keep_on.new.plant) c.args.config.now c.args.t.0 c.loop-place.invariant.aside
      (c.in_ok-keep_on.ensures.apart c.args.t.0 (not-kept (copies_from c.args.s.0 (volume_seen (g.P.Plant.state c.loop-place.plant) c.args.config.now c.args.t.0).fields) _ (ap (λ (x : Volume). x.fields.reversing) c.loop-place.invariant.aside.volume ∙ c.requires.reversing)));
}

pub returns-clause-leads : goal.returns-clause-leads
returns-clause-leads g c r armed u r' ds more =
    c.loop-place.invariant.left r armed u r' ds
    (subst (λ es. Ends armed u r' (world_seen (g.P.Plant.state c.loop-place.plant) c.args.config.now r c.loop-place.journal.events) (es ++ ds))
    (sym (keeps_left-none c.args.config.now c.args.s.0 c.args.t.0 c.loop-place.place (let e = c.volumes-place-end.ensures.count in let f = c.loop-place-test.false in omega (arith, e, f)))) more)

pub returns-in_err-keep_on-clause-aside : goal.returns-in_err-keep_on-clause-aside
returns-in_err-keep_on-clause-aside g c =
    before-then (g.P.Plant.state c.args.plant.now) (g.P.Plant.state c.loop-place.plant) (g.P.Plant.state c.keep_on.new.plant) c.args.config.now c.args.t.0 c.loop-place.invariant.aside
    (c.in_err-keep_on.ensures.apart c.args.t.0 (not-kept (copies_from c.args.s.0 (volume_seen (g.P.Plant.state c.loop-place.plant) c.args.config.now c.args.t.0).fields) _ (ap (λ (x : Volume). x.fields.reversing) c.loop-place.invariant.aside.volume ∙ c.requires.reversing)))
