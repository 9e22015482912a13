use Rattle.std.proofs.Common.{true, cond, sym, subst, None}
use Rattle.dr_model.specs.PairEntries.{make_entries, first_differing}
use Rattle.dr_model.specs.ReadStops.{Ends}
use Rattle.dr_gcopy.specs.Kinds.{part_of}
use Rattle.dr_moves.specs.Here.{world_seen, refusal_of, armed_in}
use Rattle.dr_volume.specs.View.{volume_seen, track_seen}
use Rattle.dr_steps.proofs.pairs.make_by.Goals as goal

pub returns-then-cascade-clause-carried : goal.returns-then-cascade-clause-carried
returns-then-cascade-clause-carried g c r =
    let s = g.P.Plant.state c.args.plant.now in
    let t = c.args.config.now in
    let a = c.args.a.0 in
    let b = c.args.b.0 in
    let w = world_seen s t r c.args.journal.now.events in
    let u = world_seen (g.P.Plant.state c.make_cascade.new.plant) t r c.make_cascade.new.journal.events in
    let differing = cond c.args.full None (first_differing (track_seen s t) (volume_seen s t a).tracks a b) in
    subst (λ x. Ends (armed_in s) u (refusal_of c.make_cascade.result) w (make_entries w.control a b (part_of c.args.kind) x c.args.full differing)) (sym c.if-cascade.true)
    (subst (λ k. Ends (armed_in s) u (refusal_of c.make_cascade.result) w (make_entries w.control a b k true c.args.full differing)) (sym (c.requires.only c.if-cascade.true)) (c.make_cascade.ensures.carried r))

pub returns-clause-carried : goal.returns-clause-carried
returns-clause-carried g c r =
    let s = g.P.Plant.state c.args.plant.now in
    let t = c.args.config.now in
    let a = c.args.a.0 in
    let b = c.args.b.0 in
    let w = world_seen s t r c.args.journal.now.events in
    let u = world_seen (g.P.Plant.state c.make_pair.new.plant) t r c.make_pair.new.journal.events in
    let differing = cond c.args.full None (first_differing (track_seen s t) (volume_seen s t a).tracks a b) in
    subst (λ x. Ends (armed_in s) u (refusal_of c.make_pair.result) w (make_entries w.control a b (part_of c.args.kind) x c.args.full differing)) (sym c.if-cascade.false) (c.make_pair.ensures.carried r)
