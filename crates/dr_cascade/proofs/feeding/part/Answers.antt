use Rattle.std.proofs.Common.{[], ◌∷◌, ◌+◌, arith, ◌∙◌, inr, refl, Some}
use Rattle.dr_model.specs.PairEntries.{refuse_if, flashed_refusal, held_refusal, suspend_after}
use Rattle.dr_moves.specs.Here.{world_seen, armed_in}
use Rattle.dr_moves.proofs.FollowLemmas.{follows-wider}
use Rattle.dr_moves.proofs.KeptLemmas.{wider-armed}
use Rattle.dr_cascade.proofs.feeding.part.Goals as goal

pub refuse-given-requires-clause-room : goal.refuse-given-requires-clause-room
refuse-given-requires-clause-room g c = let a = c.requires.room in omega (arith, a)

pub follow_stop-requires-clause-room : goal.follow_stop-requires-clause-room
follow_stop-requires-clause-room g c = let a = c.requires.room in let b = c.refuse-given.ensures.room in omega (arith, a, b)

pub returns-clause-fails : goal.returns-clause-fails
returns-clause-fails g c r ts =
    let s = g.P.Plant.state c.args.plant.now in
    let m = g.P.Plant.state c.refuse-given.new.plant in
    let u = g.P.Plant.state c.follow_stop.new.plant in
    let t = c.args.config.now in
    let a = c.args.a.0 in
    let b = c.args.b.0 in
    let middle = world_seen m t r c.refuse-given.new.journal.events in
    inr (record {
      why = c.refuse-given.result;
      middle = middle;
      ends = c.refuse-given.ensures.fails r (refuse_if (flashed_refusal b) ∷ refuse_if (held_refusal b) ∷ []);
      followed = follows-wider (armed_in m) (armed_in s) (wider-armed s m c.refuse-given.ensures.unarmed) middle (Some c.refuse-given.result) (suspend_after a) (world_seen u t r c.follow_stop.new.journal.events) (c.follow_stop.ensures.follows r);
      refusal = refl;
    })

pub returns-clause-at : goal.returns-clause-at
returns-clause-at g c = record { rest = c.follow_stop.ensures.rest; fit = c.follow_stop.ensures.fit }

pub returns-clause-unarmed : goal.returns-clause-unarmed
returns-clause-unarmed g c q none = c.follow_stop.ensures.unarmed q (c.refuse-given.ensures.unarmed q none)

pub returns-clause-faults : goal.returns-clause-faults
returns-clause-faults g c = c.follow_stop.ensures.faults (g.P.Plant.state c.args.plant.now).faults c.refuse-given.ensures.faults

pub returns-clause-room : goal.returns-clause-room
returns-clause-room g c = let a = c.refuse-given.ensures.room in let b = c.follow_stop.ensures.room in omega (arith, a, b)

pub returns-clause-spare : goal.returns-clause-spare
returns-clause-spare g c = c.follow_stop.ensures.spare ∙ c.refuse-given.ensures.spare
