use Rattle.std.proofs.Common.{arith}
use Rattle.dr_moves.proofs.TurnLemmas.{ok-along}
use Rattle.dr_revert.proofs.TargetLemmas.{turn-may, turn-few, turn-refused, turn-others}
use Rattle.dr_revert.proofs.turning.turn_target.Goals as goal

pub act-requires-clause-may : goal.act-requires-clause-may
act-requires-clause-may g c = turn-may (g.P.Plant.state c.args.plant.now) c.args.config.now c.args.v.0 c.args.next.now c.requires.turns

pub act-requires-clause-room : goal.act-requires-clause-room
act-requires-clause-room g c =
    let few = turn-few (g.P.Plant.state c.args.plant.now) c.args.config.now c.args.v.0 c.args.next.now c.requires.turns in
    let room = c.requires.room in
    omega (arith, few, room)

pub returns-clause-refused : goal.returns-clause-refused
returns-clause-refused g c = turn-refused (g.P.Plant.state c.args.plant.now) c.args.config.now c.args.v.0 c.args.next.now c.requires.turns c.act.result c.act.ensures.acted.refused

pub returns-clause-others : goal.returns-clause-others
returns-clause-others g c = turn-others (g.P.Plant.state c.args.plant.now) c.args.config.now c.args.v.0 (g.P.Plant.state c.act.new.plant) c.args.next.now c.requires.turns c.act.ensures.acted.others

pub returns-clause-aside : goal.returns-clause-aside
returns-clause-aside g c = c.act.ensures.acted.kept.aside c.requires.aside

pub returns-clause-room : goal.returns-clause-room
returns-clause-room g c =
    let few = turn-few (g.P.Plant.state c.args.plant.now) c.args.config.now c.args.v.0 c.args.next.now c.requires.turns in
    let room = c.act.ensures.acted.kept.room in
    omega (arith, few, room)

pub returns-clause-room_left : goal.returns-clause-room_left
returns-clause-room_left g c =
    let few = turn-few (g.P.Plant.state c.args.plant.now) c.args.config.now c.args.v.0 c.args.next.now c.requires.turns in
    ok-along c.act.result c.act.ensures.acted.room_left (λ left. omega (arith, few, left))
