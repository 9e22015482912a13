use Rattle.std.proofs.Common.{length, ◌≤◌, arith}
use Rattle.std.proofs.lemmas.Grind.{common_steps}
use Rattle.dr_io.proofs.ReadingLemmas.{room_length, take_within}
use Rattle.dr_io.proofs.ReadingSteps.{fills}
use Rattle.dr_io.proofs.ahead.Ahead.fill.Goals as goal

pub returns : goal.returns
returns g c =
    let calls = c.in_ok-taken.ensures in
    let room = room_length c.self.inside.bytes c.args.room c.self.told c.requires.some c.requires.piece in
    let within : c.in_ok-taken.taken ≤ length c.take.new.into = grind (arith, common_steps, c.in_ok-taken.ensures.count) in
    fills g.S.Source.left g.S.Source.faults c.args.source.now c.take.new.self c.take.new.into _ c.args.room c.in_ok-taken.taken within
    (take_within c.self.inside.bytes c.args.room c.in_ok-taken.taken c.in_ok-taken.ensures.count)
    c.in_ok-taken.ensures.given c.in_ok-taken.ensures.rest (λ none told h. (c.in_ok-taken.ensures.end told h room).0 none) c.in_ok-taken.ensures.silent c.in_ok-taken.ensures.steady
