use Rattle.std.proofs.Common.{◌∙◌}
use Rattle.dr_moves.specs.Here.{world_seen}
use Rattle.dr_gcopy.specs.Both.{second_of}
use Rattle.dr_gcopy.proofs.both.second_next.Goals as goal

pub returns-in-Remove-clause-comes : goal.returns-in-Remove-clause-comes
returns-in-Remove-clause-comes g c r events =
    (λ i. second_of c.args.a.0 c.args.b.0 (c.in-Remove.is i) (world_seen (g.P.Plant.state c.args.plant.now) c.args.config.now r events).control) ∙ c.let_go_next.ensures.comes r events

pub returns-in-Pause-clause-comes : goal.returns-in-Pause-clause-comes
returns-in-Pause-clause-comes g c r events =
    (λ i. second_of c.args.a.0 c.args.b.0 (c.in-Pause.is i) (world_seen (g.P.Plant.state c.args.plant.now) c.args.config.now r events).control) ∙ c.tell_next.ensures.comes r events
