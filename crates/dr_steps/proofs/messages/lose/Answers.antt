use Rattle.dr_steps.proofs.MessageLemmas.{lose-done, lose-refused}
use Rattle.dr_steps.proofs.messages.lose.Goals as goal

pub returns-in-Ok-clause-step : goal.returns-in-Ok-clause-step
returns-in-Ok-clause-step g c line =
    lose-done (g.P.Plant.state c.args.plant.now) c.args.config.now c.args.tables.now c.args.journal.now.events line c.args.message c.lose.new.self c.in-Ok.ensures.refused c.in-Ok.ensures.lost

pub returns-in-Err-clause-step : goal.returns-in-Err-clause-step
returns-in-Err-clause-step g c line =
    lose-refused (g.P.Plant.state c.args.plant.now) c.args.config.now c.args.tables.now c.args.journal.now.events line c.args.message c.lose.new.self c.in-Err.why c.in-Err.ensures.refused c.in-Err.ensures.same
