use Rattle.std.proofs.Common.{subst}
use Rattle.dr_config.specs.Table.{IsSoundConfig}
use Rattle.dr_top.proofs.TopLemmas.{begins, is-run}
use Rattle.dr_top.proofs.top.run.Goals as goal

pub run_lines-requires-clause-begins : goal.run_lines-requires-clause-begins
run_lines-requires-clause-begins g c = rw (c.new-config.ensures.empty, c.requires.empty) (begins (g.P.Plant.state c.args.plant.now) c.requires.fresh c.new-tables.result c.new-tables.ensures.host c.new-tables.ensures.sessions c.new-tables.ensures.flight)

pub returns : goal.returns
returns g c =
    let s = g.P.Plant.state c.run_lines.new.plant in
    is-run g.S.Source.left g.K.Sink.written c.args.source.now c.run_lines.new.source c.args.sink.now c.run_lines.new.sink g.S.Source.faults g.K.Sink.faults
    c.run_lines.result (g.P.Plant.state c.args.plant.now) s c.run_lines.new.config c.run_lines.new.tables c.run_lines.new.journal.events
    (subst IsSoundConfig c.config.view_is c.config.invariant) c.run_lines.ensures.ready c.run_lines.ensures.room c.run_lines.ensures.stops c.run_lines.ensures.ran
