use Rattle.std.proofs.Common.{refl, subst}
use Rattle.dr_io.specs.Given.{Gave}
use Rattle.dr_top.proofs.OfflineLemmas.{reports-by}
use Rattle.dr_top.proofs.report.put_report.Goals as goal

pub returns-in-Ok : goal.returns-in-Ok
returns-in-Ok g c = reports-by g.K.Sink.written g.K.Sink.faults c.args.sink.now c.put_all.new.sink c.args.report.now c.args.report.now.status c.requires refl (subst (Gave g.K.Sink.written c.args.sink.now c.put_all.new.sink) c.bytes.ensures c.in-Ok.ensures.whole) c.in-Ok.ensures.faults
