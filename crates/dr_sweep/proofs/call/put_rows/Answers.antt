use Rattle.dr_sweep.proofs.CallLemmas.{reply-put}
use Rattle.dr_sweep.proofs.call.put_rows.Goals as goal

pub returns-in-Ok : goal.returns-in-Ok
returns-in-Ok g c =
    reply-put g.K.Sink.written g.K.Sink.faults c.args.sink.now c.put_text.new.sink c.args.plan.now c.args.tried.now c.args.view c.args.calm.now c.requires.calm c.args.rows.now c.requires.swept c.in-Ok.reply c.in-Ok.ensures
    c.bytes.result.now c.bytes.ensures c.put_text.result c.put_text.ensures
