use Rattle.std.proofs.Common.{subst}
use Rattle.dr_sweep.specs.Calls.{IsScriptOf}
use Rattle.dr_sweep.proofs.CallLemmas.{script-put, none-put}
use Rattle.dr_sweep.proofs.call.put_script.Goals as goal

pub returns-in-Ok-Some : goal.returns-in-Ok-Some
returns-in-Ok-Some g c =
    script-put g.K.Sink.written g.K.Sink.faults c.args.sink.now c.put_text.new.sink c.args.plan.now c.args.tried.now c.args.named c.in-Ok-Some.script (subst (IsScriptOf c.args.tried.now c.args.named) c.in-Ok-Some.field-0-is c.in-Ok-Some.ensures.is)
    c.bytes.result.now c.bytes.ensures c.put_text.result c.put_text.ensures

pub returns-in-Ok-None : goal.returns-in-Ok-None
returns-in-Ok-None g c =
    none-put g.K.Sink.written g.K.Sink.faults c.args.sink.now c.put_text-in-Ok-None.new.sink c.args.plan.now c.args.tried.now c.args.named (subst (IsScriptOf c.args.tried.now c.args.named) c.in-Ok-None.field-0-is c.in-Ok-None.ensures.is)
    c.put_text-in-Ok-None.result c.put_text-in-Ok-None.ensures
