use Rattle.std.proofs.Common.{subst}
use Rattle.std.specs.Str.Lines.{lines}
use Rattle.dr_sweep.specs.Calls.{EndsText}
use Rattle.dr_sweep.proofs.CallLemmas.{text-read}
use Rattle.dr_sweep.proofs.call.carry_out.Goals as goal

pub returns-in-Ok : goal.returns-in-Ok
returns-in-Ok g c =
    let ends = subst (λ text. EndsText g.K.Sink.written c.args.sink.now c.answer_text.new.sink g.K.Sink.faults (lines text) c.args.command.now c.answer_text.result) c.bytes.ensures c.answer_text.ensures in
    text-read g.S.Source.left g.K.Sink.written c.args.source.now c.read_text.new.source c.args.sink.now c.answer_text.new.sink g.S.Source.faults g.K.Sink.faults c.args.command.now
    c.in-Ok.text c.in-Ok.ensures.0 c.in-Ok.ensures.1 c.answer_text.result ends
