use Rattle.std.proofs.Common.{arith}
use Rattle.dr_script.proofs.ReadLemmas.{command_found, command_passed, command_unknown}
use Rattle.dr_script.proofs.reading.named_in.Goals as goal

pub returns-then-eq : goal.returns-then-eq
returns-then-eq c =
    command_found c.args.all.now c.args.word.now c.command_word.result.now c.loop-command.command-index c.eq.result c.loop-command-test.true c.command_word.ensures c.eq.ensures c.if-eq.true c.loop-command.invariant

pub loop-command-preserved : goal.loop-command-preserved
loop-command-preserved c =
    command_passed c.args.all.now c.args.word.now c.command_word.result.now c.loop-command.command-index c.eq.result c.loop-command-test.true c.command_word.ensures c.eq.ensures c.if-eq.false c.loop-command.invariant

pub returns : goal.returns
returns c = command_unknown c.args.all.now c.args.word.now c.loop-command.command-index (omega arith) c.loop-command.invariant
