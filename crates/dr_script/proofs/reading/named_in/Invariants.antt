use Rattle.std.proofs.Common.{◌≡◌, drop}
use Rattle.dr_model.specs.Grammar.{command_named}
use Rattle.dr_script.proofs.reading.named_in.Given as goal

abbrev pub invariant-loop-command : goal.invariant-loop-command
invariant-loop-command l = command_named (drop l.command-index l.all) l.word ≡ command_named l.all l.word
