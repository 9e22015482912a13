use Rattle.dr_script.proofs.StepLemmas.{found_first}
use Rattle.dr_script.proofs.reading.command_named.Goals as goal

pub returns-in-Some : goal.returns-in-Some
returns-in-Some c = found_first _ c.args.word.now c.in-Some.command c.in-Some.ensures
