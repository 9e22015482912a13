use Rattle.dr_laws_return.proofs.Compared.{compared-run}
use Rattle.dr_laws_return.proofs.comparisons_are_of_the_devices.Goals as goal

pub returns : goal.returns
returns c = compared-run
