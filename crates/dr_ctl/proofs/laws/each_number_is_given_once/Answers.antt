use Rattle.dr_ctl.proofs.Stays.{numbered-after}
use Rattle.dr_ctl.proofs.laws.each_number_is_given_once.Goals as goal

pub returns-clause-kept : goal.returns-clause-kept
returns-clause-kept c = numbered-after
