use Rattle.dr_laws_return.proofs.Returned.{sent-run}
use Rattle.dr_laws_return.proofs.drains_leave_a_pair_in_place_equal.Goals as goal

pub returns : goal.returns
returns c = sent-run
