use Rattle.dr_laws_freezes.proofs.FreezesHold.{freezes-hold}
use Rattle.dr_laws_freezes.proofs.no_write_lands_after_a_freeze.Goals as goal

pub returns : goal.returns
returns c = freezes-hold
