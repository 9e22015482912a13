use Rattle.dr_laws_fuses.proofs.Later.{unreached}
use Rattle.dr_laws_fuses.proofs.a_fuse_that_is_not_reached_changes_nothing.Goals as goal

pub returns : goal.returns
returns c = unreached
