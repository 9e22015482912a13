use Rattle.dr_laws_fuses.proofs.Switches.{start-takes-away}
use Rattle.dr_laws_fuses.proofs.a_start_takes_a_fuse_at_0_away.Goals as goal

pub returns : goal.returns
returns c = start-takes-away
