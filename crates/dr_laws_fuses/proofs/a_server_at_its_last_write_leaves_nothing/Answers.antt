use Rattle.dr_laws_fuses.proofs.LastAcks.{last-write}
use Rattle.dr_laws_fuses.proofs.a_server_at_its_last_write_leaves_nothing.Goals as goal

pub returns : goal.returns
returns c = last-write
