use Rattle.dr_laws_fuses.proofs.Switches.{stop-writes-nothing}
use Rattle.dr_laws_fuses.proofs.a_stop_makes_no_device_write.Goals as goal

pub returns : goal.returns
returns c = stop-writes-nothing
