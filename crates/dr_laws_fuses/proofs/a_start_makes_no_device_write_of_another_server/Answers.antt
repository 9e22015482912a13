use Rattle.dr_laws_fuses.proofs.Switches.{start-writes-alone}
use Rattle.dr_laws_fuses.proofs.a_start_makes_no_device_write_of_another_server.Goals as goal

pub returns : goal.returns
returns c = start-writes-alone
