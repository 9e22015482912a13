use Rattle.dr_laws_fuses.proofs.Torn.{torn-alike}
use Rattle.dr_laws_fuses.proofs.torn_bytes_tell_one_bit.Goals as goal

pub returns : goal.returns
returns c = torn-alike
