use Rattle.dr_laws_fuses.proofs.Torn.{tears-as-fill}
use Rattle.dr_laws_fuses.proofs.any_bytes_tear_as_a_fill.Goals as goal

pub returns : goal.returns
returns c = tears-as-fill
