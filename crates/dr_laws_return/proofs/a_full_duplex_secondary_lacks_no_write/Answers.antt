use Rattle.dr_laws_return.proofs.Secondaries.{secondaries-on}
use Rattle.dr_laws_return.proofs.a_full_duplex_secondary_lacks_no_write.Goals as goal

pub returns : goal.returns
returns c = secondaries-on
