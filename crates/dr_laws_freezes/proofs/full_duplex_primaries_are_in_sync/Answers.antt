use Rattle.dr_laws_freezes.proofs.Betweens.{in-sync-run}
use Rattle.dr_laws_freezes.proofs.full_duplex_primaries_are_in_sync.Goals as goal

pub returns : goal.returns
returns c = in-sync-run
