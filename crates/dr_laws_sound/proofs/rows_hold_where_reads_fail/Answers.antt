use Rattle.dr_laws_sound.proofs.ReadStops.{rows-ends}
use Rattle.dr_laws_sound.proofs.rows_hold_where_reads_fail.Goals as goal

pub returns : goal.returns
returns c = rows-ends
