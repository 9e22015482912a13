use Rattle.std.proofs.Common.{ap}
use Rattle.dr_volume.proofs.SaysLaws.{shows-says}
use Rattle.dr_moves.specs.Checks.{is_stop}
use Rattle.dr_moves.proofs.TurnLemmas.{err-along}
use Rattle.dr_gcopy.proofs.RanLemmas.{counted-failed}
use Rattle.dr_metro.proofs.both.land_both.Goals as goal

pub land_both_by-requires-clause-can : goal.land_both_by-requires-clause-can
land_both_by-requires-clause-can g c =
    let q = c.requires in
    record {
      at = record { rest = q.rest; fit = q.fit };
      told = q.told;
      waits = q.waits;
      from = q.defined;
      running = q.running;
      primary = q.primary;
      within = q.within;
      bytes = q.bytes;
      says = shows-says _ _ _ _ c.peek_fields-fields.ensures;
    }

pub returns-clause-faults : goal.returns-clause-faults
returns-clause-faults g c = counted-failed c.land_both_by.result _ _ (err-along c.land_both_by.result c.land_both_by.ensures.refused c.land_both_by.ensures.refused (λ refused _. ap is_stop refused)) c.land_both_by.ensures.wrote.faults
