use Rattle.dr_volume.proofs.SaysLaws.{shows-says}
use Rattle.dr_gcopy.proofs.RanLemmas.{counted-failed}
use Rattle.dr_metro.proofs.mirroring.write_both.Goals as goal

pub write_both_by-requires-clause-can : goal.write_both_by-requires-clause-can
write_both_by-requires-clause-can g c =
    let q = c.requires in
    record {
      due = record { at = record { rest = q.rest; fit = q.fit }; told = q.told; defined = q.from; within = q.within; fits = q.fits; found = q.found };
      running = q.running;
      primary = q.primary;
      pair = record { to = q.to; two_servers = q.two_servers; size = q.size };
      reached = q.reached;
      says = shows-says _ _ _ _ c.peek_fields-fields.ensures;
      says_to = shows-says _ _ _ _ c.peek_fields-to.ensures;
      alone = λ never. absurd cc;
    }

pub returns-clause-faults : goal.returns-clause-faults
returns-clause-faults g c = counted-failed c.write_both_by.result _ _ c.write_both_by.ensures.stops c.write_both_by.ensures.wrote.faults
