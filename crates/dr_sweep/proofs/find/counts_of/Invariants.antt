use Rattle.dr_sweep.proofs.WithinLemmas.{Seeks}
use Rattle.dr_sweep.proofs.find.counts_of.Given as goal

abbrev pub invariant-loop-total : goal.invariant-loop-total
invariant-loop-total l = Seeks l.plan l.disaster l.place l.server l.write l.writes l._total
