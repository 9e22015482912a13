use Rattle.dr_sweep.specs.Parts.{Adds}
use Rattle.dr_sweep.proofs.WithinLemmas.{AreUpTo}
use Rattle.dr_sweep.proofs.rows.add_within.Given as goal

abbrev pub invariant-loop-total : goal.invariant-loop-total
invariant-loop-total l = Adds (AreUpTo l.plan l.disaster l.place l.server l.writes l._total) l.fn.rows.items l.rows.items
