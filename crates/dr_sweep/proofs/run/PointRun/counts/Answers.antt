use Rattle.dr_sweep.specs.Seen.{run_seen}
use Rattle.std.proofs.Common.{◌∙◌}
use Rattle.dr_sweep.proofs.ReadLemmas.{or-false}
use Rattle.dr_sweep.proofs.run.PointRun.counts.Goals as goal

pub returns : goal.returns
unfolding run_seen
returns c = c.unwrap_or.ensures ∙ or-false _ _ c.counts.result (c.counts.ensures c.args.self.now.journal.events)
