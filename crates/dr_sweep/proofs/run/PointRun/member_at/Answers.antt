use Rattle.dr_sweep.specs.Seen.{run_seen}
use Rattle.dr_sweep.proofs.run.PointRun.member_at.Goals as goal

pub returns : goal.returns
unfolding run_seen
returns c = let r = run_seen c.args.self.now in c.member_at.ensures r.plant r.events
