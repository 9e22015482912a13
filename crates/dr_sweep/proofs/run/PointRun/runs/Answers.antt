use Rattle.std.proofs.Common.{ap, ◌∙◌}
use Rattle.dr_top.specs.OpenRuns.{runs_named}
use Rattle.dr_sweep.specs.Comes.{seen}
use Rattle.dr_sweep.specs.Seen.{run_seen}
use Rattle.dr_sweep.proofs.run.PointRun.runs.Goals as goal

pub returns : goal.returns
unfolding run_seen
returns c =
    let r = run_seen c.args.self.now in
    c.runs.ensures r.events ∙ ap (runs_named (seen r).control) c.name_bytes.ensures
