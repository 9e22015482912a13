use Rattle.std.proofs.Common.{ap, ◌∙◌}
use Rattle.dr_model.specs.Answers.{phase_place}
use Rattle.dr_sweep.specs.Comes.{seen}
use Rattle.dr_sweep.specs.Seen.{run_seen}
use Rattle.dr_sweep.proofs.ReadLemmas.{phase-none, phase-some}
use Rattle.dr_sweep.proofs.run.PointRun.phase_at.Goals as goal

pub returns-in-None : goal.returns-in-None
unfolding run_seen
returns-in-None c =
    let r = run_seen c.args.self.now in
    phase-none (seen r).control _ c.session_at.result (c.session_at.ensures r.plant r.events) c.in-None.is

pub returns-in-Some : goal.returns-in-Some
unfolding run_seen
returns-in-Some c =
    let r = run_seen c.args.self.now in
    phase-some (seen r).control _ c.session_at.result c.in-Some.session _ (c.session_at.ensures r.plant r.events) c.in-Some.is (c.phase_number.ensures ∙ ap phase_place (c.phase_in.ensures r.plant r.events))
