use Rattle.dr_laws_runs.proofs.Answered.{parts-are-answered}
use Rattle.dr_laws_runs.proofs.parts_of_a_run_are_ok.Goals as goal

pub returns : goal.returns
returns c = parts-are-answered
