use Rattle.dr_laws_runs.proofs.Lines.{run-is-its-parts}
use Rattle.dr_laws_runs.proofs.a_run_is_its_parts.Goals as goal

pub returns : goal.returns
returns c = run-is-its-parts
