use Rattle.dr_laws_runs.proofs.ServerNames.{names-are-said}
use Rattle.dr_laws_runs.proofs.a_line_can_say_each_server.Goals as goal

pub returns : goal.returns
returns c = names-are-said
