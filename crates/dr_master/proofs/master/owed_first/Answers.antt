use Rattle.std.proofs.Common.{ap, sym, ◌∙◌}
use Rattle.dr_model.specs.Phases as model
use Rattle.dr_master.specs.Seen.{servers_in}
use Rattle.dr_master.proofs.Sets.{servers_in-none}
use Rattle.dr_master.proofs.master.owed_first.Goals as goal

pub returns-in-Idle : goal.returns-in-Idle
returns-in-Idle c = servers_in-none ∙ ap (λ p. model.owed_first p (servers_in c.args.servers.0)) (sym c.in-Idle.is)
