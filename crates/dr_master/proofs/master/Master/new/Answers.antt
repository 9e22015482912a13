use Rattle.dr_model.specs.Phases as model
use Rattle.dr_master.specs.Seen.{servers_in}
use Rattle.dr_master.proofs.Sets.{servers_in-none}
use Rattle.dr_master.proofs.master.Master.new.Goals as goal

pub returns : goal.returns
returns c = λ i. record (model.idle (servers_in c.args.servers.0) c.args.last) { owed = servers_in-none i; reports = c.empty.ensures.shown i }
