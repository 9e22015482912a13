use Rattle.dr_master.proofs.Sets.{servers_in-set}
use Rattle.dr_master.proofs.servers.ServerSet.with.Goals as goal

pub returns : goal.returns
returns c = servers_in-set c.args.self.0 c.args.s.0 c.requires
