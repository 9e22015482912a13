use Rattle.dr_master.proofs.Sets.{servers_in-cleared}
use Rattle.dr_master.proofs.servers.ServerSet.without.Goals as goal

pub returns : goal.returns
returns c = servers_in-cleared c.args.self.0 c.args.s.0 c.requires
