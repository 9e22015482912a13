use Rattle.dr_config.proofs.Lookups.{server-found}
use Rattle.dr_config.proofs.config.Config.host.Goals as goal

pub unwrap-requires : goal.unwrap-requires
unwrap-requires c = server-found c.args.self.now c.args.v.0 c.server_of.result c.requires c.server_of.ensures.value
