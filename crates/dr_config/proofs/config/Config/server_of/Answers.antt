use Rattle.std.proofs.Common.{◌≡◌, Some, rules, subst}
use Rattle.dr_config.specs.Table.{ConfigTable, HasServer, entry_of}
use Rattle.dr_config.specs.Kept.{table_of}
use Rattle.dr_config.proofs.Sound.{entry-defined}
use Rattle.dr_config.proofs.config.Config.server_of.Goals as goal

pub returns-clause-defined : goal.returns-clause-defined
returns-clause-defined c =
    let t : ConfigTable = table_of c.self.inside.servers.keys c.self.inside.volumes.entries c.self.inside.down c.self.inside.paths.entries in
    let same : t ≡ c.args.self.now = c.self.view_is in
    let found : entry_of t c.args.v.0 ≡ Some c.in_ok-entry.entry = search rules in
    let Defined : ConfigTable → Type 0 = λ x. HasServer x c.in_ok-entry.entry.server in
    subst Defined same (entry-defined t c.args.v.0 c.in_ok-entry.entry c.self.invariant found)
