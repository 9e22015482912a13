use Rattle.std.proofs.Common.{◌≡◌, Some, rules}
use Rattle.dr_config.specs.Table.{ConfigTable, entry_of}
use Rattle.dr_config.specs.Kept.{table_of}
use Rattle.dr_config.proofs.Sound.{entry-sized}
use Rattle.dr_config.proofs.config.Config.tracks_of.Goals as goal

pub returns-clause-some : goal.returns-clause-some
returns-clause-some c =
    let t : ConfigTable = table_of c.self.inside.servers.keys c.self.inside.volumes.entries c.self.inside.down c.self.inside.paths.entries in
    let found : entry_of t c.args.v.0 ≡ Some c.in_ok-entry.entry = search rules in
    (entry-sized t c.args.v.0 c.in_ok-entry.entry c.self.invariant found).0

pub returns-clause-most : goal.returns-clause-most
returns-clause-most c =
    let t : ConfigTable = table_of c.self.inside.servers.keys c.self.inside.volumes.entries c.self.inside.down c.self.inside.paths.entries in
    let found : entry_of t c.args.v.0 ≡ Some c.in_ok-entry.entry = search rules in
    (entry-sized t c.args.v.0 c.in_ok-entry.entry c.self.invariant found).1
