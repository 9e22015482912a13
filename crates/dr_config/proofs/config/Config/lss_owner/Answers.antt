use Rattle.std.proofs.Common.{◌≡◌, Some, rules, subst, eqb}
use Rattle.std.specs.List.{find}
use Rattle.dr_config.specs.declared.entries.VolumeEntry.{VolumeEntry}
use Rattle.dr_config.specs.Table.{ConfigTable, HasServer, lss_of}
use Rattle.dr_config.specs.Kept.{table_of}
use Rattle.dr_config.proofs.Sound.{owner-defined}
use Rattle.dr_config.proofs.config.Config.lss_owner.Goals as goal

pub returns-clause-defined : goal.returns-clause-defined
returns-clause-defined c =
    let t : ConfigTable = table_of c.self.inside.servers.keys c.self.inside.volumes.entries c.self.inside.down c.self.inside.paths.entries in
    let same : t ≡ c.args.self.now = c.self.view_is in
    let found : find (λ (e : VolumeEntry). eqb (lss_of e.id) c.args.l.0) t.volumes ≡ Some c.in_ok-entry.entry = search rules in
    let Defined : ConfigTable → Type 0 = λ x. HasServer x c.in_ok-entry.entry.server in
    subst Defined same (owner-defined t c.args.l.0 c.in_ok-entry.entry c.self.invariant found)
