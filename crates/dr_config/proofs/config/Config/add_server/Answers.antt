use Rattle.std.proofs.Common.{◌≡◌, ℕ, List, Vec, None, sym, subst, rules}
use Rattle.std.specs.declared.alloc.Global.{Global}
use Rattle.dr_config.specs.Table.{ConfigTable, IsName, IsSoundConfig}
use Rattle.dr_config.specs.Kept.{table_of}
use Rattle.dr_config.specs.Rules.{server_refusal}
use Rattle.dr_config.proofs.Sound.{no-server-refusal}
use Rattle.dr_config.proofs.KeptLaws.{name-free, kept-server}
use Rattle.dr_config.proofs.config.Config.add_server.Goals as goal

pub add_name-requires : goal.add_name-requires
add_name-requires c =
    let name = c.args.name.now in
    let t : ConfigTable = table_of c.self.inside.servers.keys c.self.inside.volumes.entries c.self.inside.down c.self.inside.paths.entries in
    let none : c.server_refusal.result ≡ None = search rules in
    let ok : server_refusal t name ≡ None = no-server-refusal t c.args.self.now name c.server_refusal.result c.self.view_is c.server_refusal.ensures none in
    name-free c.self.inside.servers.keys c.self.inside.volumes.entries c.self.inside.down c.self.inside.paths.entries c.in-Ok.copy name c.in-Ok.ensures.items ok

pub invariant_of-self-2 : goal.invariant_of-self-2
invariant_of-self-2 c =
    let name = c.args.name.now in
    let t : ConfigTable = table_of c.self.inside.servers.keys c.self.inside.volumes.entries c.self.inside.down c.self.inside.paths.entries in
    let none : c.server_refusal.result ≡ None = search rules in
    let ok : server_refusal t name ≡ None = no-server-refusal t c.args.self.now name c.server_refusal.result c.self.view_is c.server_refusal.ensures none in
    let fits : IsName name = record { some = c.requires.some; short = c.requires.short } in
    subst (λ (ns : List (Vec ℕ Global)). IsSoundConfig (table_of ns c.self.inside.volumes.entries c.self.inside.down c.self.inside.paths.entries)) (sym c.in-Ok-add_name.ensures.added)
    (kept-server c.self.inside.servers.keys c.self.inside.volumes.entries c.self.inside.down c.self.inside.paths.entries c.in-Ok.copy name c.in-Ok.ensures.items fits ok c.self.invariant)
