use Rattle.std.proofs.Common.{◌≡◌, ℕ, List, Vec, Some, rules, subst}
use Rattle.std.specs.Str.{bytes_eq}
use Rattle.std.specs.declared.alloc.Global.{Global}
use Rattle.dr_config.specs.Table.{ConfigTable, HasServer, server_named}
use Rattle.dr_config.specs.Kept.{table_of}
use Rattle.dr_config.proofs.Lists.{position-map}
use Rattle.dr_config.proofs.Sound.{named-defined}
use Rattle.dr_config.proofs.config.Config.server_named.Goals as goal

pub returns-in_err-place : goal.returns-in_err-place
returns-in_err-place c = rw (← c.self.view_is, position-map (λ (n : Vec ℕ Global). n.items) (λ (n : List ℕ). bytes_eq c.args.name.now n) c.self.inside.servers.keys) (search rules)

pub returns-clause-place : goal.returns-clause-place
returns-clause-place c = rw (← c.self.view_is, position-map (λ (n : Vec ℕ Global). n.items) (λ (n : List ℕ). bytes_eq c.args.name.now n) c.self.inside.servers.keys) (search rules)

pub returns-clause-defined : goal.returns-clause-defined
returns-clause-defined c =
    let t : ConfigTable = table_of c.self.inside.servers.keys c.self.inside.volumes.entries c.self.inside.down c.self.inside.paths.entries in
    let same : t ≡ c.args.self.now = c.self.view_is in
    let place : server_named t c.args.name.now ≡ Some c.in_ok-place.place = rw (position-map (λ (n : Vec ℕ Global). n.items) (λ (n : List ℕ). bytes_eq c.args.name.now n) c.self.inside.servers.keys) (search rules) in
    let Defined : ConfigTable → Type 0 = λ x. HasServer x c.in_ok-place.place in
    subst Defined same (named-defined t c.args.name.now c.in_ok-place.place c.self.invariant place)
