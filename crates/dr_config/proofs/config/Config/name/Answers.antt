use Rattle.std.proofs.Common.{◌≡◌, ℕ, Some, slice_get, Vec, refl}
use Rattle.std.specs.declared.alloc.Global.{Global}
use Rattle.std.proofs.lemmas.Option.{slice_get-map}
use Rattle.dr_config.specs.Table.{ConfigTable}
use Rattle.dr_config.specs.Kept.{table_of}
use Rattle.dr_config.proofs.config.Config.name.Goals as goal

pub returns-clause-fits : goal.returns-clause-fits
returns-clause-fits c =
    let t : ConfigTable = table_of c.self.inside.servers.keys c.self.inside.volumes.entries c.self.inside.down c.self.inside.paths.entries in
    let read : slice_get c.self.inside.servers.keys c.args.s.0 ≡ Some c.index.result.now = rw (← c.from.ensures) c.index.ensures in
    let listed : slice_get t.names c.args.s.0 ≡ Some c.as_slice.result.now =
    rw (slice_get-map (λ (n : Vec ℕ Global). n.items) c.self.inside.servers.keys c.args.s.0, read, c.as_slice.ensures.value) refl in
    (c.self.invariant.server c.args.s.0 c.as_slice.result.now listed).name
