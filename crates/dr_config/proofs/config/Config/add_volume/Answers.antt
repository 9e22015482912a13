use Rattle.std.proofs.Common.{◌≡◌, ℕ, ◌<◌, ◌≤◌, List, [], ◌∷◌, ◌++◌, length, None, sym, ◌∙◌, ap, subst, rules, arith}
use Rattle.dr_config.specs.declared.entries.VolumeEntry.{VolumeEntry}
use Rattle.dr_config.specs.Table.{ConfigTable, StandsFor}
use Rattle.dr_config.specs.Kept.{table_of}
use Rattle.dr_config.specs.Rules.{volume_refusal, with_volume}
use Rattle.dr_plant.specs.State.{with_device}
use Rattle.dr_config.proofs.Sound.{no-volume-refusal, sound-with_volume}
use Rattle.dr_config.proofs.Devices.{stands-with_volume}
use Rattle.dr_config.proofs.config.Config.add_volume.Goals as goal

pub invariant_of-self-2 : goal.invariant_of-self-2
invariant_of-self-2 g c =
    let t : ConfigTable = table_of c.self.inside.servers.keys c.self.inside.volumes.entries c.self.inside.down c.self.inside.paths.entries in
    let none : c.volume_refusal.result ≡ None = search rules in
    let ok : volume_refusal t c.args.id.0 c.args.server.0 c.args.tracks ≡ None =
    no-volume-refusal t c.args.self.now c.args.id.0 c.args.server.0 c.args.tracks c.volume_refusal.result c.self.view_is c.volume_refusal.ensures none in
    let Low : ConfigTable → Type 0 = λ x. c.args.server.0 < length x.names in
    rw (c.add.ensures, c.reserve.ensures.entries)
    (sound-with_volume t c.args.id.0 c.args.server.0 c.args.tracks (subst Low (sym c.self.view_is) c.requires.defined) ok c.self.invariant)

pub returns-clause-stands : goal.returns-clause-stands
returns-clause-stands g c =
    let t : ConfigTable = table_of c.self.inside.servers.keys c.self.inside.volumes.entries c.self.inside.down c.self.inside.paths.entries in
    let same : t ≡ c.args.self.now = c.self.view_is in
    let e : VolumeEntry = record { id = c.args.id.0; server = c.args.server.0; tracks = c.args.tracks } in
    let table : table_of c.self.inside.servers.keys c.add.new.self.entries c.self.inside.down c.self.inside.paths.entries ≡ with_volume t e.id e.server e.tracks =
    ap (λ (es : List VolumeEntry). table_of c.self.inside.servers.keys es c.self.inside.down c.self.inside.paths.entries)
    (c.add.ensures ∙ ap (λ (es : List VolumeEntry). es ++ e ∷ []) c.reserve.ensures.entries) in
    let Low : ConfigTable → Type 0 = λ x. c.args.server.0 < length x.names in
    let low : c.args.server.0 < length t.names = subst Low (sym same) c.requires.defined in
    let few : length t.names ≤ 8 = c.self.invariant.few_servers in
    let below : c.args.server.0 < 8 = omega arith in
    let stood : StandsFor t (g.P.Plant.state c.args.plant.now) = subst (λ (x : ConfigTable). StandsFor x (g.P.Plant.state c.args.plant.now)) (sym same) c.requires.stands in
    let sized = subst (λ (n : ℕ). StandsFor (with_volume t e.id e.server e.tracks) (with_device (g.P.Plant.state c.args.plant.now) c.args.server.0 n)) (sym c.blocks_of.ensures) (stands-with_volume t (g.P.Plant.state c.args.plant.now) c.args.id.0 c.args.server.0 c.args.tracks below stood) in
    subst (λ (x : ConfigTable). StandsFor x (g.P.Plant.state c.add_device.new.self)) (sym table) (rw c.in-Ok-add_device.ensures.added sized)
