use Rattle.std.proofs.Common.{◌≡◌, ◌<◌, ◌≤◌, Bool, List, cond, not, length, ◌∙◌, ap, sym, subst, arith}
use Rattle.dr_ids.specs.Links.{joins}
use Rattle.dr_config.specs.Links.{is_down, set_between}
use Rattle.dr_config.specs.Table.{ConfigTable, link_up, IsSoundConfig}
use Rattle.dr_config.specs.Kept.{table_of}
use Rattle.dr_config.proofs.LinkLaws.{link_up-with_link}
use Rattle.dr_config.proofs.Sound.{sound-with_link}
use Rattle.dr_config.proofs.config.Config.set_link.Goals as goal

pub invariant_of-self : goal.invariant_of-self
invariant_of-self c =
    let t : ConfigTable = table_of c.self.inside.servers.keys c.self.inside.volumes.entries c.self.inside.down c.self.inside.paths.entries in
    let same : t ≡ c.args.self.now = c.self.view_is in
    let First : ConfigTable → Type 0 = λ x. c.args.a.0 < length x.names in
    let Second : ConfigTable → Type 0 = λ x. c.args.b.0 < length x.names in
    let rows : c.set_between.new.rows ≡ set_between c.self.inside.down c.args.a.0 c.args.b.0 (not c.args.up) = rw (← c.from.ensures, ← c.from-2.ensures) c.set_between.ensures in
    subst (λ (rs : List (List Bool)). IsSoundConfig (table_of c.self.inside.servers.keys c.self.inside.volumes.entries rs c.self.inside.paths.entries)) (sym rows)
    (sound-with_link t c.args.a.0 c.args.b.0 c.args.up (subst First (sym same) c.requires.first) (subst Second (sym same) c.requires.second) c.if-a-b.false c.self.invariant)

pub returns-clause-links : goal.returns-clause-links
returns-clause-links c =
    let t : ConfigTable = table_of c.self.inside.servers.keys c.self.inside.volumes.entries c.self.inside.down c.self.inside.paths.entries in
    let same : t ≡ c.args.self.now = c.self.view_is in
    let First : ConfigTable → Type 0 = λ x. c.args.a.0 < length x.names in
    let Second : ConfigTable → Type 0 = λ x. c.args.b.0 < length x.names in
    let first : c.args.a.0 < length t.names = subst First (sym same) c.requires.first in
    let second : c.args.b.0 < length t.names = subst Second (sym same) c.requires.second in
    let few : length t.names ≤ 8 = c.self.invariant.few_servers in
    let la : c.args.a.0 < 8 = omega arith in
    let lb : c.args.b.0 < 8 = omega arith in
    let rows : c.set_between.new.rows ≡ set_between c.self.inside.down c.args.a.0 c.args.b.0 (not c.args.up) = rw (← c.from.ensures, ← c.from-2.ensures) c.set_between.ensures in
    λ x y. ap (λ (rs : List (List Bool)). not (is_down rs x y)) rows
    ∙ (link_up-with_link t c.args.a.0 c.args.b.0 c.args.up c.self.invariant.square la lb x y
    ∙ ap (λ (u : ConfigTable). cond (joins x y c.args.a.0 c.args.b.0) c.args.up (link_up u x y)) same)
