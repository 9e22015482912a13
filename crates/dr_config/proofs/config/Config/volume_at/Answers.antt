use Rattle.std.proofs.Common.{◌≡◌, ◌∙◌, ap, sym, slice_get, Some, rules}
use Rattle.dr_config.specs.Table.{ConfigTable, place_of}
use Rattle.dr_config.proofs.config.Config.volume_at.Goals as goal

pub returns-clause-place : goal.returns-clause-place
returns-clause-place c =
    let e = c.in_ok-entry.entry in
    let at : slice_get c.self.inside.volumes.entries c.args.i ≡ Some e = search rules in
    ap (λ (t : ConfigTable). place_of t e.id) (sym c.self.view_is) ∙ (c.self.invariant.volume c.args.i e at).own
