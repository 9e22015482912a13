use Rattle.std.proofs.Common.{◌∙◌, ap}
use Rattle.std.specs.Prelude.{is_some}
use Rattle.dr_model.specs.Layout.{is_track}
use Rattle.dr_volume.proofs.PackedLaws.{there-any}
use Rattle.dr_volume.proofs.entries.Entries.names.Goals as goal

pub returns : goal.returns
returns c = c.is_some.ensures ∙ ap (λ o. is_some o) c.entry_of.ensures ∙ there-any (λ e. is_track e c.args.t) c.args.self.now
