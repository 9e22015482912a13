use Rattle.std.proofs.Common.{◌∙◌, ap}
use Rattle.dr_volume.specs.Record.{entry_tracks}
use Rattle.dr_volume.proofs.PackedLaws.{tracks-held}
use Rattle.dr_volume.proofs.entries.Entries.track_bytes.Goals as goal

pub returns : goal.returns
returns c = c.in_two_bytes.ensures ∙ tracks-held c.self.inside c.self.invariant ∙ ap (λ es. entry_tracks es) c.self.view_is
