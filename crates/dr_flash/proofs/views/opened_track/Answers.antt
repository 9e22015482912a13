use Rattle.std.proofs.Common.{◌∙◌}
use Rattle.dr_flash.proofs.ViewLemmas.{own-read}
use Rattle.dr_flash.proofs.views.opened_track.Goals as goal

pub returns-clause-same : goal.returns-clause-same
returns-clause-same g c = c.read_track.ensures.state ∙ own-read _ _ _ c.requires.passes
