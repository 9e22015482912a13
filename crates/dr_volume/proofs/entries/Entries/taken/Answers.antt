use Rattle.std.proofs.Common.{◌∙◌}
use Rattle.dr_model.specs.Layout.{entry_taken}
use Rattle.dr_volume.proofs.PackedLaws.{entry_taken-held}
use Rattle.dr_volume.proofs.entries.Entries.taken.Goals as goal

pub returns : goal.returns
returns c = c.lowest_bit.ensures ∙ entry_taken-held c.self.inside c.next.inside c.self.invariant.byte ∙ (λ i. entry_taken (c.self.view_is i) (c.next.view_is i))
