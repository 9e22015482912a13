use Rattle.std.proofs.Common.{sym, ap, ◌∙◌}
use Rattle.dr_volume.specs.Packed.{entry_flags, entry_flags-held}
use Rattle.dr_volume.proofs.entries.Entries.flags.Goals as goal

pub returns : goal.returns
returns c = sym (entry_flags-held c.self.inside c.self.invariant.byte) ∙ ap (λ es. entry_flags es) c.self.view_is
