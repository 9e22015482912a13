use Rattle.std.proofs.Common.{◌∙◌, sym, subst}
use Rattle.dr_volume.specs.Packed.{IsPacked, entries_held}
use Rattle.dr_volume.specs.declared.entries.Entries.TheInside.{Inside}
use Rattle.dr_volume.proofs.PackedLaws.{is-packed, held-packed}
use Rattle.dr_volume.proofs.entries.pack.Goals as goal

pub invariant_of-result : goal.invariant_of-result
invariant_of-result c = subst (λ (p : Inside). IsPacked p) (λ i. record { used = sym c.flags.ensures i; tracks = sym c.tracks.ensures i }) (is-packed c.args.entries.now)

pub returns : goal.returns
returns c = (λ i. entries_held record { used = c.flags.ensures i; tracks = c.tracks.ensures i }) ∙ held-packed c.args.entries.now c.told-entries
