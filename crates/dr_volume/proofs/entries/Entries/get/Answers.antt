use Rattle.std.proofs.Common.{get_or, sym, ◌∙◌, ap, Some, None}
use Rattle.std.specs.Prelude.{if◌then◌else◌}
use Rattle.dr_volume.specs.Packed.{entry_at-held}
use Rattle.dr_volume.proofs.entries.Entries.get.Goals as goal

pub returns-then-bit : goal.returns-then-bit
returns-then-bit c = rw (← c.self.view_is) (
    ap (λ k. Some (get_or c.self.inside.tracks k 0)) c.from.ensures
    ∙ sym (entry_at-held c.self.inside c.args.k c.requires ∙ ap (λ b. if b then Some (get_or c.self.inside.tracks c.args.k 0) else None) (sym c.bit.ensures ∙ c.if-bit.true)))

pub returns-else-bit : goal.returns-else-bit
returns-else-bit c = rw (← c.self.view_is) (
    sym (entry_at-held c.self.inside c.args.k c.requires ∙ ap (λ b. if b then Some (get_or c.self.inside.tracks c.args.k 0) else None) (sym c.bit.ensures ∙ c.if-bit.false)))
