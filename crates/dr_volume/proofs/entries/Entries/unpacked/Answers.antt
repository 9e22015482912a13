use Rattle.std.proofs.Common.{sym, ◌∙◌, [], ◌∷◌}
use Rattle.dr_volume.proofs.PackedLaws.{one-by-one}
use Rattle.dr_volume.proofs.entries.Entries.unpacked.Goals as goal

pub returns : goal.returns
returns c =
    (λ i. c.get.ensures i ∷ c.get-2.ensures i ∷ c.get-3.ensures i ∷ c.get-4.ensures i ∷ c.get-5.ensures i ∷ c.get-6.ensures i ∷ c.get-7.ensures i ∷ c.get-8.ensures i ∷ [])
    ∙ sym (one-by-one c.args.self.now c.tell_eight.ensures)
