use Rattle.std.proofs.Common.{◌∙◌, ap, bit_and}
use Rattle.std.specs.List.{position, range_with_len}
use Rattle.dr_model.specs.Layout as layout
use Rattle.dr_volume.proofs.PackedLaws.{entry_of-held, names-none}
use Rattle.dr_volume.proofs.entries.Entries.entry_of.Goals as goal

pub returns : goal.returns
returns c =
    c.lowest_bit.ensures
    ∙ ap (λ n. position (λ k. layout.bit (bit_and c.self.inside.used n) k) (range_with_len 0 8)) c.same_tracks.ensures
    ∙ entry_of-held c.self.inside c.args.t
    ∙ ap (λ es. layout.entry_of es c.args.t) c.self.view_is

pub returns-then-self-eq0 : goal.returns-then-self-eq0
returns-then-self-eq0 c = names-none c.self.inside c.args.t c.if-self-eq0.true ∙ ap (λ es. layout.entry_of es c.args.t) c.self.view_is
