use Rattle.std.proofs.Common.{ap, ◌∙◌, take}
use Rattle.dr_io.proofs.ReadingLemmas.{cut_twice}
use Rattle.dr_io.proofs.kept.Front.cut.Goals as goal

pub returns : goal.returns
returns c =
    let k = c.self.inside in
    ap (λ n. take n k.bytes) c.min-self-inside.ensures ∙ cut_twice k.bytes k.len 1025 ∙ ap (take 1025) c.self.view_is
