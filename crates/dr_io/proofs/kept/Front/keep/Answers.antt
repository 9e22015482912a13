use Rattle.std.proofs.Common.{ap, ◌∙◌, take, ◌++◌}
use Rattle.dr_io.proofs.ReadingLemmas.{kept_at}
use Rattle.dr_io.proofs.kept.Front.keep.Goals as goal

pub returns : goal.returns
returns c =
    let k = c.self.inside in
    kept_at k.bytes c.args.piece.now c.copy_at.new.buffer k.len c.min-n.result 1026 c.self.told c.self.invariant c.min-n.ensures c.copy_at.ensures
    ∙ ap (λ kept. take 1026 (kept ++ c.args.piece.now)) c.self.view_is
