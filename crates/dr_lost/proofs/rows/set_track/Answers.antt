use Rattle.std.proofs.Common.{ℕ, ap, ◌∙◌, slice_index}
use Rattle.dr_logic.specs.Tables.{at}
use Rattle.dr_lost.proofs.RowLemmas.{row-set}
use Rattle.dr_lost.proofs.rows.set_track.Goals as goal

pub returns-clause-set : goal.returns-clause-set
returns-clause-set c =
    let e = c.in_ok-widen.ensures in
    row-set c.widen.new.row.items c.from-place.result c.args.node e.within
    ∙ (ap (λ (f : ℕ → ℕ). at f c.from-place.result c.args.node) e.same ∙ ap (λ t. at (slice_index c.args.row.now.items) t c.args.node) c.from-place.ensures)
