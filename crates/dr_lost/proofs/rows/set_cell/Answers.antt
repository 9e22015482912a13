use Rattle.std.proofs.Common.{refl, subst}
use Rattle.std.specs.Option.{IsSome}
use Rattle.dr_lost.proofs.RowLemmas.{cells-written, cells-kept}
use Rattle.dr_lost.proofs.rows.set_cell.Goals as goal

pub returns-in-Some-clause-set : goal.returns-in-Some-clause-set
returns-in-Some-clause-set c =
    let found = c.in-Some.ensures.value in
    let new = c.get_mut.follows.lender c.set_track.new.row in
    let is = (c.get_mut.follows.holds c.set_track.new.row).3 (subst IsSome found refl) in
    cells-written c.set_track.result c.args.rows.now.entries new.entries c.args.volume c.args.track c.args.node c.in-Some.row.now c.set_track.new.row found is.0 c.set_track.ensures.set

pub returns-in-Some-clause-same : goal.returns-in-Some-clause-same
returns-in-Some-clause-same c =
    let found = c.in-Some.ensures.value in
    let new = c.get_mut.follows.lender c.set_track.new.row in
    let is = (c.get_mut.follows.holds c.set_track.new.row).3 (subst IsSome found refl) in
    cells-kept c.set_track.result c.args.rows.now.entries new.entries c.args.volume c.in-Some.row.now c.set_track.new.row found is.0 c.set_track.ensures.same
