use Rattle.std.proofs.Common.{◌∙◌, sym, arith}
use Rattle.dr_list.specs.Seen.{heard_seen}
use Rattle.dr_sweep.specs.Reach.{stopped_by}
use Rattle.dr_sweep.proofs.FirstLemmas.{first-here, first-later}
use Rattle.dr_sweep.proofs.reach.first_stopped.Goals as goal

pub returns-in-Some : goal.returns-in-Some
returns-in-Some c =
    first-here (stopped_by (heard_seen c.told_before-told.result) c.args.names.now) c.args.journal.now.events c.loop-place.place c.in-Some.found _ (let lt = c.loop-place-test.true in let len = c.len-place-end.ensures in omega (arith, lt, len)) (sym c.in-Some.ensures)
    c.loop-place.invariant

pub loop-place-preserved : goal.loop-place-preserved
loop-place-preserved c =
    first-later (stopped_by (heard_seen c.told_before-told.result) c.args.names.now) c.args.journal.now.events c.loop-place.place _ (let lt = c.loop-place-test.true in let len = c.len-place-end.ensures in omega (arith, lt, len)) (sym c.stopped_at.ensures ∙ c.in_default.is)
    c.loop-place.invariant
