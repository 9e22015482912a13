use Rattle.std.proofs.Common.{◌≤◌, ◌<◌, take, subst, sym, arith}
use Rattle.dr_logic.proofs.Results.{err-always}
use Rattle.dr_model.specs.Histories.{histories}
use Rattle.dr_model.proofs.Asking.{histories-event}
use Rattle.dr_lost.specs.Held.{StandsFor}
use Rattle.dr_lost.proofs.holdings.Holdings.hear_between.Goals as goal

pub loop-place-preserved : goal.loop-place-preserved
loop-place-preserved c = λ s.
    let events = c.args.journal.now.events in
    let place = c.loop-place.place in
    subst (StandsFor c.hear.new.self) (sym (histories-event events place c.in-Some.event.now (sym c.in-Some.ensures)))
    (c.in_ok-hear.ensures (histories (take place events)) (c.loop-place.invariant s))

pub returns-in_err-hear-clause-failed : goal.returns-in_err-hear-clause-failed
returns-in_err-hear-clause-failed c = λ s.
    let place = c.loop-place.place in
    let from : c.args.from ≤ place = omega arith in
    let to : place < c.args.to = omega arith in
    err-always c.from_residual.result (place, from, to, c.in_err-hear.ensures (histories (take place c.args.journal.now.events)) (c.loop-place.invariant s))
