use Rattle.std.proofs.Common.{subst, sym, arith}
use Rattle.dr_model.proofs.Asking.{histories-none}
use Rattle.dr_lost.specs.Held.{StandsFor}
use Rattle.dr_lost.proofs.holdings.Holdings.after.Goals as goal

pub returns : goal.returns
returns c = c.in_ok-hear_between.ensures.heard (subst (StandsFor c.new-holdings.result) (sym (histories-none c.args.journal.now.events 0 (omega arith))) c.new-holdings.ensures)
