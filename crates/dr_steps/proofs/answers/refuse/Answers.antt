use Rattle.std.proofs.Common.{arith, length}
use Rattle.dr_logic.proofs.Results.{err-always}
use Rattle.dr_steps.proofs.WantLemmas.{full-grows-not}
use Rattle.dr_steps.proofs.answers.refuse.Goals as goal

pub returns-in_err-reserve-clause-grows : goal.returns-in_err-reserve-clause-grows
returns-in_err-reserve-clause-grows c = err-always c.from_residual.result (λ below. c.in_err-reserve.ensures.grows (omega (arith, below)))

pub returns-in_err-reserve-clause-full : goal.returns-in_err-reserve-clause-full
returns-in_err-reserve-clause-full c below full = absurd (full-grows-not (length c.args.journal.now.events) c.args.journal.now.spare full (c.in_err-reserve.ensures.grows (omega (arith, below))))
