use Rattle.std.proofs.Common.{sym, subst}
use Rattle.dr_sweep.specs.declared.printing.Asked.{Asked}
use Rattle.dr_sweep.specs.Printing.{AsksOf}
use Rattle.dr_sweep.proofs.NamedLemmas.{asked-in}
use Rattle.dr_sweep.proofs.call.answer_plan.Goals as goal

pub answer-requires : goal.answer-requires
answer-requires g c = subst (λ (asked : Asked). AsksOf c.in-Ok.tried asked) (sym c.asked_of.ensures) (asked-in c.in-Ok.tried c.args.command.now)
