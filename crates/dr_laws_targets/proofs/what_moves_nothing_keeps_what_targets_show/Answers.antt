use Rattle.dr_laws_targets.proofs.Quiet.{counted-told, counted-issued, counted-defined}
use Rattle.dr_laws_targets.proofs.Regrouped.{counted-regrouped, counted-begun}
use Rattle.dr_laws_targets.proofs.what_moves_nothing_keeps_what_targets_show.Goals as goal

pub returns-clause-told : goal.returns-clause-told
returns-clause-told c = λ w x more old cut still is writes rows sessions. counted-told w x old more cut still is sessions writes rows

pub returns-clause-issued : goal.returns-clause-issued
returns-clause-issued c = λ w x v t offset len bytes kept old is rows sessions. counted-issued w x kept old v t offset len bytes is rows sessions

pub returns-clause-defined : goal.returns-clause-defined
returns-clause-defined c = λ w x more v y old groups cut still is writes undefined bare rows sessions. counted-defined w x old more cut still is sessions groups writes v y undefined bare rows

pub returns-clause-regrouped : goal.returns-clause-regrouped
returns-clause-regrouped c = λ write k us later T cuts g l same groups law then_groups then_law turn old. counted-regrouped k us later T same groups law then_groups then_law turn write cuts g l old

pub returns-clause-begun : goal.returns-clause-begun
returns-clause-begun c = λ write k T cuts g l s groups old. counted-begun write k.sessions T cuts g l s groups.once old
