use Rattle.dr_laws_closed.proofs.Quiet.{closing-nothing}
use Rattle.dr_laws_closed.proofs.Mays.{may-done, may-stop, open-done, open-stop}
use Rattle.dr_laws_closed.proofs.moves_keep_closed_cuts.Goals as goal

pub returns-clause-nothing : goal.returns-clause-nothing
returns-clause-nothing c = closing-nothing

pub returns-clause-done : goal.returns-clause-done
returns-clause-done c = λ starts w x m sound kept old may to is. may-done starts w sound kept old x m may to is

pub returns-clause-stopped : goal.returns-clause-stopped
returns-clause-stopped c = λ starts w x m more sound kept old may to quiet is. may-stop starts w sound kept old x m may to more quiet is

pub returns-clause-opened : goal.returns-clause-opened
returns-clause-opened c = λ starts w x v s n sound kept old may to is. open-done starts w sound kept old x v s n may to is

pub returns-clause-opened_in_stop : goal.returns-clause-opened_in_stop
returns-clause-opened_in_stop c = λ starts w x v s n more sound kept old may to quiet is. open-stop starts w sound kept old x v s n may to more quiet is
