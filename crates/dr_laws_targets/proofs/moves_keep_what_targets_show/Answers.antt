use Rattle.dr_laws_targets.proofs.Quiet.{counted-nothing}
use Rattle.dr_laws_targets.proofs.Mays.{may-done, may-stop, open-done, open-stop}
use Rattle.dr_laws_targets.proofs.moves_keep_what_targets_show.Goals as goal

pub returns-clause-nothing : goal.returns-clause-nothing
returns-clause-nothing c = counted-nothing

pub returns-clause-done : goal.returns-clause-done
returns-clause-done c = λ starts w x m sound kept closing old may to sessions is. may-done starts w sound kept closing old x m may to sessions is

pub returns-clause-stopped : goal.returns-clause-stopped
returns-clause-stopped c = λ starts w x m more sound kept closing old may to sessions quiet is. may-stop starts w sound kept closing old x m may to sessions more quiet is

pub returns-clause-opened : goal.returns-clause-opened
returns-clause-opened c = λ starts w x v s n sound kept closing old may to sessions is. open-done starts w sound kept closing old x v s n may to sessions is

pub returns-clause-opened_in_stop : goal.returns-clause-opened_in_stop
returns-clause-opened_in_stop c = λ starts w x v s n more sound kept closing old may to sessions quiet is. open-stop starts w sound kept closing old x v s n may to sessions more quiet is
