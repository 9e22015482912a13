use Rattle.dr_laws_cuts.proofs.Worlds.{sound-nothing, sound-told, sound-issue, sound-defined}
use Rattle.dr_laws_cuts.proofs.Mays.{may-done, may-stop, open-done, open-stop}
use Rattle.dr_laws_cuts.proofs.cuts_stay_sound.Goals as goal

pub returns-clause-nothing : goal.returns-clause-nothing
returns-clause-nothing c = sound-nothing

pub returns-clause-done : goal.returns-clause-done
returns-clause-done c = λ starts w x u m sound old may to is. may-done starts w sound old x u m may to is

pub returns-clause-stopped : goal.returns-clause-stopped
returns-clause-stopped c = λ starts w x u m more sound old may to quiet is. may-stop starts w sound old x u m may to more quiet is

pub returns-clause-opened : goal.returns-clause-opened
returns-clause-opened c = λ starts w x u v s n sound old may to is. open-done starts w sound old x u v s n may to is

pub returns-clause-opened_in_stop : goal.returns-clause-opened_in_stop
returns-clause-opened_in_stop c = λ starts w x u v s n more sound old may to quiet is. open-stop starts w sound old x u v s n may to more quiet is

pub returns-clause-told : goal.returns-clause-told
returns-clause-told c = λ w x more old quiet is writes issued same. sound-told w old x more quiet is writes issued same

pub returns-clause-issued : goal.returns-clause-issued
returns-clause-issued c = λ w x v t offset len bytes old is issued same. sound-issue w old x v t offset len bytes is issued same

pub returns-clause-defined : goal.returns-clause-defined
returns-clause-defined c = λ w x more v y rows old quiet is writes issued undefined bare defines to. sound-defined w rows old x more quiet is writes issued v y undefined bare defines to
