use Rattle.std.proofs.Common.{◌≡◌, ◌∙◌, List, subst}
use Rattle.std.specs.Prelude.{IfOk}
use Rattle.dr_lost.specs.declared.lost.Pair.{Pair}
use Rattle.dr_lost.specs.Lost.{lost_writes}
use Rattle.dr_sweep.proofs.losses.lost_between.Goals as goal

pub returns : goal.returns
returns c a b before at_end =
    subst (λ (pairs : List Pair). IfOk c.lost.result (λ lost. lost.keys ≡ lost_writes a.now b.now pairs)) (c.deref.ensures.value ∙ c.in_ok-pairs_of.ensures)
    (c.lost.ensures.writes a b before at_end)
