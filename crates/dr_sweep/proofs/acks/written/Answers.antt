use Rattle.std.proofs.Common.{◌≡◌, ◌∙◌, ◌≤◌, List, ℕ, ap, subst, length, arith}
use Rattle.std.specs.Prelude.{IfOk}
use Rattle.std.specs.List.{filter_map}
use Rattle.std.proofs.lemmas.List.{take_all}
use Rattle.dr_lost.specs.Lost.{each_once}
use Rattle.dr_sweep.specs.Acks.{acked_in, volume_by}
use Rattle.dr_sweep.proofs.TellLemmas.{volumes-once}
use Rattle.dr_sweep.proofs.acks.written.Goals as goal

pub returns : goal.returns
returns c =
    let es = c.args.journal.now.events in
    let few : length es ≤ c.len.result = let len = c.len.ensures in omega (arith, len) in
    let writes = c.deref.ensures.value ∙ c.in_ok-writes.ensures ∙ ap acked_in (take_all c.len.result es few) in
    subst (λ (vs : List ℕ). IfOk c.volumes_of.result (λ volumes. volumes.items ≡ vs))
    (ap (λ ws. filter_map (volume_by ws) es) (c.in_ok-set.ensures ∙ ap each_once writes) ∙ volumes-once (acked_in es) es)
    c.volumes_of.ensures
