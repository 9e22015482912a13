use Rattle.std.proofs.Common.{◌≡◌, ◌∙◌, take, ap}
use Rattle.dr_sweep.specs.Losses.{AreLeast}
use Rattle.dr_session.proofs.PlaceLemmas.{if-ok}
use Rattle.dr_sweep.proofs.LossLemmas.{least-are}
use Rattle.dr_sweep.proofs.losses.least.Goals as goal

pub returns : goal.returns
returns c =
    let keys = c.args.set.now.keys in
    let ordered = c.in_ok-numbers.numbers.items in
    let n = c.min.result in
    if-ok (λ v. v.items ≡ take n c.deref.result.now) (λ v. AreLeast keys v.items) c.from_slice.result
    (λ v are. least-are keys ordered v.items n c.len.result c.in_ok-numbers.ensures.same c.in_ok-numbers.ensures.ascending (c.len.ensures ∙ c.in_ok-numbers.numbers.ok.0) c.min.ensures (are ∙ ap (take n) c.deref.ensures.value))
    c.from_slice.ensures.items
