use Rattle.std.proofs.Common.{◌∙◌, ◌-◌, take, drop, length, ap}
use Rattle.std.specs.Prelude.{count_by}
use Rattle.std.specs.List.{position}
use Rattle.dr_lost.specs.Lost.{each_once}
use Rattle.dr_sweep.specs.Acks.{among}
use Rattle.dr_sweep.proofs.TellLemmas.{age-is}
use Rattle.dr_sweep.proofs.acks.age.Goals as goal

pub returns : goal.returns
returns c =
    let first = c.in-Some.first in
    let keys = c.in_ok-set.set.keys in
    let lost = c.args.lost.now.keys in
    c.count_in.ensures
    ∙ ap (λ ws. count_by (among keys) (take (length ws - first) (drop first ws))) c.deref-3.ensures.value
    ∙ age-is lost c.args.volumes.now c.in_ok-writes.writes.items c.in_ok-issued.issued.items keys (take c.args.end c.args.journal.now.events) first c.in_ok-writes.ensures c.in_ok-issued.ensures (c.in_ok-set.ensures ∙ ap each_once c.deref-2.ensures.value) (c.in-Some.ensures.place ∙ ap (position (among lost)) c.deref.ensures.value)
