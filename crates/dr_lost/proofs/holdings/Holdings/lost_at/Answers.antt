use Rattle.std.proofs.Common.{ap, ◌∙◌}
use Rattle.dr_lost.specs.Lost.{each_once, lacking}
use Rattle.dr_lost.proofs.SetLemmas.{lacking-set}
use Rattle.dr_lost.proofs.holdings.Holdings.lost_at.Goals as goal

pub returns : goal.returns
returns c = λ a b s e.
    let p = c.args.pair in
    let t = c.args.track in
    let left = c.in_ok-left.ensures ∙ ap each_once (c.deref.ensures.value ∙ c.in_ok-list.ensures b e) in
    c.keep_lacking.ensures
    ∙ (lacking-set c.in_ok-left.left.keys (b.now p.first t) c.in_ok-writes.writes.items left
    ∙ ap (λ ws. lacking ws (b.now p.first t)) (c.in_ok-writes.ensures a s))
