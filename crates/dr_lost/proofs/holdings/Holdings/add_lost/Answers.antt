use Rattle.std.proofs.Common.{nat_eq, ap, sym, ◌∙◌}
use Rattle.indexmap.specs.IndexSet.{insert_all}
use Rattle.dr_lost.specs.Lost.{lost_at}
use Rattle.dr_lost.proofs.SetLemmas.{tracks-more, tracks-none}
use Rattle.dr_lost.proofs.holdings.Holdings.add_lost.Goals as goal

pub loop-track-init : goal.loop-track-init
loop-track-init c = λ a b s e. sym (ap (insert_all nat_eq c.args.lost.now.keys) (tracks-none (lost_at a.now b.now c.args.pair)))

pub loop-track-preserved : goal.loop-track-preserved
loop-track-preserved c = λ a b s e.
    let t = c.loop-track.track in
    let f = lost_at a.now b.now c.args.pair in
    c.in_ok-add_all.ensures
    ∙ (ap (insert_all nat_eq c.loop-track.lost.keys) (c.deref.ensures.value ∙ c.in_ok-lost_at.ensures a b s e)
    ∙ (ap (λ ks. insert_all nat_eq ks (f t)) (c.loop-track.invariant a b s e) ∙ tracks-more f c.args.lost.now.keys t))
