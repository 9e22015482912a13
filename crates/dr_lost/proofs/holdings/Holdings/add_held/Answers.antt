use Rattle.std.proofs.Common.{nat_eq, ap, sym, ◌∙◌}
use Rattle.indexmap.specs.IndexSet.{insert_all}
use Rattle.dr_lost.proofs.SetLemmas.{tracks-more, tracks-none}
use Rattle.dr_lost.proofs.holdings.Holdings.add_held.Goals as goal

pub loop-track-init : goal.loop-track-init
loop-track-init c = λ h s. sym (ap (insert_all nat_eq c.args.held.now.keys) (tracks-none (h.now c.args.volume)))

pub loop-track-preserved : goal.loop-track-preserved
loop-track-preserved c = λ h s.
    let t = c.loop-track.track in
    let f = h.now c.args.volume in
    c.in_ok-add_all.ensures
    ∙ (ap (insert_all nat_eq c.loop-track.held.keys) (c.deref.ensures.value ∙ c.in_ok-list.ensures h s)
    ∙ (ap (λ ks. insert_all nat_eq ks (f t)) (c.loop-track.invariant h s) ∙ tracks-more f c.args.held.now.keys t))
