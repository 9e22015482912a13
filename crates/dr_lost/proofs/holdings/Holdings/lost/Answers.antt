use Rattle.std.proofs.Common.{[], get_or, nat_eq, ap, ◌∙◌, arith}
use Rattle.std.proofs.lemmas.List.{take_all}
use Rattle.std.specs.List.{flat_map}
use Rattle.indexmap.specs.IndexSet.{insert_all}
use Rattle.dr_lost.specs.declared.lost.Pair.{Pair}
use Rattle.dr_lost.specs.Lost.{each_once, lost_by}
use Rattle.dr_lost.proofs.SetLemmas.{each-more, lost-members}
use Rattle.dr_lost.proofs.holdings.Holdings.lost.Goals as goal

pub loop-pair-preserved : goal.loop-pair-preserved
loop-pair-preserved c = λ a b s e.
    let f = lost_by 256 a.now b.now in
    let pairs = c.args.pairs.now in
    let i = c.loop-pair.pair-index in
    let none : Pair = record { second = 0; first = 0 } in
    c.in_ok-add_lost.ensures a b s e ∙ (ap (λ ks. insert_all nat_eq ks (f (get_or pairs i none))) (c.loop-pair.invariant a b s e) ∙ each-more f [] pairs i none (omega arith))

pub returns-clause-writes : goal.returns-clause-writes
returns-clause-writes c = λ a b s e.
    c.loop-pair.invariant a b s e ∙ ap (λ ps. each_once (flat_map (lost_by 256 a.now b.now) ps)) (take_all c.loop-pair.pair-index c.args.pairs.now (omega arith))

pub returns-clause-members : goal.returns-clause-members
returns-clause-members c = λ a b s e w.
    lost-members 256 a.now b.now c.args.pairs.now w c.loop-pair.lost.keys
    (c.loop-pair.invariant a b s e ∙ ap (λ ps. each_once (flat_map (lost_by 256 a.now b.now) ps)) (take_all c.loop-pair.pair-index c.args.pairs.now (omega arith)))
