use Rattle.std.proofs.Common.{List, ◌∷◌, [], ◌++◌, ◌∙◌, ap, sym, subst, take}
use Rattle.std.proofs.lemmas.List.{take_more}
use Rattle.dr_model.specs.declared.grammar.Item.{Item}
use Rattle.dr_plan.specs.Sweep.{Use as HostUse}
use Rattle.dr_rows.specs.Outcome.{Loss}
use Rattle.dr_sweep.specs.Losses.{AreLosses, IsLoss}
use Rattle.dr_sweep.proofs.LossLemmas.{losses-more}
use Rattle.dr_sweep.proofs.losses.losses_between.Goals as goal

pub loop-u-preserved : goal.loop-u-preserved
loop-u-preserved c =
    let events = c.args.journal.now.events in
    let begin = c.args.begin in
    let uses = c.args.uses.now in
    let i = c.loop-u.u-index in
    let u : HostUse = c.u-item.result in
    let loss : Loss = c.in_ok-loss_of.field-0 in
    let further = take_more uses i u c.loop-u-test.true ∙ ap (λ (x : HostUse). take i uses ++ x ∷ []) (sym {A = HostUse} c.u-item.is) in
    subst (λ (us : List HostUse). AreLosses events begin us c.push.new.self.items) (sym {A = List HostUse} further)
    (subst (λ (ls : List Loss). AreLosses events begin (take i uses ++ u ∷ []) ls) (sym c.in_ok-push.ensures.items)
    (losses-more events begin (take i uses) u c.loop-u.losses.items loss c.loop-u.invariant (subst (λ (pairs : List Item). IsLoss events begin pairs loss) c.pairs.ensures c.in_ok-loss_of.ensures)))
