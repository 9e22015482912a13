use Rattle.std.proofs.Common.{◌∙◌, sym, ap, subst, take}
use Rattle.dr_rows.specs.Outcome.{Loss}
use Rattle.dr_sweep.specs.Acks.{age_of}
use Rattle.dr_sweep.specs.Losses.{SaysLoss}
use Rattle.dr_sweep.proofs.LossLemmas.{broken-by}
use Rattle.dr_sweep.proofs.losses.loss_by.Goals as goal

pub returns : goal.returns
returns c =
    let events = c.args.journal.now.events in
    let begin = c.args.begin in
    let lost = c.args.fates.now.lost.keys in
    let kept = c.args.fates.now.kept.keys in
    subst (λ (loss : Loss). SaysLoss events begin c.args.items.now lost kept loss) (sym c.new.ensures)
    (record {
      count = c.len.ensures.len;
      least = c.in_ok-least.ensures;
      age = c.in_ok-age.ensures ∙ ap (λ vs. age_of lost vs (take begin events)) (c.deref.ensures.value ∙ c.in_ok-seconds.ensures);
      broken = broken-by events kept lost c.first_broken-broken.result c.first_broken-broken.ensures.found c.first_broken-broken.ensures.none;
    })
