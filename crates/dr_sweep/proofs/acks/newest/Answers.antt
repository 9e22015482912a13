use Rattle.std.proofs.Common.{ap, sym, ◌∙◌, None}
use Rattle.std.specs.Option.{option_copied}
use Rattle.dr_sweep.specs.Acks.{newer}
use Rattle.dr_sweep.proofs.TellLemmas.{fold-more}
use Rattle.dr_sweep.proofs.acks.newest.Goals as goal

pub loop-place-preserved : goal.loop-place-preserved
loop-place-preserved c =
    c.newer-last.ensures
    ∙ ap (λ o. newer o c.unwrap.result.now) c.loop-place.invariant
    ∙ sym (fold-more newer None c.args.journal.now.events c.loop-place.place c.unwrap.result.now (sym c.event.ensures ∙ ap option_copied c.unwrap.ensures))
