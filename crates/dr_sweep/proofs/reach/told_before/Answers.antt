use Rattle.std.proofs.Common.{◌∙◌, ap, sym, arith}
use Rattle.std.specs.Prelude.{slice_get}
use Rattle.std.specs.Option.{option_map_or}
use Rattle.dr_list.specs.Seen.{heard_seen}
use Rattle.dr_model.specs.Text.{heard}
use Rattle.dr_sweep.proofs.TellLemmas.{heard-more}
use Rattle.dr_sweep.proofs.reach.told_before.Goals as goal

pub loop-i-preserved : goal.loop-i-preserved
loop-i-preserved c =
    let es = c.args.journal.now.events in
    let i = c.loop-i.i in
    c.hear_at.ensures
    ∙ ap (λ e. option_map_or (λ x. heard (heard_seen c.loop-i.told) x) e (heard_seen c.loop-i.told)) c.event.ensures
    ∙ ap (λ h. option_map_or (λ x. heard h x) (slice_get es i) h) c.loop-i.invariant
    ∙ sym (heard-more es i (let lt = c.loop-i-test.true in let few = c.requires in omega (arith, lt, few)))
