use Rattle.std.proofs.Common.{◌++◌, List, ap, sym, ◌∙◌, arith}
use Rattle.std.specs.Option.{option_copied}
use Rattle.dr_plan.specs.Sweep.{Tried}
use Rattle.dr_sweep.specs.Calm.{RunHeard, calm_steps, none_heard, heard_calm}
use Rattle.dr_sweep.specs.Seen.{calm_seen}
use Rattle.dr_sweep.proofs.TellLemmas.{fold-more, heard-few}
use Rattle.dr_sweep.proofs.calm.heard_of.Goals as goal

pub loop-place-preserved : goal.loop-place-preserved
loop-place-preserved c =
    let es = c.args.journal.now.events in
    let plan = c.args.plan.now in
    let e = c.unwrap.result.now in
    let old : RunHeard = calm_seen c.loop-place.heard in
    let few = heard-few (c.deref.result.now ++ plan.tried) old e in
    let same = ap (λ (h : RunHeard). h.steps) c.in_ok-hear.ensures in
    let so_far = c.loop-place.invariant.few in
    record {
      heard =
          c.in_ok-hear.ensures
          ∙ ap (λ (ts : List Tried). heard_calm (ts ++ plan.tried) old e) (c.deref.ensures.value ∙ c.in_ok-setup.ensures)
          ∙ ap (λ (h : RunHeard). heard_calm (calm_steps plan) h e) c.loop-place.invariant.heard
          ∙ sym (fold-more (heard_calm (calm_steps plan)) none_heard es c.loop-place.place e (sym c.event.ensures ∙ ap option_copied c.unwrap.ensures));
      few = omega (arith, few, same, so_far);
    }
