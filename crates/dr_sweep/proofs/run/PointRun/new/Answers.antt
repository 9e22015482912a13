use Rattle.dr_sweep.specs.Seen.{run_seen}
use Rattle.std.proofs.Common.{List, [], refl, subst, sym}
use Rattle.dr_plant.specs.Model.{state_of}
use Rattle.dr_model.specs.declared.event.Event.{Event}
use Rattle.dr_top.specs.OpenRuns.{HasRun}
use Rattle.dr_sweep.proofs.run.PointRun.new.Goals as goal

pub returns-clause-begins : goal.returns-clause-begins
unfolding run_seen
returns-clause-begins c =
    let s = state_of c.new-plant.result in
    record {
      has = subst (λ (es : List Event). HasRun s s c.new-run.result es []) (sym c.new-journal.ensures.events) (c.new-run.ensures.begins s c.new-plant.ensures.fresh);
      asks = refl;
      lines = c.new-run.ensures.lines;
      bytes = c.new-run.ensures.bytes;
    }
