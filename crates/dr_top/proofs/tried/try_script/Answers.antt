use Rattle.std.proofs.Common.{[], sym, subst, List}
use Rattle.dr_model.specs.declared.event.Event.{Event}
use Rattle.dr_top.specs.OpenRuns.{HasRun, GoesOn}
use Rattle.dr_top.proofs.OpenLemmas.{one-tried}
use Rattle.dr_top.proofs.tried.try_script.Goals as goal

pub carry_out-requires : goal.carry_out-requires
carry_out-requires g c =
    let s = g.P.Plant.state c.args.plant.now in
    record {
      began = s;
      steps = [];
      has = subst (λ (es : List Event). HasRun s s c.new-run.result es []) (sym c.requires.empty) (c.new-run.ensures.begins s c.requires.fresh);
    }

pub returns : goal.returns
returns g c =
    let s = g.P.Plant.state c.args.plant.now in
    let s' = g.P.Plant.state c.carry_out.new.plant in
    let events' = c.carry_out.new.journal.events in
    let begun = subst (λ (es : List Event). HasRun s s c.new-run.result es []) (sym c.requires.empty) (c.new-run.ensures.begins s c.requires.fresh) in
    let goes = subst (λ (es : List Event). GoesOn c.args.script.now c.new-run.result c.carry_out.new.self s s s' es events' [] c.carry_out.result) c.requires.empty (c.carry_out.ensures s [] begun) in
    one-tried c.args.script.now c.new-run.result c.carry_out.new.self c.new-run.ensures.lines c.new-run.ensures.bytes s s' events' c.carry_out.result goes
