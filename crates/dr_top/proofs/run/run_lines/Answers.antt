use Rattle.std.proofs.Common.{◌≤◌, ◌+◌, ◌∙◌, sym, ap, subst, arith, length, List, Ok, Err, refl}
use Rattle.std.specs.List.{fold}
use Rattle.dr_logic.specs.Counts.{Counted}
use Rattle.dr_model.specs.Text.{heard, untold}
use Rattle.dr_io.specs.Lines.{Progress, IsNext}
use Rattle.dr_io.specs.declared.line_reader.Taken.TheVariants.{TooLong as PastLimit}
use Rattle.dr_model.specs.declared.event.Event.{Event}
use Rattle.dr_model.specs.Control.{World}
use Rattle.dr_model.specs.Lines.{tasks_of}
use Rattle.dr_steps.specs.Faults.{told_stop}
use Rattle.dr_steps.specs.Here.{here}
use Rattle.dr_top.specs.Outcome.{has_refusal}
use Rattle.dr_top.specs.Reports.{RanBy}
use Rattle.dr_top.specs.Ran.{RanLine}
use Rattle.dr_top.specs.declared.status.Status.{Status}
use Rattle.dr_top.proofs.EndLemmas.{Going, going-first, going-next, ran-halted, ran-all, ran-long, ran-fault, going-reached, fault-not}
use Rattle.dr_top.proofs.TakenLemmas.{takes-line, takes-all, takes-part}
use Rattle.dr_top.proofs.run.run_lines.Goals as goal

pub loop-number-init : goal.loop-number-init
loop-number-init g c =
    let w = here (g.P.Plant.state c.args.plant.now) c.args.config.now c.args.tables.now c.args.journal.now.events in
    let none = ap (λ (w : World). w.events) c.requires.begins in
    let s = c.args.source.now in
    let k = c.args.sink.now in
    record {
      going = subst (λ (p : Progress). Going g.S.Source.left g.S.Source.faults g.K.Sink.written g.K.Sink.faults s k s k p 0 w (g.P.Plant.state c.args.plant.now).block) (sym c.new-reader.ensures)
          (going-first g.S.Source.left g.S.Source.faults g.K.Sink.written g.K.Sink.faults s k w (g.P.Plant.state c.args.plant.now).block c.requires.begins);
      heard = c.new-told.ensures ∙ ap (λ es. fold heard untold es) (sym none);
      ready = c.requires.ready;
      stops = subst (λ es. Counted (told_stop es) (g.P.Plant.state c.args.plant.now).faults (g.P.Plant.state c.args.plant.now).faults) (sym none) refl;
      room = subst (λ (es : List Event). length es ≤ _) (sym none) (omega arith);
    }

pub run_line-requires-clause-reached : goal.run_line-requires-clause-reached
run_line-requires-clause-reached g c = going-reached g.S.Source.left g.S.Source.faults g.K.Sink.written g.K.Sink.faults c.args.source.now c.args.sink.now _ _ _ _ _ _ c.loop-number.invariant.going

pub returns-in-Ok-End-clause-ran : goal.returns-in-Ok-End-clause-ran
returns-in-Ok-End-clause-ran g c =
    let left = g.S.Source.left in
    let faults = g.S.Source.faults in
    let s0 = c.args.source.now in
    let w = here (g.P.Plant.state c.loop-number.plant) c.loop-number.config c.loop-number.tables c.loop-number.journal.events in
    let going = c.loop-number.invariant.going in
    let next = subst (λ t. IsNext left faults c.loop-number.source c.next.new.source c.loop-number.reader c.next.new.self (Ok t)) c.in-Ok-End.field-0-is c.in-Ok-End.ensures.next in
    subst (λ (st : Status). RanBy left g.K.Sink.written s0 c.next.new.source c.args.sink.now c.loop-number.sink faults g.K.Sink.faults st w (g.P.Plant.state c.loop-number.plant).block) (sym c.whole_status.ensures)
    (ran-all left faults g.K.Sink.written g.K.Sink.faults s0 c.args.sink.now c.loop-number.source c.next.new.source c.loop-number.sink c.loop-number.reader c.next.new.self c.loop-number.number w (g.P.Plant.state c.loop-number.plant).block going
    (has_refusal w.events) refl (takes-all left faults s0 c.loop-number.source c.next.new.source c.loop-number.reader c.next.new.self going.before going.stands next))

pub returns-in-Ok-TooLong-clause-ran : goal.returns-in-Ok-TooLong-clause-ran
returns-in-Ok-TooLong-clause-ran g c =
    let left = g.S.Source.left in
    let faults = g.S.Source.faults in
    let s0 = c.args.source.now in
    let w = here (g.P.Plant.state c.loop-number.plant) c.loop-number.config c.loop-number.tables c.loop-number.journal.events in
    let going = c.loop-number.invariant.going in
    let next = subst (λ t. IsNext left faults c.loop-number.source c.next.new.source c.loop-number.reader c.next.new.self (Ok t)) c.in-Ok-TooLong.field-0-is c.in-Ok-TooLong.ensures.next in
    ran-long left faults g.K.Sink.written g.K.Sink.faults s0 c.args.sink.now c.loop-number.source c.next.new.source c.loop-number.sink c.loop-number.reader c.next.new.self c.loop-number.number w (g.P.Plant.state c.loop-number.plant).block going
    (takes-part left faults s0 c.loop-number.source c.next.new.source c.loop-number.reader c.next.new.self going.before going.stands (Ok PastLimit) (λ e. cc) next)

pub returns-in-Err-clause-ran : goal.returns-in-Err-clause-ran
returns-in-Err-clause-ran g c =
    let left = g.S.Source.left in
    let faults = g.S.Source.faults in
    let s0 = c.args.source.now in
    let w = here (g.P.Plant.state c.loop-number.plant) c.loop-number.config c.loop-number.tables c.loop-number.journal.events in
    let going = c.loop-number.invariant.going in
    ran-fault left faults g.K.Sink.written g.K.Sink.faults s0 c.args.sink.now c.loop-number.source c.next.new.source c.loop-number.sink c.loop-number.reader c.next.new.self c.loop-number.number w (g.P.Plant.state c.loop-number.plant).block going
    c.in-Err.field-0 (takes-part left faults s0 c.loop-number.source c.next.new.source c.loop-number.reader c.next.new.self going.before going.stands (Err c.in-Err.field-0) (fault-not c.in-Err.field-0) c.in-Err.ensures.next)

pub loop-number-preserved : goal.loop-number-preserved
loop-number-preserved g c =
    let left = g.S.Source.left in
    let faults = g.S.Source.faults in
    let written = g.K.Sink.written in
    let s0 = c.args.source.now in
    let p' = c.next.new.self in
    let w = here (g.P.Plant.state c.loop-number.plant) c.loop-number.config c.loop-number.tables c.loop-number.journal.events in
    let u = here (g.P.Plant.state c.run_line.new.plant) c.run_line.new.config c.run_line.new.tables c.run_line.new.journal.events in
    let going = c.loop-number.invariant.going in
    let next = subst (λ t. IsNext left faults c.loop-number.source c.next.new.source c.loop-number.reader p' (Ok t)) c.in-Ok-Line.field-0-is c.in-Ok-Line.ensures.next in
    let took = takes-line left faults s0 c.loop-number.source c.next.new.source c.loop-number.reader p' going.before going.stands c.in-Ok-Line.ensures.near next in
    let ran = subst (λ line. RanLine written c.loop-number.sink c.run_line.new.sink w (g.P.Plant.state c.loop-number.plant).block (tasks_of (c.loop-number.number + 1) line) u (g.P.Plant.state c.run_line.new.plant).block (Ok tt)) c.line-line.ensures c.in-Ok.ensures.ran in
    record {
      going = going-next left faults written g.K.Sink.faults s0 c.args.sink.now c.loop-number.source c.next.new.source c.loop-number.sink c.run_line.new.sink c.loop-number.reader p' c.loop-number.number w u (g.P.Plant.state c.loop-number.plant).block (g.P.Plant.state c.run_line.new.plant).block going took
          ran c.in-Ok.ensures.faults;
      heard = c.in-Ok.ensures.heard;
      ready = c.in-Ok.ensures.ready;
      stops = c.in-Ok.ensures.stops (g.P.Plant.state c.args.plant.now).faults c.loop-number.invariant.stops;
      room = c.in-Ok.ensures.room;
    }

pub returns-in-Err-run_line-clause-ran : goal.returns-in-Err-run_line-clause-ran
returns-in-Err-run_line-clause-ran g c =
    let left = g.S.Source.left in
    let faults = g.S.Source.faults in
    let written = g.K.Sink.written in
    let s0 = c.args.source.now in
    let p' = c.next.new.self in
    let w = here (g.P.Plant.state c.loop-number.plant) c.loop-number.config c.loop-number.tables c.loop-number.journal.events in
    let u = here (g.P.Plant.state c.run_line.new.plant) c.run_line.new.config c.run_line.new.tables c.run_line.new.journal.events in
    let going = c.loop-number.invariant.going in
    let next = subst (λ t. IsNext left faults c.loop-number.source c.next.new.source c.loop-number.reader p' (Ok t)) c.in-Ok-Line.field-0-is c.in-Ok-Line.ensures.next in
    let took = takes-line left faults s0 c.loop-number.source c.next.new.source c.loop-number.reader p' going.before going.stands c.in-Ok-Line.ensures.near next in
    let ran = subst (λ line. RanLine written c.loop-number.sink c.run_line.new.sink w (g.P.Plant.state c.loop-number.plant).block (tasks_of (c.loop-number.number + 1) line) u (g.P.Plant.state c.run_line.new.plant).block (Err c.in-Err-run_line.halt)) c.line-line.ensures c.in-Err-run_line.ensures.ran in
    subst (λ (st : Status). RanBy left written s0 c.next.new.source c.args.sink.now c.run_line.new.sink faults g.K.Sink.faults st u (g.P.Plant.state c.run_line.new.plant).block) (sym c.status.ensures)
    (ran-halted left faults written g.K.Sink.faults s0 c.args.sink.now c.loop-number.source c.next.new.source c.loop-number.sink c.run_line.new.sink c.loop-number.reader p' c.loop-number.number w u (g.P.Plant.state c.loop-number.plant).block (g.P.Plant.state c.run_line.new.plant).block going took
    c.in-Err-run_line.halt ran c.in-Err-run_line.ensures.faults)
