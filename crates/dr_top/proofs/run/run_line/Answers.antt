use Rattle.std.proofs.Common.{◌≤◌, ◌∙◌, take, refl, sym, ap, subst, length, Ok, Err}
use Rattle.std.specs.Prelude.{OnOk, OnErr}
use Rattle.std.specs.List.{fold}
use Rattle.dr_model.specs.Text.{heard, untold}
use Rattle.dr_model.specs.Lines.{tasks_of}
use Rattle.dr_top.specs.Carried.{GoesTo}
use Rattle.dr_top.specs.Followed.{text_since}
use Rattle.dr_io.specs.Given.{Gave, GavePart}
use Rattle.dr_steps.specs.Here.{here}
use Rattle.dr_top.specs.declared.carry.Bar.TheVariants.{Full as BarFull, NoMemory as BarNoMemory}
use Rattle.dr_top.specs.declared.run.Halt.TheVariants.{NoMemory, Full}
use Rattle.dr_top.proofs.RunLemmas.{carried-longer, carried-before, ran-line, lacks, ends-whole, ends-failed}
use Rattle.dr_top.proofs.run.run_line.Goals as goal

pub print_from-requires : goal.print_from-requires
print_from-requires g c =
    let w = here (g.P.Plant.state c.args.plant.now) c.args.config.now c.args.tables.now c.args.journal.now.events in
    let u = here (g.P.Plant.state c.carry_line.new.plant) c.carry_line.new.config c.carry_line.new.tables c.carry_line.new.journal.events in
    let goes = c.carry_line.ensures.goes in
    record {
      within = subst (λ n. n ≤ length u.events) (sym c.len-from.ensures) (carried-longer g.K.Sink.written c.args.sink.now c.args.sink.now w u (g.P.Plant.state c.args.plant.now).block (g.P.Plant.state c.carry_line.new.plant).block (tasks_of c.args.number c.args.line.now) c.carry_line.result goes);
      heard = c.requires.heard ∙ ap (λ es. fold heard untold es) (sym (carried-before g.K.Sink.written c.args.sink.now c.args.sink.now w u (g.P.Plant.state c.args.plant.now).block (g.P.Plant.state c.carry_line.new.plant).block (tasks_of c.args.number c.args.line.now) c.carry_line.result goes) ∙ ap (λ n. take n u.events) (sym c.len-from.ensures));
    }

pub print_from-requires-in-Err-Full-clause-heard : goal.print_from-requires-in-Err-Full-clause-heard
print_from-requires-in-Err-Full-clause-heard g c =
    let w = here (g.P.Plant.state c.args.plant.now) c.args.config.now c.args.tables.now c.args.journal.now.events in
    let u = here (g.P.Plant.state c.carry_line.new.plant) c.carry_line.new.config c.carry_line.new.tables c.carry_line.new.journal.events in
    c.requires.heard ∙ ap (λ es. fold heard untold es) (sym (carried-before g.K.Sink.written c.args.sink.now c.args.sink.now w u (g.P.Plant.state c.args.plant.now).block (g.P.Plant.state c.carry_line.new.plant).block (tasks_of c.args.number c.args.line.now) c.carry_line.result c.carry_line.ensures.goes) ∙ ap (λ n. take n u.events) (sym c.len-from.ensures))

pub returns-in-Ok-clause-ran : goal.returns-in-Ok-clause-ran
returns-in-Ok-clause-ran g c =
    let w = here (g.P.Plant.state c.args.plant.now) c.args.config.now c.args.tables.now c.args.journal.now.events in
    let u = here (g.P.Plant.state c.carry_line.new.plant) c.carry_line.new.config c.carry_line.new.tables c.carry_line.new.journal.events in
    let sink = c.args.sink.now in
    let after = c.print_from.new.sink in
    let end = c.print_from.result in
    ran-line g.K.Sink.written sink after w u (g.P.Plant.state c.args.plant.now).block (g.P.Plant.state c.carry_line.new.plant).block (tasks_of c.args.number c.args.line.now) (Ok tt) c.in-Ok.ensures.goes end
    (ends-whole g.K.Sink.written sink after c.in-Ok.ensures.goes.done (tasks_of c.args.number c.args.line.now) u (text_since u.events (length w.events)) end c.in-Ok.ensures.goes.ends
    (subst (λ n. OnOk end (Gave g.K.Sink.written sink after (text_since u.events n))) c.len-from.ensures c.print_from.ensures.whole)
    (subst (λ n. OnErr end (GavePart g.K.Sink.written sink after (text_since u.events n))) c.len-from.ensures c.print_from.ensures.part)
    c.print_from.ensures.full c.print_from.ensures.none)

pub returns-in_err-print_from-in-Err-Full-clause-ran : goal.returns-in_err-print_from-in-Err-Full-clause-ran
returns-in_err-print_from-in-Err-Full-clause-ran g c =
    let w = here (g.P.Plant.state c.args.plant.now) c.args.config.now c.args.tables.now c.args.journal.now.events in
    let u = here (g.P.Plant.state c.carry_line.new.plant) c.carry_line.new.config c.carry_line.new.tables c.carry_line.new.journal.events in
    let sink = c.args.sink.now in
    let after = c.print_from-in-Err-Full.new.sink in
    let goes = subst (λ b. GoesTo w (g.P.Plant.state c.args.plant.now).block (tasks_of c.args.number c.args.line.now) u (g.P.Plant.state c.carry_line.new.plant).block (Err b)) c.in-Err-Full.field-0-is c.in-Err-Full.ensures.goes in
    ran-line g.K.Sink.written sink after w u (g.P.Plant.state c.args.plant.now).block (g.P.Plant.state c.carry_line.new.plant).block (tasks_of c.args.number c.args.line.now) (Err BarFull) goes c.from_residual.result
    (ends-failed g.K.Sink.written sink after goes.done (tasks_of c.args.number c.args.line.now) u (text_since u.events (length w.events)) c.from_residual.result
    c.in_err-print_from-in-Err-Full.field-0.0 c.from_residual.ensures.1 goes.ends
    (subst (λ n. GavePart g.K.Sink.written sink after (text_since u.events n)) c.len-from.ensures c.in_err-print_from-in-Err-Full.ensures.part)
    c.in_err-print_from-in-Err-Full.ensures.full c.in_err-print_from-in-Err-Full.ensures.none)

pub returns-in_ok-print_from-in-Err-Full-clause-ran : goal.returns-in_ok-print_from-in-Err-Full-clause-ran
returns-in_ok-print_from-in-Err-Full-clause-ran g c =
    let w = here (g.P.Plant.state c.args.plant.now) c.args.config.now c.args.tables.now c.args.journal.now.events in
    let u = here (g.P.Plant.state c.carry_line.new.plant) c.carry_line.new.config c.carry_line.new.tables c.carry_line.new.journal.events in
    let goes = subst (λ b. GoesTo w (g.P.Plant.state c.args.plant.now).block (tasks_of c.args.number c.args.line.now) u (g.P.Plant.state c.carry_line.new.plant).block (Err b)) c.in-Err-Full.field-0-is c.in-Err-Full.ensures.goes in
    ran-line g.K.Sink.written c.args.sink.now c.print_from-in-Err-Full.new.sink w u (g.P.Plant.state c.args.plant.now).block (g.P.Plant.state c.carry_line.new.plant).block (tasks_of c.args.number c.args.line.now) (Err BarFull) goes (Err Full)
    (goes.ends, subst (λ n. Gave g.K.Sink.written c.args.sink.now c.print_from-in-Err-Full.new.sink (text_since u.events n)) c.len-from.ensures c.in_ok-print_from-in-Err-Full.ensures.whole)

pub returns-in-Err-NoMemory-clause-ran : goal.returns-in-Err-NoMemory-clause-ran
returns-in-Err-NoMemory-clause-ran g c =
    let w = here (g.P.Plant.state c.args.plant.now) c.args.config.now c.args.tables.now c.args.journal.now.events in
    let u = here (g.P.Plant.state c.carry_line.new.plant) c.carry_line.new.config c.carry_line.new.tables c.carry_line.new.journal.events in
    let goes = subst (λ b. GoesTo w (g.P.Plant.state c.args.plant.now).block (tasks_of c.args.number c.args.line.now) u (g.P.Plant.state c.carry_line.new.plant).block (Err b)) c.in-Err-NoMemory.field-0-is c.in-Err-NoMemory.ensures.goes in
    ran-line g.K.Sink.written c.args.sink.now c.args.sink.now w u (g.P.Plant.state c.args.plant.now).block (g.P.Plant.state c.carry_line.new.plant).block (tasks_of c.args.number c.args.line.now) (Err BarNoMemory) goes (Err NoMemory)
    (lacks goes.done (tasks_of c.args.number c.args.line.now) u goes.ends, refl)
