use Rattle.std.proofs.Common.{◌∙◌, ap, subst, sym, length}
use Rattle.std.specs.Str.Lines.{lines}
use Rattle.dr_gen.specs.Trial.{script_text}
use Rattle.dr_top.specs.Offline.{Reports}
use Rattle.dr_top.specs.Tried.{IsTried}
use Rattle.dr_top.specs.Trials.{IsTrial, summary_report}
use Rattle.dr_top.specs.declared.report.Report.{Report}
use Rattle.dr_top.specs.declared.status.Status.TheVariants.{NoMemory}
use Rattle.dr_top.proofs.TrialLemmas.{all-tried, put-counts, trial-halted, trial-put, trial-unbegun, trial-unsaid}
use Rattle.dr_top.proofs.trial.trial.Goals as goal

pub returns-in_default : goal.returns-in_default
returns-in_default g c =
    let s = g.P.Plant.state c.args.plant.now in
    subst (λ events. IsTrial c.args.number g.K.Sink.written c.args.sink.now c.args.sink.now g.K.Sink.faults NoMemory events s s) (sym c.requires.empty)
    (trial-unbegun c.args.number g.K.Sink.written g.K.Sink.faults c.args.sink.now s c.requires.fresh)

pub returns-in-Ok-summary : goal.returns-in-Ok-summary
returns-in-Ok-summary g c =
    let n = c.args.number in
    let events = c.try_script.new.journal.events in
    let tried = subst (λ text. IsTried text c.try_script.result events (g.P.Plant.state c.args.plant.now) (g.P.Plant.state c.try_script.new.plant)) (c.bytes.ensures ∙ c.in-Ok.ensures) c.try_script.ensures in
    let report = c.in-Ok-summary.ensures ∙ ap (λ count. summary_report count events) (c.line_count.ensures ∙ ap (λ text. length (lines text)) (c.bytes-in-Done.ensures ∙ c.in-Ok.ensures)) in
    let put = subst (λ (r : Report). Reports g.K.Sink.written c.args.sink.now c.put_report.new.sink g.K.Sink.faults r c.put_report.result) report c.put_report.ensures in
    trial-put n g.K.Sink.written g.K.Sink.faults c.args.sink.now events (g.P.Plant.state c.args.plant.now) (g.P.Plant.state c.try_script.new.plant) c.try_script.result tried
    (all-tried n g.K.Sink.written g.K.Sink.faults c.args.sink.now events (g.P.Plant.state c.args.plant.now) (g.P.Plant.state c.try_script.new.plant) c.try_script.result tried c.in-Done.is)
    c.put_report.new.sink c.put_report.result put (put-counts g.K.Sink.written g.K.Sink.faults c.args.sink.now c.put_report.new.sink (summary_report (length (lines (script_text n))) events) c.put_report.result put)

pub returns-in-Done : goal.returns-in-Done
returns-in-Done g c =
    let n = c.args.number in
    let events = c.try_script.new.journal.events in
    let tried = subst (λ text. IsTried text c.try_script.result events (g.P.Plant.state c.args.plant.now) (g.P.Plant.state c.try_script.new.plant)) (c.bytes.ensures ∙ c.in-Ok.ensures) c.try_script.ensures in
    trial-unsaid n g.K.Sink.written g.K.Sink.faults c.args.sink.now events (g.P.Plant.state c.args.plant.now) (g.P.Plant.state c.try_script.new.plant) c.try_script.result tried
    (all-tried n g.K.Sink.written g.K.Sink.faults c.args.sink.now events (g.P.Plant.state c.args.plant.now) (g.P.Plant.state c.try_script.new.plant) c.try_script.result tried c.in-Done.is)

pub returns : goal.returns
returns g c =
    let n = c.args.number in
    let events = c.try_script.new.journal.events in
    let tried = subst (λ text. IsTried text c.try_script.result events (g.P.Plant.state c.args.plant.now) (g.P.Plant.state c.try_script.new.plant)) (c.bytes.ensures ∙ c.in-Ok.ensures) c.try_script.ensures in
    trial-halted n g.K.Sink.written g.K.Sink.faults c.args.sink.now events (g.P.Plant.state c.args.plant.now) (g.P.Plant.state c.try_script.new.plant)
    c.try_script.result tried c.in_default-try_script.not-Done c.in_default-try_script.not-DoneRefused
