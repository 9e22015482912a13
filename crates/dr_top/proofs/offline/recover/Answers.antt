use Rattle.std.proofs.Common.{◌≡◌, false, subst, sym}
use Rattle.dr_top.specs.Outcome.{is_write_fault}
use Rattle.dr_top.specs.Offline.{Reports}
use Rattle.dr_top.specs.declared.report.Report.{Report}
use Rattle.dr_top.proofs.OfflineLemmas.{read-proper, finished-so, text-reports, ends-reported}
use Rattle.dr_top.proofs.offline.recover.Goals as goal

pub report_of-requires : goal.report_of-requires
report_of-requires g c =
    let all = c.in-Ok.ensures in
    record { proper = read-proper all.text c.finish.result (finished-so c.read_pieces.new.image all.text c.finish.result all.works all.reads c.finish.ensures) }

pub put_report-requires : goal.put_report-requires
put_report-requires g c =
    let all = c.in-Ok.ensures in
    let is = c.in-Ok-report_of.ensures all.text (finished-so c.read_pieces.new.image all.text c.finish.result all.works all.reads c.finish.ensures) in
    subst (λ (report : Report). is_write_fault report.status ≡ false) (sym is) (text-reports c.args.session.0 all.text)

pub returns-in-Ok-report_of-clause-ends : goal.returns-in-Ok-report_of-clause-ends
returns-in-Ok-report_of-clause-ends g c =
    let all = c.in-Ok.ensures in
    let is = c.in-Ok-report_of.ensures all.text (finished-so c.read_pieces.new.image all.text c.finish.result all.works all.reads c.finish.ensures) in
    ends-reported g.S.Source.left g.K.Sink.written g.K.Sink.faults c.args.source.now c.read_pieces.new.source c.args.sink.now c.put_report.new.sink c.args.session.0 all.text c.put_report.result all.taken (subst (λ (report : Report). Reports g.K.Sink.written c.args.sink.now c.put_report.new.sink g.K.Sink.faults report c.put_report.result) is c.put_report.ensures)
