use Rattle.std.proofs.Common.{◌≡◌, ◌<◌, length, arith}
use Rattle.dr_gmirror.proofs.ReportLemmas.{noted-shown, noted-trimmed}
use Rattle.dr_gmirror.proofs.settling.note.Goals as goal

pub returns-clause-shown : goal.returns-clause-shown
returns-clause-shown c =
    let r = c.args.report.now in
    let low : r.count < 64 = c.requires in
    let long : length r.seqs ≡ 64 = omega arith in
    let also : length r.revertible ≡ 64 = omega arith in
    noted-shown r c.from-at.result c.args.sequence c.args.revertible c.from-at.ensures (omega (arith, low, long)) (omega (arith, low, also))

pub returns-clause-trimmed : goal.returns-clause-trimmed
returns-clause-trimmed c trimmed = noted-trimmed c.args.report.now c.from-at.result c.args.sequence c.args.revertible c.from-at.ensures trimmed
