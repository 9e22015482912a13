use Rattle.std.proofs.Common.{◌≡◌, ◌≤◌, length, take, arith, sym, subst, ◌∙◌, ap}
use Rattle.std.proofs.Math.Nat.{min-le_right}
use Rattle.dr_master.specs.Seen.{reply_of}
use Rattle.dr_master.proofs.Reported.{length-shown}
use Rattle.dr_model.specs.Decisions.{shown_by}
use Rattle.dr_model.specs.Phases as phases
use Rattle.dr_gmirror.proofs.ReportLemmas.{places-shown}
use Rattle.dr_gmirror.proofs.exchanging.counted.Goals as goal

pub returns-in-Report-clause-says : goal.returns-in-Report-clause-says
returns-in-Report-clause-says c =
    let r = c.in-Report.shown in
    let long : length r.seqs ≡ 64 = omega arith in
    let also : length r.revertible ≡ 64 = omega arith in
    ap (λ xs. phases.Reported xs) (ap (λ n. take n (shown_by r.seqs r.revertible)) c.min.ensures ∙ places-shown 64 r.count r.seqs r.revertible long also)
    ∙ ap reply_of (sym c.in-Report.is)

pub returns-in-Report-clause-count : goal.returns-in-Report-clause-count
returns-in-Report-clause-count c =
    let r = c.in-Report.shown in
    let long : length r.seqs ≡ 64 = omega arith in
    let also : length r.revertible ≡ 64 = omega arith in
    let low : c.min.result ≤ 64 = subst (λ n. n ≤ 64) (sym c.min.ensures) (min-le_right r.count 64) in
    sym (length-shown c.min.result r.seqs r.revertible (omega (arith, low, long)) (omega (arith, low, also)))
