use Rattle.std.proofs.Common.{◌≡◌, ℕ, length, ap, sym, ◌∙◌, arith, ◌==◌}
use Rattle.std.proofs.lemmas.Bool.{eqb-true}
use Rattle.dr_model.specs.PlantImage.{ended}
use Rattle.dr_report.specs.Found.{found_by}
use Rattle.dr_report.specs.Known.{all_known}
use Rattle.dr_report.specs.Report.{counted, decided_over, report_by}
use Rattle.dr_report.proofs.FoundLaws.{counted-few, counted-length, decided-known, found-none, found-some, found-text}
use Rattle.dr_report.proofs.found.found_by.Goals as goal

pub returns-then-is_empty : goal.returns-then-is_empty
returns-then-is_empty c =
    let s = c.args.session.0 in
    let ds = c.args.devices.now in
    let ns = c.args.numbers.now in
    let ks = all_known ds in
    let none : length ns ≡ 0 = eqb-true (length ns) 0 (sym c.is_empty.ensures ∙ c.if-is_empty.true) in
    found-none (counted s ks) (decided_over s ks) (ended (report_by s (decided_over s ks) ks)) (sym (counted-length s ds ns c.requires.numbers) ∙ none)

pub overflow_cast-members : goal.overflow_cast-members
overflow_cast-members c =
    let few = counted-few c.args.session.0 c.args.devices.now c.args.numbers.now c.requires.numbers c.requires.few in
    record { fits = omega arith }

pub decide-requires-clause-few : goal.decide-requires-clause-few
decide-requires-clause-few c = counted-few c.args.session.0 c.args.devices.now c.args.numbers.now c.requires.numbers c.requires.few

pub returns-in-Impossible : goal.returns-in-Impossible
returns-in-Impossible c =
    let s = c.args.session.0 in
    let ds = c.args.devices.now in
    let ns = c.args.numbers.now in
    let ks = all_known ds in
    let d = sym c.in-Impossible.is ∙ c.decide.ensures ∙ decided-known s ds ns c.requires.numbers c.args.revertible.now c.requires.revertible in
    ap (λ x. found_by x (ended (report_by s (decided_over s ks) ks))) d
    ∙ found-some (counted s ks) (decided_over s ks) (ended (report_by s (decided_over s ks) ks)) (ap (λ (n : ℕ). n == 0) (sym (counted-length s ds ns c.requires.numbers)) ∙ sym c.is_empty.ensures ∙ c.if-is_empty.false)

pub report-requires : goal.report-requires
report-requires c = counted-length c.args.session.0 c.args.devices.now c.args.numbers.now c.requires.numbers

pub returns-in_ok-report-in_default : goal.returns-in_ok-report-in_default
returns-in_ok-report-in_default c =
    let s = c.args.session.0 in
    let ds = c.args.devices.now in
    let ns = c.args.numbers.now in
    let ks = all_known ds in
    let d = c.decide.ensures ∙ decided-known s ds ns c.requires.numbers c.args.revertible.now c.requires.revertible in
    found-text c.decide.result c.in_ok-report-in_default.field-0 c.in_default.not-Impossible
    ∙ (λ i. found_by (d i) (c.in_ok-report-in_default.ensures i))
    ∙ ap (λ x. found_by (decided_over s ks) (ended (report_by s x ks))) d
    ∙ found-some (counted s ks) (decided_over s ks) (ended (report_by s (decided_over s ks) ks)) (ap (λ (n : ℕ). n == 0) (sym (counted-length s ds ns c.requires.numbers)) ∙ sym c.is_empty.ensures ∙ c.if-is_empty.false)
