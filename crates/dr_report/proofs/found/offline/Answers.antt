use Rattle.std.proofs.Common.{◌≡◌, ◌↔◌, ℕ, [], ap, sym, ◌∙◌}
use Rattle.std.proofs.lemmas.Result.{IfOk-weaker}
use Rattle.dr_ids.specs.declared.refusal.Decision.TheVariants.{Impossible}
use Rattle.dr_model.specs.Offline.{counted_in, decided_of, offline_text, records_in}
use Rattle.dr_model.specs.SessionEntries.{shown_of}
use Rattle.dr_report.specs.declared.found.Found.{Found}
use Rattle.dr_report.specs.declared.found.Found.TheVariants.{Contradiction, NoMembers}
use Rattle.dr_report.specs.Found.{found_in, found_known}
use Rattle.dr_report.specs.Known.{all_known}
use Rattle.dr_report.proofs.FoundLaws.{contradiction-exact, none-exact}
use Rattle.dr_report.proofs.ImageLaws.{found-same}
use Rattle.dr_report.proofs.found.offline.Goals as goal

pub returns-clause-found : goal.returns-clause-found
returns-clause-found c =
    let s = c.args.session.0 in
    let vs = c.args.image.now in
    IfOk-weaker c.find.result (λ (found : Found). found ≡ found_known s (all_known c.deref.result.now)) (λ (found : Found). found ≡ found_in vs s)
    (λ found is. is ∙ ap (found_known s) (ap all_known c.deref.ensures.value ∙ c.in_ok-devices.ensures) ∙ found-same vs s c.requires.laid) c.find.ensures

pub returns-clause-contradiction : goal.returns-clause-contradiction
returns-clause-contradiction c =
    let s = c.args.session.0 in
    let vs = c.args.image.now in
    IfOk-weaker c.find.result (λ (found : Found). found ≡ found_known s (all_known c.deref.result.now)) (λ (found : Found). (a b : ℕ) → (found ≡ Contradiction a b) ↔ (decided_of vs s ≡ Impossible a b))
    (λ found is a b.
    let same : found ≡ found_in vs s = is ∙ ap (found_known s) (ap all_known c.deref.ensures.value ∙ c.in_ok-devices.ensures) ∙ found-same vs s c.requires.laid in
    let exact = contradiction-exact (λ v. shown_of (records_in vs v)) (counted_in vs s) (offline_text vs s) a b in
    (λ e. exact.0 (sym same ∙ e), λ e. same ∙ exact.1 e)) c.find.ensures

pub returns-clause-no_members : goal.returns-clause-no_members
returns-clause-no_members c =
    let s = c.args.session.0 in
    let vs = c.args.image.now in
    IfOk-weaker c.find.result (λ (found : Found). found ≡ found_known s (all_known c.deref.result.now)) (λ (found : Found). (found ≡ NoMembers) ↔ (counted_in vs s ≡ []))
    (λ found is.
    let same : found ≡ found_in vs s = is ∙ ap (found_known s) (ap all_known c.deref.ensures.value ∙ c.in_ok-devices.ensures) ∙ found-same vs s c.requires.laid in
    let exact = none-exact (counted_in vs s) (decided_of vs s) (offline_text vs s) in
    (λ e. exact.0 (sym same ∙ e), λ e. same ∙ exact.1 e)) c.find.ensures
