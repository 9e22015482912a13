use Rattle.std.proofs.Common.{ap, sym, ◌∙◌}
use Rattle.dr_model.specs.Decisions.{numbers_in}
use Rattle.dr_model.specs.Recovery.{common, number_after, remains_in}
use Rattle.dr_report.specs.Known.{Known, known}
use Rattle.dr_report.proofs.Chosen.{some-known}
use Rattle.dr_report.proofs.decided.group_left.Goals as goal

pub returns : goal.returns
returns c =
    let s = c.args.session.0 in
    let reverts = c.args.reverts in
    c.common.ensures
    ∙ ap (λ ns. common (numbers_in ns))
    (c.deref.ensures.value ∙ c.in_ok-numbers.ensures ∙ sym (some-known (λ (k : Known). remains_in s reverts k.fields) (λ (k : Known). number_after reverts k.fields) known c.args.devices.now))
