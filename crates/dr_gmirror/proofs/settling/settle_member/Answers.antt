use Rattle.std.proofs.Common.{◌++◌, ◌∷◌, [], ap, sym, ◌∙◌, None, Some}
use Rattle.std.specs.Prelude.{if◌then◌else◌}
use Rattle.dr_master.specs.Seen.{shown_in}
use Rattle.dr_model.specs.PairEntries.{reach_refusal}
use Rattle.dr_moves.specs.Here.{world_seen, armed_in}
use Rattle.dr_moves.proofs.EntryLemmas.{one-checked}
use Rattle.dr_gmirror.specs.Reports.{counts_by, shown_by}
use Rattle.dr_gmirror.proofs.ReportLemmas.{shown-one}
use Rattle.dr_gmirror.proofs.settling.settle_member.Goals as goal

pub returns-in-Some-clause-fails : goal.returns-in-Some-clause-fails
returns-in-Some-clause-fails g c r events =
    let s = g.P.Plant.state c.args.plant.now in
    one-checked (world_seen s c.args.config.now r events) (reach_refusal c.args.m.now.a.0 c.args.m.now.b.0) (Some c.in-Some.why) (c.in-Some.ensures.refusal r events) (armed_in s)

pub returns-clause-leads : goal.returns-clause-leads
returns-clause-leads g c r events =
    one-checked (world_seen (g.P.Plant.state c.args.plant.now) c.args.config.now r events) (reach_refusal c.args.m.now.a.0 c.args.m.now.b.0) None (c.in_default.ensures.refusal r events)

pub returns-clause-shown : goal.returns-clause-shown
returns-clause-shown g c r events =
    let k = (world_seen (g.P.Plant.state c.args.plant.now) c.args.config.now r events).control in
    c.note_if.ensures.shown
    ∙ ap (λ h. shown_in c.args.report.now ++ (if counts_by c.args.s.0 h then shown_by h ∷ [] else [])) c.peek_head.ensures
    ∙ ap (λ ys. shown_in c.args.report.now ++ ys) (sym (shown-one c.args.s.0 k c.args.m.now))
