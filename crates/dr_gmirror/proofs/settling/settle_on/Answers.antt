use Rattle.std.proofs.Common.{◌++◌, ap, sym, subst, ◌∙◌}
use Rattle.dr_master.specs.Seen.{shown_in}
use Rattle.dr_model.specs.Phases as phases
use Rattle.dr_moves.specs.Here.{world_seen, armed_in, refusal_of}
use Rattle.dr_moves.specs.Turns.{Leads, Fails}
use Rattle.dr_flash.proofs.CheckLemmas.{same-test}
use Rattle.dr_moves.proofs.TurnLemmas.{ok-along, err-along}
use Rattle.dr_gmirror.proofs.OrderLemmas.{entries-on}
use Rattle.dr_gmirror.proofs.ReportLemmas.{shown-on}
use Rattle.dr_gmirror.proofs.settling.settle_on.Goals as goal

pub returns-clause-leads : goal.returns-clause-leads
returns-clause-leads g c =
    ok-along c.settle_member.result c.settle_member.ensures.leads (λ leads n r events.
    let w = world_seen (g.P.Plant.state c.args.plant.now) c.args.config.now r events in
    subst (λ es. Leads w es w) (sym (entries-on phases.Report c.args.s.0 n c.args.server.0 c.args.m.now (same-test c.args.m.now.server.0 c.args.server.0 c.if-m-server.false))) (leads r events))

pub returns-clause-fails : goal.returns-clause-fails
returns-clause-fails g c =
    err-along c.settle_member.result c.settle_member.ensures.fails c.settle_member.ensures.fails (λ fails _ n r events.
    let s = g.P.Plant.state c.args.plant.now in
    let w = world_seen s c.args.config.now r events in
    subst (λ es. Fails (armed_in s) w es w (refusal_of c.settle_member.result)) (sym (entries-on phases.Report c.args.s.0 n c.args.server.0 c.args.m.now (same-test c.args.m.now.server.0 c.args.server.0 c.if-m-server.false))) (fails r events))

pub returns-clause-shown : goal.returns-clause-shown
returns-clause-shown g c =
    ok-along c.settle_member.result c.settle_member.ensures.shown (λ shown r events.
    shown r events ∙ ap (λ xs. shown_in c.args.report.now ++ xs) (sym (shown-on c.args.s.0 c.args.server.0 (world_seen (g.P.Plant.state c.args.plant.now) c.args.config.now r events).control c.args.m.now (same-test c.args.m.now.server.0 c.args.server.0 c.if-m-server.false))))
