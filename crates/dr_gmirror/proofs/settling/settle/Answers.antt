use Rattle.std.proofs.Common.{◌≡◌, ◌≤◌, ◌++◌, length, slice_get, arith, ap, sym, subst, ◌∙◌, [], ◌∷◌, Some}
use Rattle.dr_model.specs.Phases as phases
use Rattle.dr_model.specs.ReadStops.{Ends}
use Rattle.dr_model.specs.Sessions.{session_in, members_in}
use Rattle.dr_model.specs.SessionEntries.{order_entries, members_on, shown_by_members}
use Rattle.dr_moves.specs.Here.{world_seen, armed_in}
use Rattle.dr_moves.specs.Turns.{Leads, Fails}
use Rattle.dr_moves.proofs.EntryLemmas.{led, failed}
use Rattle.dr_moves.proofs.TurnLemmas.{refused-by}
use Rattle.dr_gmirror.proofs.OrderLemmas.{member-next, member-all, order-next, order-fails}
use Rattle.dr_gmirror.proofs.ReportLemmas.{shown-more}
use Rattle.dr_gmirror.proofs.settling.settle.Goals as goal
use Rattle.dr_logic.proofs.Results.{err-always}

pub settle_on-requires-clause-ready : goal.settle_on-requires-clause-ready
settle_on-requires-clause-ready g c = c.requires.members c.loop-at.at c.unwrap-m.result (sym c.member_at.ensures.value ∙ c.unwrap-m.ensures)

pub returns-in_err-settle_on-clause-fails : goal.returns-in_err-settle_on-clause-fails
returns-in_err-settle_on-clause-fails g c =
    let s = g.P.Plant.state c.args.plant.now in
    let ms = members_in (session_in c.args.ss.now.sessions c.args.s.0) in
    let e = c.in_err-settle_on.field-0.0 in
    err-always c.from_residual.result (λ n r events.
    let w = world_seen s c.args.config.now r events in
    subst (λ q. Fails (armed_in s) w (order_entries phases.Report c.args.s.0 n (members_on c.args.server.0 ms)) w q) (sym (refused-by c.from_residual.result e c.from_residual.ensures.0 c.from_residual.ensures.1))
    (order-fails phases.Report c.args.s.0 n c.args.server.0 (armed_in s) (armed_in s) (λ q is. is) w w w (Some e) ms c.loop-at.at c.unwrap-m.result (sym (sym c.member_at.ensures.value ∙ c.unwrap-m.ensures))
    (c.loop-at.invariant.led n r events) (c.in_err-settle_on.ensures.fails n r events)))

pub returns-in_err-settle_on-clause-carried : goal.returns-in_err-settle_on-clause-carried
returns-in_err-settle_on-clause-carried g c n r events =
    let s = g.P.Plant.state c.args.plant.now in
    let ms = members_in (session_in c.args.ss.now.sessions c.args.s.0) in
    let e = c.in_err-settle_on.field-0.0 in
    let w = world_seen s c.args.config.now r events in
    let es = order_entries phases.Report c.args.s.0 n (members_on c.args.server.0 ms) in
    subst (λ q. Ends (armed_in s) w q w es) (sym (refused-by c.from_residual.result e c.from_residual.ensures.0 c.from_residual.ensures.1))
    (failed (armed_in s) w w (Some e) es
    (order-fails phases.Report c.args.s.0 n c.args.server.0 (armed_in s) (armed_in s) (λ q is. is) w w w (Some e) ms c.loop-at.at c.unwrap-m.result (sym (sym c.member_at.ensures.value ∙ c.unwrap-m.ensures))
    (c.loop-at.invariant.led n r events) (c.in_err-settle_on.ensures.fails n r events)))

pub loop-at-preserved : goal.loop-at-preserved
loop-at-preserved g c =
    let s = g.P.Plant.state c.args.plant.now in
    let ms = members_in (session_in c.args.ss.now.sessions c.args.s.0) in
    let m = c.unwrap-m.result in
    let at : Some m ≡ slice_get ms c.loop-at.at = sym (sym c.member_at.ensures.value ∙ c.unwrap-m.ensures) in
    record {
      led = λ n r events.
          let w = world_seen s c.args.config.now r events in
          order-next phases.Report c.args.s.0 n c.args.server.0 w w w ms c.loop-at.at m at (c.loop-at.invariant.led n r events) (c.in_ok-settle_on.ensures.leads n r events);
      shown = λ r events.
          let k = (world_seen s c.args.config.now r events).control in
          c.in_ok-settle_on.ensures.shown r events
          ∙ ap (λ xs. xs ++ shown_by_members c.args.s.0 (members_on c.args.server.0 (m ∷ [])) k) (c.loop-at.invariant.shown r events)
          ∙ sym (shown-more c.args.s.0 c.args.server.0 k _ (m ∷ []))
          ∙ sym (ap (λ xs. shown_by_members c.args.s.0 (members_on c.args.server.0 xs) k) (member-next ms c.loop-at.at m at));
      low = let a = c.loop-at.invariant.low in let b = c.settle_on.ensures.grown.low in omega (arith, a, b);
      count = c.settle_on.ensures.grown.count c.loop-at.invariant.count;
      trimmed = c.settle_on.ensures.grown.trimmed c.loop-at.invariant.trimmed;
    }

pub returns-clause-leads : goal.returns-clause-leads
returns-clause-leads g c n r events =
    let ms = members_in (session_in c.args.ss.now.sessions c.args.s.0) in
    let all : length ms ≤ c.loop-at.at = let e = c.member_count-at-end.ensures in let f = c.loop-at-test.false in omega (arith, e, f) in
    let w = world_seen (g.P.Plant.state c.args.plant.now) c.args.config.now r events in
    subst (λ xs. Leads w (order_entries phases.Report c.args.s.0 n (members_on c.args.server.0 xs)) w) (member-all ms c.loop-at.at all) (c.loop-at.invariant.led n r events)

pub returns-clause-carried : goal.returns-clause-carried
returns-clause-carried g c n r events =
    let s = g.P.Plant.state c.args.plant.now in
    let w = world_seen s c.args.config.now r events in
    led (armed_in s) w w (order_entries phases.Report c.args.s.0 n (members_on c.args.server.0 (members_in (session_in c.args.ss.now.sessions c.args.s.0)))) (returns-clause-leads g c n r events)

pub returns-clause-shown : goal.returns-clause-shown
returns-clause-shown g c r events =
    let ms = members_in (session_in c.args.ss.now.sessions c.args.s.0) in
    let all : length ms ≤ c.loop-at.at = let e = c.member_count-at-end.ensures in let f = c.loop-at-test.false in omega (arith, e, f) in
    let k = (world_seen (g.P.Plant.state c.args.plant.now) c.args.config.now r events).control in
    c.loop-at.invariant.shown r events ∙ ap (λ xs. shown_by_members c.args.s.0 (members_on c.args.server.0 xs) k) (member-all ms c.loop-at.at all)
