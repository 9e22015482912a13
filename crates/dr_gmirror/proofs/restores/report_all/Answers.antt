use Rattle.std.proofs.Common.{◌≡◌, ◌≤◌, ◌++◌, length, slice_get, arith, ap, sym, ◌∙◌, [], ◌∷◌, Some, take}
use Rattle.std.specs.Prelude.{if◌then◌else◌}
use Rattle.dr_model.specs.Sessions.{session_in, members_in}
use Rattle.dr_model.specs.SessionEntries.{shown_by_members}
use Rattle.dr_moves.specs.Here.{world_seen}
use Rattle.dr_gmirror.specs.Reports.{counts_by, shown_by}
use Rattle.dr_gmirror.proofs.OrderLemmas.{member-next, member-all}
use Rattle.dr_gmirror.proofs.ReportLemmas.{shown-one}
use Rattle.dr_gmirror.proofs.RestoreLemmas.{all-more}
use Rattle.dr_gmirror.proofs.restores.report_all.Goals as goal

pub peek_head-requires-clause-defined : goal.peek_head-requires-clause-defined
peek_head-requires-clause-defined g c = (c.requires.members c.loop-at.at c.unwrap-m.result (sym c.member_at.ensures.value ∙ c.unwrap-m.ensures)).target

pub loop-at-preserved : goal.loop-at-preserved
loop-at-preserved g c =
    let ms = members_in (session_in c.args.ss.now.sessions c.args.s.0) in
    let m = c.unwrap-m.result in
    let at : Some m ≡ slice_get ms c.loop-at.at = sym (sym c.member_at.ensures.value ∙ c.unwrap-m.ensures) in
    record {
      shown = λ r events.
          let k = (world_seen (g.P.Plant.state c.args.plant.now) c.args.config.now r events).control in
          c.note_if.ensures.shown
          ∙ (λ i. c.loop-at.invariant.shown r events i ++ (if counts_by c.args.s.0 (c.peek_head.ensures i) then shown_by (c.peek_head.ensures i) ∷ [] else []))
          ∙ ap (λ ys. shown_by_members c.args.s.0 (take c.loop-at.at ms) k ++ ys) (sym (shown-one c.args.s.0 k m))
          ∙ sym (all-more c.args.s.0 k (take c.loop-at.at ms) (m ∷ []))
          ∙ sym (ap (λ xs. shown_by_members c.args.s.0 xs k) (member-next ms c.loop-at.at m at));
      low = let a = c.loop-at.invariant.low in let b = c.note_if.ensures.grown.low in omega (arith, a, b);
    }

pub returns-clause-shown : goal.returns-clause-shown
returns-clause-shown g c r events =
    let ms = members_in (session_in c.args.ss.now.sessions c.args.s.0) in
    let all : length ms ≤ c.loop-at.at = let e = c.member_count-at-end.ensures in let f = c.loop-at-test.false in omega (arith, e, f) in
    let k = (world_seen (g.P.Plant.state c.args.plant.now) c.args.config.now r events).control in
    c.loop-at.invariant.shown r events ∙ ap (λ xs. shown_by_members c.args.s.0 xs k) (member-all ms c.loop-at.at all)
