use Rattle.std.proofs.Common.{◌<◌, ◌∙◌, sym, subst, arith, length, drop, slice_get, Some, None}
use Rattle.dr_model.specs.Forming.{drains, stays}
use Rattle.dr_model.specs.SessionEntries.{members_on}
use Rattle.dr_model.specs.Sessions.{session_in, members_in}
use Rattle.dr_steps.specs.Formed.{Reaches, drain_next, to_drain}
use Rattle.dr_steps.specs.Here.{here}
use Rattle.dr_steps.proofs.LandLemmas.{refused-by}
use Rattle.dr_steps.proofs.FormingLemmas.{reaches-same, next-on, next-end, drains-at, drains-none}
use Rattle.dr_steps.proofs.forming.drain_members.Goals as goal

pub returns-in_err-drain_place-clause-way : goal.returns-in_err-drain_place-clause-way
returns-in_err-drain_place-clause-way g c =
    let t = c.args.config.now in let e = c.in_err-drain_place.field-0.0 in let i = c.loop-place.place in
    let ms = members_in (session_in c.args.tables.now.sessions.sessions c.args.s.0) in
    let w = here (g.P.Plant.state c.args.plant.now) t c.args.tables.now c.args.journal.now.events in
    let x = here (g.P.Plant.state c.loop-place.plant) t c.loop-place.tables c.loop-place.journal.events in
    let v = here (g.P.Plant.state c.drain_place.new.plant) t c.drain_place.new.tables c.drain_place.new.journal.events in
    let lt : i < length ms = let lt = c.loop-place-test.true in let len = c.member_count-place-end.ensures in omega (arith, lt, len) in
    let here_way = subst (λ qs. Reaches (drain_next x (to_drain x.control c.args.server.0 (slice_get qs i)) stays) v (Some e)) c.loop-place.invariant.members c.in_err-drain_place.ensures.way in
    subst (Reaches (drains w (members_on c.args.server.0 ms)) v) (sym (refused-by c.from_residual.result e c.from_residual.ensures.0 c.from_residual.ensures.1))
    (c.loop-place.invariant.way v (Some e) (reaches-same (drains x (members_on c.args.server.0 (drop i ms))) _ v (Some e) (drains-at x c.args.server.0 ms i lt) (next-end x v (to_drain x.control c.args.server.0 (slice_get ms i)) e _ here_way)))

pub loop-place-preserved : goal.loop-place-preserved
loop-place-preserved g c =
    let t = c.args.config.now in let i = c.loop-place.place in
    let ms = members_in (session_in c.args.tables.now.sessions.sessions c.args.s.0) in
    let x = here (g.P.Plant.state c.loop-place.plant) t c.loop-place.tables c.loop-place.journal.events in
    let v = here (g.P.Plant.state c.drain_place.new.plant) t c.drain_place.new.tables c.drain_place.new.journal.events in
    let lt : i < length ms = let lt = c.loop-place-test.true in let len = c.member_count-place-end.ensures in omega (arith, lt, len) in
    let here_way = subst (λ qs. Reaches (drain_next x (to_drain x.control c.args.server.0 (slice_get qs i)) stays) v None) c.loop-place.invariant.members c.in_ok-drain_place.ensures.way in
    record {
      way = λ u r more. c.loop-place.invariant.way u r (reaches-same (drains x (members_on c.args.server.0 (drop i ms))) _ u r (drains-at x c.args.server.0 ms i lt) (next-on x v u (to_drain x.control c.args.server.0 (slice_get ms i)) r _ here_way more));
      members = c.in_ok-drain_place.ensures.members c.args.s.0 ∙ c.loop-place.invariant.members;
      ready = c.in_ok-drain_place.ensures.ready;
      sound = c.in_ok-drain_place.ensures.sound;
      counted = c.in_ok-drain_place.ensures.counted;
      host = c.in_ok-drain_place.ensures.host ∙ c.loop-place.invariant.host;
      room = c.in_ok-drain_place.ensures.room ∙ c.loop-place.invariant.room;
      spare = c.in_ok-drain_place.ensures.spare;
      faults = c.in_ok-drain_place.ensures.faults ∙ c.loop-place.invariant.faults;
    }

pub returns-clause-way : goal.returns-clause-way
returns-clause-way g c =
    let t = c.args.config.now in
    let ms = members_in (session_in c.args.tables.now.sessions.sessions c.args.s.0) in
    let x = here (g.P.Plant.state c.loop-place.plant) t c.loop-place.tables c.loop-place.journal.events in
    c.loop-place.invariant.way x None (drains-none x c.args.server.0 ms c.loop-place.place (let le = c.loop-place-test.false in let len = c.member_count-place-end.ensures in omega (arith, le, len)))
