use Rattle.std.proofs.Common.{◌≡◌, ◌≤◌, false, true, not, length, arith, ap, sym, ◌∙◌, Some, option_map}
use Rattle.std.specs.List.{find}
use Rattle.dr_ids.specs.declared.names.Member.{Member}
use Rattle.dr_model.specs.Entries.{is_running}
use Rattle.dr_model.specs.Refusals.{server_off}
use Rattle.dr_model.specs.Sessions.{session_in, members_in}
use Rattle.dr_volume.specs.View.{on_seen, volume_seen}
use Rattle.dr_moves.specs.Here.{world_seen}
use Rattle.dr_gmirror.proofs.OrderLemmas.{member-all}
use Rattle.dr_gmirror.proofs.RestoreLemmas.{find-hit, find-miss, one-more, below-length}
use Rattle.dr_gmirror.proofs.restores.secondary_refusal.Goals as goal
use Rattle.dr_volume.proofs.WorldLaws.{on-seen}

pub server_of-server-requires : goal.server_of-server-requires
server_of-server-requires g c = record { defined = (c.requires.members c.loop-at.at c.unwrap-m.result (sym c.member_at.ensures.value ∙ c.unwrap-m.ensures)).secondary }

pub returns-then-not-is_on-clause-refusal : goal.returns-then-not-is_on-clause-refusal
returns-then-not-is_on-clause-refusal g c r events =
    let s = g.P.Plant.state c.args.plant.now in
    let k = (world_seen s c.args.config.now r events).control in
    let m = c.unwrap-m.result in
    let off : not (is_running m.b.0 k) ≡ true = ap not (ap (on_seen s) (c.server_of-server.ensures.seen s) ∙ on-seen s c.server_of-server.result.0 c.server_of-server.ensures.known ∙ sym c.is_on.ensures ∙ c.if-not-is_on.true) in
    sym (ap (option_map (λ (m : Member). server_off (k.volume m.b.0).server)) (find-hit (λ (m : Member). not (is_running m.b.0 k)) (members_in (session_in c.args.ss.now.sessions c.args.s.0)) c.loop-at.at m (sym (sym c.member_at.ensures.value ∙ c.unwrap-m.ensures)) (c.loop-at.invariant.none r events) off)
    ∙ ap (λ q. Some (server_off q)) (c.server_of-server.ensures.seen s))

pub loop-at-preserved : goal.loop-at-preserved
loop-at-preserved g c = record {
  none = λ r events.
      let s = g.P.Plant.state c.args.plant.now in
      let k = (world_seen s c.args.config.now r events).control in
      let m = c.unwrap-m.result in
      let on : not (is_running m.b.0 k) ≡ false = ap not (ap (on_seen s) (c.server_of-server.ensures.seen s) ∙ on-seen s c.server_of-server.result.0 c.server_of-server.ensures.known ∙ sym c.is_on.ensures ∙ c.if-not-is_on.false) in
      find-miss (λ (m : Member). not (is_running m.b.0 k)) (members_in (session_in c.args.ss.now.sessions c.args.s.0)) c.loop-at.at m (sym (sym c.member_at.ensures.value ∙ c.unwrap-m.ensures)) (c.loop-at.invariant.none r events) on;
  running =
      let s = g.P.Plant.state c.args.plant.now in
      one-more (members_in (session_in c.args.ss.now.sessions c.args.s.0)) (λ m. s.on (volume_seen s c.args.config.now m.b.0).server ≡ true) c.loop-at.at c.unwrap-m.result (sym c.member_at.ensures.value ∙ c.unwrap-m.ensures)
      (ap (λ q. s.on q) (c.server_of-server.ensures.seen s) ∙ sym c.is_on.ensures ∙ c.if-not-is_on.false) c.loop-at.invariant.running;
}

pub returns-clause-running : goal.returns-clause-running
returns-clause-running g c i m at =
    let ms = members_in (session_in c.args.ss.now.sessions c.args.s.0) in
    let all : length ms ≤ c.loop-at.at = let e = c.member_count-at-end.ensures in let f = c.loop-at-test.false in omega (arith, e, f) in
    let low = below-length ms i m at in
    c.loop-at.invariant.running i m (omega (arith, all, low)) at

pub returns-clause-refusal : goal.returns-clause-refusal
returns-clause-refusal g c r events =
    let ms = members_in (session_in c.args.ss.now.sessions c.args.s.0) in
    let all : length ms ≤ c.loop-at.at = let e = c.member_count-at-end.ensures in let f = c.loop-at-test.false in omega (arith, e, f) in
    let k = (world_seen (g.P.Plant.state c.args.plant.now) c.args.config.now r events).control in
    sym (ap (λ xs. option_map (λ (m : Member). server_off (k.volume m.b.0).server) (find (λ (m : Member). not (is_running m.b.0 k)) xs)) (sym (member-all ms c.loop-at.at all)) ∙ ap (option_map (λ (m : Member). server_off (k.volume m.b.0).server)) (c.loop-at.invariant.none r events))
