use Rattle.std.proofs.Common.{◌≤◌, length, arith, ap, sym, ◌∙◌, Some, option_map}
use Rattle.std.specs.List.{find}
use Rattle.dr_ids.specs.declared.names.Member.{Member}
use Rattle.dr_model.specs.Entries.{pair_state}
use Rattle.dr_model.specs.Layout.{is_part}
use Rattle.dr_model.specs.Sessions.{session_in, members_in}
use Rattle.dr_volume.specs.declared.head.Head.{Head}
use Rattle.dr_volume.specs.View.{volume_seen}
use Rattle.dr_moves.specs.Here.{world_seen}
use Rattle.dr_gmirror.proofs.OrderLemmas.{member-all}
use Rattle.dr_gmirror.proofs.RestoreLemmas.{find-hit, find-miss}
use Rattle.dr_recover.proofs.looks.untaken_refusal.Goals as goal

pub peek_head-requires-clause-defined : goal.peek_head-requires-clause-defined
peek_head-requires-clause-defined g c = (c.requires.members c.loop-at.at c.unwrap-m.result (sym c.member_at.ensures.value ∙ c.unwrap-m.ensures)).secondary

pub returns-then-is_part-clause-refusal : goal.returns-then-is_part-clause-refusal
returns-then-is_part-clause-refusal g c r events =
    let s = g.P.Plant.state c.args.plant.now in
    let k = (world_seen s c.args.config.now r events).control in
    let m = c.unwrap-m.result in
    ap (λ x. Some x) (c.pair_state.ensures.refusal r events)
    ∙ sym (ap (option_map (λ (m : Member). pair_state k m.b.0)) (find-hit (λ (m : Member). is_part (volume_seen s c.args.config.now m.b.0).fields.secondary) (members_in (session_in c.args.ss.now.sessions c.args.s.0)) c.loop-at.at m (sym (sym c.member_at.ensures.value ∙ c.unwrap-m.ensures)) c.loop-at.invariant.none
    (sym (c.is_part.ensures ∙ ap (λ (f : Head). is_part f.secondary) c.peek_head.ensures) ∙ c.if-is_part.true)))

pub loop-at-preserved : goal.loop-at-preserved
loop-at-preserved g c = record {
  none = find-miss (λ (m : Member). is_part (volume_seen (g.P.Plant.state c.args.plant.now) c.args.config.now m.b.0).fields.secondary) (members_in (session_in c.args.ss.now.sessions c.args.s.0)) c.loop-at.at c.unwrap-m.result (sym (sym c.member_at.ensures.value ∙ c.unwrap-m.ensures)) c.loop-at.invariant.none
      (sym (c.is_part.ensures ∙ ap (λ (f : Head). is_part f.secondary) c.peek_head.ensures) ∙ c.if-is_part.false);
}

pub returns-clause-refusal : goal.returns-clause-refusal
returns-clause-refusal g c r events =
    let s = g.P.Plant.state c.args.plant.now in
    let ms = members_in (session_in c.args.ss.now.sessions c.args.s.0) in
    let all : length ms ≤ c.loop-at.at = let e = c.member_count-at-end.ensures in let f = c.loop-at-test.false in omega (arith, e, f) in
    let k = (world_seen s c.args.config.now r events).control in
    sym (ap (λ xs. option_map (λ (m : Member). pair_state k m.b.0) (find (λ (m : Member). is_part (volume_seen s c.args.config.now m.b.0).fields.secondary) xs)) (sym (member-all ms c.loop-at.at all)) ∙ ap (option_map (λ (m : Member). pair_state k m.b.0)) c.loop-at.invariant.none)
