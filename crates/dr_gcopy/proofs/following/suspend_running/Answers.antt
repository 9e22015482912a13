use Rattle.std.proofs.Common.{ap, sym, ◌∙◌, [], false}
use Rattle.dr_model.specs.Carry.{now}
use Rattle.dr_model.specs.Layout.{is_part}
use Rattle.dr_model.specs.Moves.{Suspend}
use Rattle.dr_model.specs.PairEntries.{suspend_running}
use Rattle.dr_volume.specs.declared.head.Head.{Head}
use Rattle.dr_volume.specs.View.{on_seen}
use Rattle.dr_moves.specs.Here.{world_seen, armed_in, refusal_of}
use Rattle.dr_facts.proofs.Ends.{ends-alike}
use Rattle.dr_gcopy.proofs.SendLemmas.{follows-absent, follows-off, follows-on}
use Rattle.dr_moves.proofs.FollowLemmas.{nothing-follows}
use Rattle.dr_gcopy.proofs.following.suspend_running.Goals as goal
use Rattle.dr_volume.proofs.WorldLaws.{on-seen}

pub returns-then-not-is_part-clause-ends : goal.returns-then-not-is_part-clause-ends
returns-then-not-is_part-clause-ends g c r =
    nothing-follows (armed_in (g.P.Plant.state c.args.plant.now)) (world_seen (g.P.Plant.state c.args.plant.now) c.args.config.now r c.args.journal.now.events) (suspend_running c.args.a.0) (follows-absent c.args.a.0 (world_seen (g.P.Plant.state c.args.plant.now) c.args.config.now r c.args.journal.now.events).control ((ap (λ (h : Head). is_part h.primary) (sym c.peek_head.ensures) ∙ sym c.is_part.ensures) ∙ c.if-not-is_part.true))

pub returns-then-not-is_on-clause-ends : goal.returns-then-not-is_on-clause-ends
returns-then-not-is_on-clause-ends g c r =
    nothing-follows (armed_in (g.P.Plant.state c.args.plant.now)) (world_seen (g.P.Plant.state c.args.plant.now) c.args.config.now r c.args.journal.now.events) (suspend_running c.args.a.0) (follows-off c.args.a.0 (world_seen (g.P.Plant.state c.args.plant.now) c.args.config.now r c.args.journal.now.events).control ((ap (on_seen (g.P.Plant.state c.args.plant.now)) (c.server_of.ensures.seen (g.P.Plant.state c.args.plant.now)) ∙ on-seen (g.P.Plant.state c.args.plant.now) c.server_of.result.0 c.server_of.ensures.known ∙ sym c.is_on.ensures) ∙ c.if-not-is_on.true))

pub returns-clause-ends : goal.returns-clause-ends
returns-clause-ends g c r =
    record {
      refusal = refusal_of c.suspend.result;
      ends = ends-alike (armed_in (g.P.Plant.state c.args.plant.now)) (world_seen (g.P.Plant.state c.suspend.new.plant) c.args.config.now r c.suspend.new.journal.events) (refusal_of c.suspend.result) (world_seen (g.P.Plant.state c.args.plant.now) c.args.config.now r c.args.journal.now.events) (suspend_running c.args.a.0) (now (Suspend c.args.a.0 false)) [] (follows-on c.args.a.0 (world_seen (g.P.Plant.state c.args.plant.now) c.args.config.now r c.args.journal.now.events).control ((ap (λ (h : Head). is_part h.primary) (sym c.peek_head.ensures) ∙ sym c.is_part.ensures) ∙ c.if-not-is_part.false) ((ap (on_seen (g.P.Plant.state c.args.plant.now)) (c.server_of.ensures.seen (g.P.Plant.state c.args.plant.now)) ∙ on-seen (g.P.Plant.state c.args.plant.now) c.server_of.result.0 c.server_of.ensures.known ∙ sym c.is_on.ensures) ∙ c.if-not-is_on.false)) (c.suspend.ensures.carried r);
    }
