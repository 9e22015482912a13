use Rattle.std.proofs.Common.{ap, sym, ◌∙◌, [], false}
use Rattle.std.specs.Option.{unwrap_or}
use Rattle.dr_ids.specs.Paths.{path_in}
use Rattle.dr_model.specs.Carry.{now}
use Rattle.dr_model.specs.Entries.{subsystem}
use Rattle.dr_model.specs.Layout.{is_part}
use Rattle.dr_model.specs.Moves.{Suspend}
use Rattle.dr_model.specs.WriteEntries.{part_running}
use Rattle.dr_volume.specs.declared.head.Head.{Head}
use Rattle.dr_volume.specs.View.{on_seen}
use Rattle.dr_moves.specs.Here.{world_seen, armed_in, refusal_of}
use Rattle.dr_facts.proofs.Ends.{ends-alike}
use Rattle.dr_moves.proofs.FollowLemmas.{nothing-follows}
use Rattle.dr_metro.proofs.SyncLemmas.{absent-part, off-part, on-part}
use Rattle.dr_metro.proofs.parting.part_running.Goals as goal
use Rattle.dr_volume.proofs.WorldLaws.{on-seen}

pub returns-then-not-is_part-clause-ends : goal.returns-then-not-is_part-clause-ends
returns-then-not-is_part-clause-ends g c r =
    nothing-follows (armed_in (g.P.Plant.state c.args.plant.now)) (world_seen (g.P.Plant.state c.args.plant.now) c.args.config.now r c.args.journal.now.events) (part_running c.args.v.0) (absent-part c.args.v.0 (world_seen (g.P.Plant.state c.args.plant.now) c.args.config.now r c.args.journal.now.events).control ((ap (λ (h : Head). is_part h.primary) (sym c.peek_head-head.ensures) ∙ sym c.is_part.ensures) ∙ c.if-not-is_part.true))

pub returns-then-not-is_on-clause-ends : goal.returns-then-not-is_on-clause-ends
returns-then-not-is_on-clause-ends g c r =
    nothing-follows (armed_in (g.P.Plant.state c.args.plant.now)) (world_seen (g.P.Plant.state c.args.plant.now) c.args.config.now r c.args.journal.now.events) (part_running c.args.v.0) (off-part c.args.v.0 (world_seen (g.P.Plant.state c.args.plant.now) c.args.config.now r c.args.journal.now.events).control ((ap (on_seen (g.P.Plant.state c.args.plant.now)) (c.server_of.ensures.seen (g.P.Plant.state c.args.plant.now)) ∙ on-seen (g.P.Plant.state c.args.plant.now) c.server_of.result.0 c.server_of.ensures.known ∙ sym c.is_on.ensures) ∙ c.if-not-is_on.true))

pub returns-clause-ends : goal.returns-clause-ends
returns-clause-ends g c r =
    record {
      refusal = refusal_of c.suspend.result;
      ends = ends-alike (armed_in (g.P.Plant.state c.args.plant.now)) (world_seen (g.P.Plant.state c.suspend.new.plant) c.args.config.now r c.suspend.new.journal.events) (refusal_of c.suspend.result) (world_seen (g.P.Plant.state c.args.plant.now) c.args.config.now r c.args.journal.now.events) (part_running c.args.v.0) (now (Suspend c.args.v.0 c.is_grouped-busy.result)) []
          (on-part c.args.v.0 (world_seen (g.P.Plant.state c.args.plant.now) c.args.config.now r c.args.journal.now.events).control c.is_grouped-busy.result ((ap (λ (h : Head). is_part h.primary) (sym c.peek_head-head.ensures) ∙ sym c.is_part.ensures) ∙ c.if-not-is_part.false) ((ap (on_seen (g.P.Plant.state c.args.plant.now)) (c.server_of.ensures.seen (g.P.Plant.state c.args.plant.now)) ∙ on-seen (g.P.Plant.state c.args.plant.now) c.server_of.result.0 c.server_of.ensures.known ∙ sym c.is_on.ensures) ∙ c.if-not-is_on.false)
          (c.is_grouped-busy.ensures ∙ ap (λ (h : Head). unwrap_or (path_in c.args.config.now.paths (subsystem c.args.v.0) (subsystem h.primary_partner.0)) false) c.peek_head-head.ensures))
          (c.suspend.ensures.carried r);
    }
