use Rattle.std.proofs.Common.{sym, subst, Some}
use Rattle.dr_logic.specs.Counts.{Counted}
use Rattle.dr_ids.specs.declared.refusal.Refusal.{Refusal}
use Rattle.dr_model.specs.WriteEntries.{part_running, part_after}
use Rattle.dr_moves.specs.Checks.{is_stop}
use Rattle.dr_moves.specs.Here.{world_seen, armed_in}
use Rattle.dr_moves.specs.Followed.{Follows}
use Rattle.dr_moves.proofs.FollowLemmas.{each-one}
use Rattle.dr_metro.proofs.parting.follow_part.Goals as goal

pub returns-in-Stopped-clause-follows : goal.returns-in-Stopped-clause-follows
returns-in-Stopped-clause-follows g c r =
    let s = g.P.Plant.state c.args.plant.now in
    let t = c.args.config.now in
    let u = g.P.Plant.state c.part_running.new.plant in
    subst (λ (e : Refusal). Follows (armed_in s) (world_seen s t r c.args.journal.now.events) (Some e) (part_after c.args.v.0) (world_seen u t r c.part_running.new.journal.events)) (sym c.in-Stopped.is)
    (each-one (armed_in s) (world_seen s t r c.args.journal.now.events) (world_seen u t r c.part_running.new.journal.events) (part_running c.args.v.0) (c.part_running.ensures.ends r))

pub returns-in-Stopped-clause-faults : goal.returns-in-Stopped-clause-faults
returns-in-Stopped-clause-faults g c f =
    subst (λ (e : Refusal). Counted (is_stop (Some e)) f (g.P.Plant.state c.args.plant.now).faults → Counted (is_stop (Some e)) f (g.P.Plant.state c.part_running.new.plant).faults) (sym c.in-Stopped.is) (c.part_running.ensures.faults f)
