use Rattle.std.proofs.Common.{sym, subst, Some}
use Rattle.dr_ids.specs.declared.refusal.Refusal.{Refusal}
use Rattle.dr_moves.specs.Checks.{is_stop}
use Rattle.dr_moves.specs.Followed.{Follows, KeptBehind}
use Rattle.dr_moves.specs.Here.{world_seen, armed_in}
use Rattle.dr_moves.proofs.following.follow.Goals as goal

pub returns-in-Stopped-clause-follows : goal.returns-in-Stopped-clause-follows
returns-in-Stopped-clause-follows g c r =
    let s = g.P.Plant.state c.args.plant.now in
    let u = g.P.Plant.state c.run.new.plant in
    let t = c.args.config.now in
    subst (λ (e : Refusal). Follows (armed_in s) (world_seen s t r c.args.journal.now.events) (Some e) (g.F.Behind.entries c.args.behind.now t) (world_seen u t r c.run.new.journal.events)) (sym c.in-Stopped.is) (c.run.ensures.ends r)

pub returns-in-Stopped-clause-kept : goal.returns-in-Stopped-clause-kept
returns-in-Stopped-clause-kept g c =
    let s = g.P.Plant.state c.args.plant.now in
    let u = g.P.Plant.state c.run.new.plant in
    let t = c.args.config.now in
    subst (λ (e : Refusal). KeptBehind s u t c.args.journal.now c.run.new.journal (g.F.Behind.room c.args.behind.now t) (is_stop (Some e))) (sym c.in-Stopped.is) c.run.ensures.kept
