use Rattle.std.proofs.Common.{◌∙◌}
use Rattle.dr_moves.specs.Here.{world_seen}
use Rattle.dr_moves.proofs.ActedLemmas.{went-others, cut-others, goes-stops}
use Rattle.dr_moves.proofs.KeptLemmas.{before-then}
use Rattle.dr_gcopy.specs.Both.{entry_of}
use Rattle.dr_gcopy.proofs.both.MovesEntriesNothing.next.Goals as goal

pub returns-in-First-clause-comes : goal.returns-in-First-clause-comes
returns-in-First-clause-comes g c r events =
    let x = c.args.self.now in
    (λ i. entry_of x.a.0 x.b.0 x.command (c.in-First.is i) (world_seen (g.P.Plant.state c.args.plant.now) c.args.config.now r events).control) ∙ c.first_next.ensures.comes r events

pub returns-in-Second-clause-comes : goal.returns-in-Second-clause-comes
returns-in-Second-clause-comes g c r events =
    let x = c.args.self.now in
    (λ i. entry_of x.a.0 x.b.0 x.command (c.in-Second.is i) (world_seen (g.P.Plant.state c.args.plant.now) c.args.config.now r events).control) ∙ c.second_next.ensures.comes r events

pub returns-in-First-clause-goes_on : goal.returns-in-First-clause-goes_on
returns-in-First-clause-goes_on g c done u w z went rest q na nb =
    let s = g.P.Plant.state c.args.plant.now in
    before-then s u w c.args.config.now q (went-others s u c.args.config.now c.first_next.result went q (c.first_next.ensures.apart q na nb)) (rest q na nb)

pub returns-in-First-clause-cut : goal.returns-in-First-clause-cut
returns-in-First-clause-cut g c u counts cut q na nb = cut-others (g.P.Plant.state c.args.plant.now) u c.args.config.now counts c.first_next.result cut q (c.first_next.ensures.apart q na nb)

pub returns-in-Second-clause-goes_on : goal.returns-in-Second-clause-goes_on
returns-in-Second-clause-goes_on g c done u w z went rest q na nb =
    let s = g.P.Plant.state c.args.plant.now in
    before-then s u w c.args.config.now q (went-others s u c.args.config.now c.second_next.result went q (c.second_next.ensures.apart q na nb)) (rest q na nb)

pub returns-in-Second-clause-cut : goal.returns-in-Second-clause-cut
returns-in-Second-clause-cut g c u counts cut q na nb = cut-others (g.P.Plant.state c.args.plant.now) u c.args.config.now counts c.second_next.result cut q (c.second_next.ensures.apart q na nb)

pub returns-in-First-clause-refused : goal.returns-in-First-clause-refused
returns-in-First-clause-refused g c = goes-stops (g.P.Plant.state c.args.plant.now) c.args.config.now c.first_next.result c.first_next.ensures.goes_on

pub returns-in-Second-clause-refused : goal.returns-in-Second-clause-refused
returns-in-Second-clause-refused g c = goes-stops (g.P.Plant.state c.args.plant.now) c.args.config.now c.second_next.result c.second_next.ensures.goes_on
