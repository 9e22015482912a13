use Rattle.std.proofs.Common.{◌≡◌, ◌≤◌, ◌-◌, length, slice_get, arith, ap, sym, ◌∙◌}
use Rattle.dr_model.specs.Sessions.{session_in, members_in}
use Rattle.dr_moves.specs.Here.{world_seen}
use Rattle.dr_recover.proofs.EachLemmas.{target-running}
use Rattle.dr_recover.proofs.StepLemmas.{move-taken, move-settled, can-still}
use Rattle.dr_recover.proofs.steps.StepsEntriesNothing.next.Goals as goal

pub take_over_next-requires-clause-secondary : goal.take_over_next-requires-clause-secondary
take_over_next-requires-clause-secondary g c = (c.requires.stands.members c.args.self.now.done c.member.result c.member.ensures).secondary

pub settle_next-requires-clause-target : goal.settle_next-requires-clause-target
settle_next-requires-clause-target g c = (c.requires.stands.members _ c.member-else-at-self.result c.member-else-at-self.ensures).target

pub settle_next-requires-clause-running : goal.settle_next-requires-clause-running
settle_next-requires-clause-running g c =
    let x = c.args.self.now in
    target-running (g.P.Plant.state c.args.plant.now) c.args.config.now (members_in (session_in x.ss.now.sessions x.s.0)) c.requires.stands.members c.requires.stands.running _ c.member-else-at-self.result c.member-else-at-self.ensures

pub returns-then-at-self-clause-comes : goal.returns-then-at-self-clause-comes
returns-then-at-self-clause-comes g c r events =
    let x = c.args.self.now in
    let k = (world_seen (g.P.Plant.state c.args.plant.now) c.args.config.now r events).control in
    ap (λ d. d k) (move-taken x.s.0 x.decided (members_in (session_in x.ss.now.sessions x.s.0)) x.done c.member.result c.member.ensures) ∙ c.take_over_next.ensures.comes r events

pub returns-then-at-self-clause-stands : goal.returns-then-at-self-clause-stands
returns-then-at-self-clause-stands g c u went =
    let x = c.args.self.now in
    can-still (g.P.Plant.state c.args.plant.now) u c.args.config.now (members_in (session_in x.ss.now.sessions x.s.0)) c.take_over_next.result c.requires.at c.requires.stands went

pub returns-else-at-self-clause-comes : goal.returns-else-at-self-clause-comes
returns-else-at-self-clause-comes g c r events =
    let x = c.args.self.now in
    let ms = members_in (session_in x.ss.now.sessions x.s.0) in
    let k = (world_seen (g.P.Plant.state c.args.plant.now) c.args.config.now r events).control in
    let n : x.members ≡ length ms = x.counted in
    let behind : length ms ≤ x.done = let low = c.if-at-self.false in omega (arith, n, low) in
    let at = ap (λ q. slice_get ms (x.done - q)) (sym n) ∙ c.member-else-at-self.ensures in
    ap (λ d. d k) (move-settled x.s.0 x.decided ms x.done c.member-else-at-self.result behind at) ∙ c.settle_next.ensures.comes r events

pub returns-else-at-self-clause-stands : goal.returns-else-at-self-clause-stands
returns-else-at-self-clause-stands g c u went =
    let x = c.args.self.now in
    can-still (g.P.Plant.state c.args.plant.now) u c.args.config.now (members_in (session_in x.ss.now.sessions x.s.0)) c.settle_next.result c.requires.at c.requires.stands went
