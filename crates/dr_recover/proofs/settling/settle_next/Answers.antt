use Rattle.std.proofs.Common.{ap, sym, subst, ◌∙◌}
use Rattle.dr_moves.specs.Coming.{next_of}
use Rattle.dr_revert.specs.Turns.{Turns}
use Rattle.dr_recover.proofs.MemberLemmas.{settle-next, settle-turns}
use Rattle.dr_recover.proofs.settling.settle_next.Goals as goal

pub returns-clause-comes : goal.returns-clause-comes
returns-clause-comes g c r events =
    settle-next (g.P.Plant.state c.args.plant.now) c.args.config.now r events c.args.m.now c.args.s c.args.decided ∙ ap next_of (sym c.settled_by.ensures)

pub returns-clause-turns : goal.returns-clause-turns
returns-clause-turns g c =
    let s = g.P.Plant.state c.args.plant.now in
    let t = c.args.config.now in
    subst (Turns s t c.args.m.now.c.0) (sym c.settled_by.ensures) (settle-turns s t c.args.m.now c.requires.target c.requires.running c.requires.aside c.args.s c.args.decided)
