use Rattle.std.proofs.Common.{◌≤◌, ◌+◌, false, arith, length, ap, sym, subst, ◌∙◌, None}
use Rattle.dr_model.specs.Carry.{Make, Do}
use Rattle.dr_model.specs.Moves.{target, told}
use Rattle.dr_volume.specs.View.{volume_seen}
use Rattle.dr_moves.specs.Coming.{MayMake, WentBy, CutBy}
use Rattle.dr_moves.specs.Here.{world_seen}
use Rattle.dr_moves.proofs.ActedLemmas.{goes-stops}
use Rattle.dr_moves.specs.declared.carrying.Next.TheVariants as TheNext
use Rattle.dr_failover.specs.Turning.{entry_of, CanGo, Makes}
use Rattle.dr_failover.proofs.TurningLemmas.{fall-may, yield-may, fall-stands, fall-goes, fall-cut, yield-goes, yield-cut}
use Rattle.dr_failover.proofs.turning.TurnEntriesNothing.next.Goals as goal

pub returns-in-Fall-clause-comes : goal.returns-in-Fall-clause-comes
returns-in-Fall-clause-comes g c r events =
    let t = c.args.self.now in
    (λ i. entry_of t.x.0 t.y.0 (c.in-Fall.is i) (world_seen (g.P.Plant.state c.args.plant.now) c.args.config.now r events).control) ∙ ap (λ m. Do (Make m)) (sym c.fall_back_on.ensures)

pub returns-in-Fall-clause-may : goal.returns-in-Fall-clause-may
returns-in-Fall-clause-may g c =
    let t = c.args.self.now in
    let s = g.P.Plant.state c.args.plant.now in
    let k = c.args.config.now in
    subst (λ m. MayMake s k m None) (sym c.fall_back_on.ensures) (fall-may s k t.x.0 t.y.0 c.requires.at (subst (CanGo s k t.x.0 t.y.0) c.in-Fall.is c.requires.stands))

pub returns-in-Fall-clause-stands : goal.returns-in-Fall-clause-stands
returns-in-Fall-clause-stands g c u went =
    let t = c.args.self.now in
    let s = g.P.Plant.state c.args.plant.now in
    let k = c.args.config.now in
    fall-stands s k t.x.0 t.y.0 u (subst (CanGo s k t.x.0 t.y.0) c.in-Fall.is c.requires.stands) (subst (λ m. WentBy s u k m None) c.fall_back_on.ensures went)

pub returns-in-Fall-clause-goes_on : goal.returns-in-Fall-clause-goes_on
returns-in-Fall-clause-goes_on g c done u w z went more =
    let t = c.args.self.now in
    let s = g.P.Plant.state c.args.plant.now in
    let k = c.args.config.now in
    subst (λ stage. Makes stage done s w k t.x.0 t.y.0) (sym c.in-Fall.is) (fall-goes s k t.x.0 t.y.0 done u w (subst (CanGo s k t.x.0 t.y.0) c.in-Fall.is c.requires.stands) (subst (λ m. WentBy s u k m None) c.fall_back_on.ensures went) more)

pub returns-in-Fall-clause-cut : goal.returns-in-Fall-clause-cut
returns-in-Fall-clause-cut g c u counts cut =
    let t = c.args.self.now in
    let s = g.P.Plant.state c.args.plant.now in
    let k = c.args.config.now in
    subst (λ stage. Makes stage false s u k t.x.0 t.y.0) (sym c.in-Fall.is) (fall-cut s k t.x.0 t.y.0 u counts (subst (λ m. CutBy s u k counts m None) c.fall_back_on.ensures cut))

pub returns-in-Fall-clause-room : goal.returns-in-Fall-clause-room
returns-in-Fall-clause-room g c = subst (λ m. length (told m (volume_seen (g.P.Plant.state c.args.plant.now) c.args.config.now (target m))) + 0 ≤ 0) (sym c.fall_back_on.ensures) (omega arith)

pub returns-in-Fall-clause-most : goal.returns-in-Fall-clause-most
returns-in-Fall-clause-most g c = subst (λ m. length (told m (volume_seen (g.P.Plant.state c.args.plant.now) c.args.config.now (target m))) + 1 ≤ 1) (sym c.fall_back_on.ensures) (omega arith)

pub returns-in-Fall-clause-stop : goal.returns-in-Fall-clause-stop
returns-in-Fall-clause-stop g c = subst (λ m. length (told m (volume_seen (g.P.Plant.state c.args.plant.now) c.args.config.now (target m))) + 1 ≤ 1) (sym c.fall_back_on.ensures) (omega arith)

pub returns-in-Follow-clause-comes : goal.returns-in-Follow-clause-comes
returns-in-Follow-clause-comes g c r events =
    let t = c.args.self.now in
    (λ i. entry_of t.x.0 t.y.0 (c.in-Follow.is i) (world_seen (g.P.Plant.state c.args.plant.now) c.args.config.now r events).control) ∙ ap (λ m. Do (Make m)) (sym c.yield_on.ensures)

pub returns-in-Follow-clause-may : goal.returns-in-Follow-clause-may
returns-in-Follow-clause-may g c =
    let t = c.args.self.now in
    let s = g.P.Plant.state c.args.plant.now in
    let k = c.args.config.now in
    subst (λ m. MayMake s k m None) (sym c.yield_on.ensures) (yield-may s k t.x.0 t.y.0 (subst (CanGo s k t.x.0 t.y.0) c.in-Follow.is c.requires.stands))

pub returns-in-Follow-clause-goes_on : goal.returns-in-Follow-clause-goes_on
returns-in-Follow-clause-goes_on g c done u w z went more =
    let t = c.args.self.now in
    let s = g.P.Plant.state c.args.plant.now in
    let k = c.args.config.now in
    subst (λ stage. Makes stage done s w k t.x.0 t.y.0) (sym c.in-Follow.is) (yield-goes s k t.x.0 t.y.0 done u w (subst (λ m. WentBy s u k m None) c.yield_on.ensures went) more)

pub returns-in-Follow-clause-cut : goal.returns-in-Follow-clause-cut
returns-in-Follow-clause-cut g c u counts cut =
    let t = c.args.self.now in
    let s = g.P.Plant.state c.args.plant.now in
    let k = c.args.config.now in
    subst (λ stage. Makes stage false s u k t.x.0 t.y.0) (sym c.in-Follow.is) (yield-cut s k t.x.0 t.y.0 u counts (subst (λ m. CutBy s u k counts m None) c.yield_on.ensures cut))

pub returns-in-Follow-clause-room : goal.returns-in-Follow-clause-room
returns-in-Follow-clause-room g c = subst (λ m. length (told m (volume_seen (g.P.Plant.state c.args.plant.now) c.args.config.now (target m))) + 0 ≤ 0) (sym c.yield_on.ensures) (omega arith)

pub returns-in-Follow-clause-most : goal.returns-in-Follow-clause-most
returns-in-Follow-clause-most g c = subst (λ m. length (told m (volume_seen (g.P.Plant.state c.args.plant.now) c.args.config.now (target m))) + 1 ≤ 1) (sym c.yield_on.ensures) (omega arith)

pub returns-in-Follow-clause-stop : goal.returns-in-Follow-clause-stop
returns-in-Follow-clause-stop g c = subst (λ m. length (told m (volume_seen (g.P.Plant.state c.args.plant.now) c.args.config.now (target m))) + 1 ≤ 1) (sym c.yield_on.ensures) (omega arith)

pub returns-in-Fall-clause-refused : goal.returns-in-Fall-clause-refused
returns-in-Fall-clause-refused g c = goes-stops (g.P.Plant.state c.args.plant.now) c.args.config.now (TheNext.Do c.fall_back_on.result) tt

pub returns-in-Follow-clause-refused : goal.returns-in-Follow-clause-refused
returns-in-Follow-clause-refused g c = goes-stops (g.P.Plant.state c.args.plant.now) c.args.config.now (TheNext.Do c.yield_on.result) tt
