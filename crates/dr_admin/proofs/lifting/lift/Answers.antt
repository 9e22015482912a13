use Rattle.std.proofs.Common.{◌≡◌, ◌∙◌, sym, true, false}
use Rattle.dr_moves.specs.Here.{world_seen, armed_in}
use Rattle.dr_admin.proofs.LiftLemmas.{comes-off, comes-lifted}
use Rattle.dr_admin.proofs.lifting.lift.Goals as goal

pub returns-then-not-is_on-clause-plan : goal.returns-then-not-is_on-clause-plan
returns-then-not-is_on-clause-plan g c r =
    let s = g.P.Plant.state c.args.plant.now in
    comes-off s c.args.config.now r c.args.journal.now.events c.args.s.0 c.requires.known (armed_in s) (sym c.if-not-is_on.ensures)

pub returns-then-not-is_on-clause-stopped : goal.returns-then-not-is_on-clause-stopped
returns-then-not-is_on-clause-stopped g c on = let e : false ≡ true = c.if-not-is_on.ensures ∙ on in absurd cc

pub returns-clause-plan : goal.returns-clause-plan
returns-clause-plan g c r =
    let s = g.P.Plant.state c.args.plant.now in
    comes-lifted s c.args.config.now r c.args.journal.now.events c.args.s.0 c.requires.known (armed_in s) (world_seen (g.P.Plant.state c.lift_all.new.plant) c.args.config.now r c.lift_all.new.journal.events) (sym c.if-not-is_on.ensures) c.lift_all.result (c.lift_all.ensures.carried r)

pub returns-clause-refused : goal.returns-clause-refused
returns-clause-refused g c off = let e : true ≡ false = c.if-not-is_on.ensures ∙ off in absurd cc

pub returns-clause-unchanged : goal.returns-clause-unchanged
returns-clause-unchanged g c off = let e : true ≡ false = c.if-not-is_on.ensures ∙ off in absurd cc
