use Rattle.std.proofs.Common.{◌&&◌, ap, sym, ◌∙◌}
use Rattle.std.specs.Prelude.{if◌then◌else◌}
use Rattle.dr_model.specs.Pairs.{held}
use Rattle.dr_volume.specs.View.{volume_seen}
use Rattle.dr_moves.specs.declared.carrying.Next.TheVariants.{Pass, Do}
use Rattle.dr_moves.specs.declared.moves.Move.TheVariants.{Lift}
use Rattle.dr_admin.proofs.lifting.lift_next.Goals as goal

pub returns-then-not-belongs : goal.returns-then-not-belongs
returns-then-not-belongs g c =
    let f = (volume_seen (g.P.Plant.state c.args.plant.now) c.args.config.now c.args.v.0).fields in
    ap (λ b. if b && held f then Do (Lift c.args.v) else Pass) c.if-not-belongs.ensures

pub returns-then-not-is_held : goal.returns-then-not-is_held
returns-then-not-is_held g c =
    let own = sym c.if-not-belongs.ensures in
    let free = ap held (sym c.peek_fields.ensures.fields) ∙ sym c.if-not-is_held.ensures in
    λ i. if sym own i && sym free i then Do (Lift c.args.v) else Pass

pub returns : goal.returns
returns g c =
    let own = sym c.if-not-belongs.ensures in
    let held_now = ap held (sym c.peek_fields.ensures.fields) ∙ sym c.if-not-is_held.ensures in
    λ i. if sym own i && sym held_now i then Do (Lift c.args.v) else Pass
