use Rattle.std.proofs.Common.{ℕ, ◌<◌, false, sym, subst, refl, ◌∙◌}
use Rattle.std.specs.Prelude.{IfSome}
use Rattle.dr_ids.specs.Sizes.{track_block}
use Rattle.dr_plant.proofs.WritesLemmas.{err_pair, append-goes, append-stops}
use Rattle.dr_volume.specs.Update.{stages, side_writes, track_writes, given_way}
use Rattle.dr_volume.proofs.RanLaws.{ran-written}
use Rattle.dr_volume.proofs.opened.write_before.Goals as goal

pub returns-in_err-write_side : goal.returns-in_err-write_side
returns-in_err-write_side g c =
    append-stops (g.P.Plant.state c.args.plant.now) _ c.args.device.0 (side_writes c.args.side.now) (track_writes (given_way c.args.carried.now (stages c.args.fields.now))) c.in_err-write_side.ensures
    ∙ err_pair _ _ _ c.from_residual.ensures.0 refl

pub make_way-requires-clause-device : goal.make_way-requires-clause-device
make_way-requires-clause-device g c =
    let s = g.P.Plant.state c.args.plant.now in
    subst (λ n. c.args.device.0 < n) (sym (ran-written s _ c.args.device.0 _ false c.in_ok-write_side.ensures).shape.count) c.requires.device

pub make_way-requires-clause-track : goal.make_way-requires-clause-track
make_way-requires-clause-track g c =
    let s = g.P.Plant.state c.args.plant.now in
    let d = c.args.device.0 in
    subst (λ (size : ℕ → ℕ). IfSome (stages c.args.fields.now) (λ t. (t.0 < 256) × (track_block t.0 < size d))) (sym (ran-written s _ d _ false c.in_ok-write_side.ensures).shape.size) c.requires.track

pub returns : goal.returns
returns g c =
    append-goes (g.P.Plant.state c.args.plant.now) _ c.args.device.0 (side_writes c.args.side.now) (track_writes (given_way c.args.carried.now (stages c.args.fields.now))) c.in_ok-write_side.ensures
    ∙ c.make_way.ensures
