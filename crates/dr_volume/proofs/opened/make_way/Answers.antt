use Rattle.std.proofs.Common.{ap, sym, ◌∙◌, Option, ℕ, [], ◌∷◌}
use Rattle.dr_model.specs.Moves.{Carried}
use Rattle.dr_plant.specs.Writes.{write, after_writes}
use Rattle.dr_plant.proofs.WritesLemmas.{one_write, ends}
use Rattle.dr_volume.specs.Update.{track_with, track_writes}
use Rattle.dr_volume.proofs.opened.make_way.Goals as goal

pub returns-in-Some : goal.returns-in-Some
returns-in-Some g c =
    let bytes = c.args.fields.now.staged_bytes in
    ap (λ (m : Carried). after_writes (g.P.Plant.state c.args.plant.now) c.args.device.0 (track_writes m)) (sym (c.giving_way.ensures bytes) ∙ ap (λ (o : Option ℕ). track_with o bytes) c.in-Some.is)
    ∙ ap (λ n. after_writes (g.P.Plant.state c.args.plant.now) c.args.device.0 (write n bytes ∷ [])) (sym c.track_block.ensures)
    ∙ one_write (g.P.Plant.state c.args.plant.now) _ c.args.device.0 _ _ c.write.result c.write.ensures.state c.write.ensures.done

pub returns-in-None : goal.returns-in-None
returns-in-None g c =
    let bytes = c.args.fields.now.staged_bytes in
    ap (λ (m : Carried). after_writes (g.P.Plant.state c.args.plant.now) c.args.device.0 (track_writes m)) (sym (c.giving_way.ensures bytes) ∙ ap (λ (o : Option ℕ). track_with o bytes) c.in-None.is)
    ∙ ends (g.P.Plant.state c.args.plant.now) c.args.device.0
