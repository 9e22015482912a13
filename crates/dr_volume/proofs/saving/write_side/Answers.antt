use Rattle.std.proofs.Common.{ℕ, List, Option, ap, ◌∙◌}
use Rattle.dr_plant.specs.Writes.{after_writes}
use Rattle.dr_plant.proofs.WritesLemmas.{one_write, ends}
use Rattle.dr_volume.specs.Update.{side_writes}
use Rattle.dr_volume.proofs.saving.write_side.Goals as goal

pub returns-in-Some : goal.returns-in-Some
returns-in-Some g c =
    ap (λ (x : Option (ℕ × List ℕ)). after_writes (g.P.Plant.state c.args.plant.now) c.args.device.0 (side_writes x)) c.in-Some.is
    ∙ one_write (g.P.Plant.state c.args.plant.now) _ c.args.device.0 _ _ c.write.result c.write.ensures.state c.write.ensures.done

pub returns-in-None : goal.returns-in-None
returns-in-None g c =
    ap (λ (x : Option (ℕ × List ℕ)). after_writes (g.P.Plant.state c.args.plant.now) c.args.device.0 (side_writes x)) c.in-None.is
    ∙ ends (g.P.Plant.state c.args.plant.now) c.args.device.0
