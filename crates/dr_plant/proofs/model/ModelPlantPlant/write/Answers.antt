use Rattle.std.proofs.Common.{◌≡◌, ◌∙◌, sym, ap, arith, None, refl}
use Rattle.dr_plant.specs.State as state
use Rattle.dr_plant.specs.Model.{state_of}
use Rattle.dr_plant.proofs.StateLemmas.{write_done, same_state}
use Rattle.dr_plant.proofs.Tables.{each-set}
use Rattle.dr_plant.proofs.model.ModelPlantPlant.write.Goals as goal
use Rattle.dr_logic.specs.Tables.{at}

pub returns-clause-state : goal.returns-clause-state
returns-clause-state c =
    let s = state_of c.args.self.now in
    let is : c.owner_of-owner.result ≡ s.owner c.args.dev.0 = c.owner_of-owner.ensures.is in
    let e = c.put_block-2.ensures in
    same_state _ _ e.count e.owners e.sizes e.contents refl
    (each-set None c.args.self.now.write_fuses c.owner_of-owner.result c.lower_write.new.fuse (omega arith)
    ∙ (λ i. at s.write_fuse (is i) ((c.lower_write.ensures ∙ ap (λ k. state.lowered_write (s.write_fuse k)) is) i)))
    (each-set None c.args.self.now.read_fuses c.owner_of-owner.result c.lowered_read.result (omega arith)
    ∙ (λ i. at s.read_fuse (is i) ((c.lowered_read.ensures ∙ ap (λ k. state.lowered_read (s.read_fuse k)) is) i)))
    refl
    ∙ sym (write_done s c.args.dev.0 c.args.block c.args.from.now (ap s.on (sym is) ∙ grind arith) (ap (λ k. state.passes_write (s.write_fuse k)) (sym is) ∙ grind arith))
