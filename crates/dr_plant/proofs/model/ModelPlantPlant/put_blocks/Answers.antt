use Rattle.std.proofs.Common.{◌≡◌, ◌∙◌, Option, Some, None, true, false, ap, refl, sym}
use Rattle.std.specs.Option.{is_none}
use Rattle.std.proofs.lemmas.Bool.{and_parts}
use Rattle.std.proofs.lemmas.List.{set-get_or}
use Rattle.dr_plant.specs.Model.{each, state_of}
use Rattle.dr_plant.proofs.StateLemmas.{same_state}
use Rattle.dr_plant.specs.Writes.{all_put, list_writes}
use Rattle.dr_plant.proofs.WriteLists.{writes_unarmed}
use Rattle.dr_plant.proofs.model.ModelPlantPlant.put_blocks.Goals as goal

none-there : {X : Type 0} (o : Option X) → is_none o ≡ true → o ≡ None
none-there None h = refl
none-there (Some x) h = absurd cc

pub returns-clause-done : goal.returns-clause-done
returns-clause-done c done =
    let s = state_of c.args.self.now in
    let e = c.put_blocks.ensures in
    let owner = sym c.owner_of-owner.ensures.is in
    let none = and_parts _ _ (sym c.if-not-unarmed.ensures) in
    let ws = list_writes c.args.first c.args.from.now in
    writes_unarmed s c.args.dev.0 ws (ap s.on owner ∙ c.if-not-self-owner.false) (ap s.write_fuse owner ∙ none-there _ none.0) (ap s.read_fuse owner ∙ none-there _ none.1)
    ∙ ap (λ t. (t, false)) (same_state (record s { block = all_put s.block c.args.dev.0 ws }) _ (sym e.count) (sym e.owners) (sym e.sizes) (sym e.contents) refl
    (ap (each None) (sym (set-get_or c.args.self.now.write_fuses c.owner_of-owner.result None)))
    (ap (each None) (sym (set-get_or c.args.self.now.read_fuses c.owner_of-owner.result None)))
    refl)
