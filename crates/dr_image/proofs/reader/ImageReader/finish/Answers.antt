use Rattle.std.proofs.Common.{◌≡◌, [], ℕ, List, Bool, false, ap, sym, ◌∙◌, subst}
use Rattle.std.specs.Prelude.{Result}
use Rattle.dr_model.specs.PlantImage.{Volume, State, finished}
use Rattle.dr_image.specs.declared.fault.ImageFault.{ImageFault}
use Rattle.dr_image.specs.Lines.{state_of}
use Rattle.dr_image.specs.Reader.{Reader, will_read, reads_on}
use Rattle.dr_image.specs.Outcome.{FinishesAs}
use Rattle.dr_image.proofs.ReadLemmas.{NoLineFeed, reads-end}
use Rattle.dr_image.proofs.reader.ImageReader.finish.Goals as goal

ends : (self : Reader) (failed : Bool) (s : State) (partial seen : List ℕ) (r : Result (List Volume) ImageFault) → (let w : Reader = record { failed = failed; state = s; partial = partial } in w) ≡ self → failed ≡ false → seen ≡ partial
    → NoLineFeed partial → FinishesAs false (finished s s.stage seen) r → FinishesAs self.failed (will_read self []) r
ends self failed s partial seen r view works same plain h =
    let P : Reader → Type 0 = λ w. FinishesAs w.failed (will_read w []) r in
    let Q : Bool → Type 0 = λ f. FinishesAs f (reads_on s partial []) r in
    let R : Result (List Volume) ℕ → Type 0 = λ x. FinishesAs false x r in
    subst P view (subst Q (sym works) (subst R (ap (finished s s.stage) same ∙ sym (reads-end s partial plain)) h))

pub returns-else-failed : goal.returns-else-failed
returns-else-failed c =
    ends c.args.self c.self.inside.failed (state_of c.self.inside.state) c.self.inside.partial.items c.deref.result.now c.finish.result c.self.view_is c.if-failed.false c.deref.ensures.value c.self.invariant.partial c.finish.ensures
