use Rattle.std.proofs.Common.{◌≡◌, ℕ, List, ap, sym, ◌∙◌}
use Rattle.std.specs.Prelude.{Ok}
use Rattle.std.proofs.lemmas.Result.{IfOk-weaker}
use Rattle.dr_model.specs.PlantImage.{Volume, IsImage, image_text, reading}
use Rattle.dr_image.proofs.RoundLaws.{written-reads, proper-reads}
use Rattle.dr_image.proofs.writer.write_image.Goals as goal

pub returns-clause-reads : goal.returns-clause-reads
returns-clause-reads c =
    let i : List Volume = c.args.i.now in
    IfOk-weaker c.write_whole.result (λ (text : List ℕ). text ≡ image_text i) (λ (text : List ℕ). (image : List Volume) → reading text ≡ Ok image → image ≡ i)
    (λ text is image e. written-reads i image c.write_whole.ensures.sound (sym (ap reading is) ∙ e)) c.write_whole.ensures.text

pub returns-clause-proper : goal.returns-clause-proper
returns-clause-proper c =
    let i : List Volume = c.args.i.now in
    IfOk-weaker c.write_whole.result (λ (text : List ℕ). text ≡ image_text i) (λ (text : List ℕ). IsImage i → reading text ≡ Ok i)
    (λ text is proper. ap reading is ∙ proper-reads i proper) c.write_whole.ensures.text
