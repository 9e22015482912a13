use Rattle.std.proofs.Common.{◌≡◌, ℕ, List, ap, ◌∙◌}
use Rattle.std.specs.Prelude.{Result, Ok, Err, IfOk, IfErr}
use Rattle.dr_model.specs.PlantImage.{Volume, IsImage, image_text, reading}
use Rattle.dr_image.specs.declared.fault.ImageFault.{ImageFault}
use Rattle.dr_image.specs.declared.fault.ImageFault.TheVariants.{NoMemory, BadImage}
use Rattle.dr_image.specs.Outcome.{ReadsAs, IsNoImage, TellsFirst}
use Rattle.dr_image.proofs.FirstBadLaws.{reading-first_bad}
use Rattle.dr_image.proofs.ImageLaws.{reading-text}
use Rattle.dr_image.proofs.RoundLaws.{proper-reads}
use Rattle.dr_image.proofs.reader.read_image.Goals as goal

image_of : (text : List ℕ) (r : Result (List Volume) ImageFault) → ReadsAs (reading text) r → IfOk r (λ image. (text ≡ image_text image) × IsImage image)
image_of text (Ok image) reads = reading-text text image reads
image_of text (Err fault) reads = tt

no_image : (text : List ℕ) (r : Result (List Volume) ImageFault) → ReadsAs (reading text) r → IfErr r (IsNoImage text)
no_image text (Ok image) reads = tt
no_image text (Err NoMemory) reads = tt
no_image text (Err (BadImage line)) reads = λ image proper is. let good = ap reading is ∙ proper-reads image proper in cc

first_bad : (text : List ℕ) (r : Result (List Volume) ImageFault) → ReadsAs (reading text) r → IfErr r (TellsFirst text)
first_bad text (Ok image) reads = tt
first_bad text (Err NoMemory) reads = tt
first_bad text (Err (BadImage line)) reads = reading-first_bad text line reads

pub returns-clause-image : goal.returns-clause-image
returns-clause-image c = image_of c.args.text.now c.read_whole.result c.read_whole.ensures

pub returns-clause-bad : goal.returns-clause-bad
returns-clause-bad c = no_image c.args.text.now c.read_whole.result c.read_whole.ensures

pub returns-clause-first : goal.returns-clause-first
returns-clause-first c = first_bad c.args.text.now c.read_whole.result c.read_whole.ensures
