use Rattle.std.proofs.Common.{ap, ◌∙◌}
use Rattle.dr_model.specs.PlantImage.{begin}
use Rattle.dr_image.specs.Reader.{reads_on}
use Rattle.dr_image.proofs.ReadLemmas.{reads-begin}
use Rattle.dr_image.proofs.reader.ImageReader.new.Goals as goal

pub returns-clause-reads : goal.returns-clause-reads
returns-clause-reads c = λ rest. ap (λ s. reads_on s c.new.result.items rest) c.begin.ensures ∙ ap (λ p. reads_on begin p rest) c.new.ensures.items ∙ reads-begin rest
