use Rattle.dr_model.specs.Runs.{run}
use Rattle.dr_laws_sound.proofs.Steps.{sound-run}
use Rattle.dr_laws_sound.proofs.Limits.{within-run}
use Rattle.dr_laws_images.proofs.ImageTexts.{image-printed}
use Rattle.dr_laws_images.proofs.Proper.{image-tells, is-image, reads-back}
use Rattle.dr_laws_images.proofs.Imaged.{all-read-back}
use Rattle.dr_laws_images.proofs.Servers.{run-one}
use Rattle.dr_laws_images.proofs.printed_images_are_read_back.Goals as goal

pub returns : goal.returns
returns c = record {
  tells = image-tells;
  prints = image-printed;
  image = λ tasks vs all. is-image (run tasks) (sound-run tasks) vs all (run-one tasks) (within-run tasks).volumes;
  runs = all-read-back;
  reads = λ tasks vs all. reads-back (run tasks) (sound-run tasks) vs all (run-one tasks) (within-run tasks).volumes;
}
