use Rattle.dr_laws_images.proofs.Proper.{images-short}
use Rattle.dr_laws_images.proofs.images_are_short.Goals as goal

pub returns : goal.returns
returns c = images-short
