use Rattle.dr_laws_cuts.proofs.Seals.{seals-hold}
use Rattle.dr_laws_cuts.proofs.seals_hold.Goals as goal

pub returns : goal.returns
returns c = λ w rows sound. seals-hold w sound.laws rows sound.once
