use Rattle.dr_laws_sound.proofs.Parts.{each-plan}
use Rattle.dr_laws_sound.proofs.StopsTold.{ending-tells}
use Rattle.dr_laws_sound.proofs.stops_are_told.Goals as goal

pub returns : goal.returns
returns c = λ w t x there. ending-tells x.world t.line x.plan (each-plan (λ v. Unit {0}) (λ v p comes k. tt) w t tt x there).1
