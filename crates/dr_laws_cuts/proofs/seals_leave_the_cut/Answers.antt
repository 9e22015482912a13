use Rattle.std.proofs.Common.{refl, None}
use Rattle.dr_laws_cuts.proofs.Sent.{cuts-hold}
use Rattle.dr_laws_cuts.proofs.SealEnds.{seal-ends}
use Rattle.dr_laws_cuts.proofs.seals_leave_the_cut.Goals as goal

pub returns-clause-sound : goal.returns-clause-sound
returns-clause-sound c = λ w rows k. cuts-hold w rows k

pub returns-clause-kept : goal.returns-clause-kept
returns-clause-kept c = λ w u s a b n armed r laws sends ends. (seal-ends w laws s a b n sends armed u r ends).holds

pub returns-clause-sealed : goal.returns-clause-sealed
returns-clause-sealed c = λ w u s a b n armed laws sends ends drained. (seal-ends w laws s a b n sends armed u None ends).sealed_for refl drained
