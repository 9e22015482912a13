use Rattle.std.proofs.Common.{sym, subst}
use Rattle.dr_image.specs.Lines.{state_of}
use Rattle.dr_image.specs.Reader.{IsState}
use Rattle.dr_image.proofs.StepLaws.{step-state, line-small}
use Rattle.dr_image.proofs.reader.take_line.Goals as goal

pub step-requires-clause-few : goal.step-requires-clause-few
step-requires-clause-few c = line-small (state_of c.args.state.now) c.requires.state

pub returns-clause-state : goal.returns-clause-state
returns-clause-state c = subst IsState (sym c.in_ok-step.ensures.ok) (step-state (state_of c.args.state.now) c.deref.result.now c.requires.state)
