use Rattle.dr_laws_progress.proofs.CanForm.{refused-by-attempt}
use Rattle.dr_laws_progress.proofs.only_the_attempt_refuses_an_exchange.Goals as goal

pub returns : goal.returns
returns c = refused-by-attempt
