use Rattle.dr_laws_losses.proofs.Laws.{loss-is-known}
use Rattle.dr_laws_losses.proofs.the_loss_of_a_recovery_is_known.Goals as goal

pub returns : goal.returns
returns c = loss-is-known
