use Rattle.dr_plant.proofs.Tables.{contents-push}
use Rattle.dr_plant.proofs.devices.add.Goals as goal

pub returns-clause-contents : goal.returns-clause-contents
returns-clause-contents c = rw c.in_ok-push.ensures.items (contents-push c.args.devices.now.items _ c.args.blocks c.in_ok-blocks.ensures)
