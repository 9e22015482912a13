use Rattle.dr_sweep.proofs.RowLemmas.{told-adds}
use Rattle.dr_sweep.proofs.rows.push_told.Goals as goal

pub returns : goal.returns
returns c = told-adds c.args.plan.now c.args.point c.args.told c.in_ok-row.row c.args.rows.now.items c.push.new.self.items c.requires c.in_ok-row.ensures c.in_ok-push.ensures.items
