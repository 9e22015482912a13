use Rattle.std.proofs.Common.{◌<◌, arith, sym}
use Rattle.std.proofs.lemmas.Bool.{iff_false}
use Rattle.dr_master.proofs.Sets.{first-servers_in}
use Rattle.dr_master.proofs.servers.ServerSet.first.Goals as goal

pub returns-else-is_empty-clause-first : goal.returns-else-is_empty-clause-first
returns-else-is_empty-clause-first c =
    let low : c.args.self.0 < 256 = omega arith in
    sym (first-servers_in c.args.self.0 low (iff_false c.is_empty.ensures c.if-is_empty.false)).0

pub returns-else-is_empty-clause-low : goal.returns-else-is_empty-clause-low
returns-else-is_empty-clause-low c =
    let low : c.args.self.0 < 256 = omega arith in
    (first-servers_in c.args.self.0 low (iff_false c.is_empty.ensures c.if-is_empty.false)).1
