use Rattle.std.proofs.Common.{arith}
use Rattle.dr_admin.proofs.targets.only_mirrored.Goals as goal

pub overflow_add-first : goal.overflow_add-first
overflow_add-first g c = let low = c.in-Some.ensures.low in omega (arith, low)
