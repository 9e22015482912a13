use Rattle.std.proofs.Common.{◌≡◌, nat_eq, take}
use Rattle.indexmap.specs.IndexSet.{insert_all}
use Rattle.dr_lost.proofs.lost.add_all.Given as goal

abbrev pub invariant-loop-w : goal.invariant-loop-w
invariant-loop-w l = l.set.keys ≡ insert_all nat_eq l.initial.set.keys (take l.w-index l.writes)
