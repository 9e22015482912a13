use Rattle.std.proofs.Common.{◌≡◌, ℕ, ◌<◌, None, nat_eq}
use Rattle.indexmap.specs.IndexSet.{contains}
use Rattle.dr_lost.specs.Broken.{acknowledged_in, told_at}
use Rattle.dr_lost.proofs.broken.first_acknowledged.Given as goal

abbrev pub invariant-loop-place : goal.invariant-loop-place
invariant-loop-place l = (i : ℕ) → i < l.place → told_at (acknowledged_in (contains nat_eq l.among)) l.journal.events i ≡ None
