use Rattle.std.proofs.Common.{ℕ, ◌≡◌, ◌<◌, false}
use Rattle.dr_volume.specs.View.{track_seen}
use Rattle.dr_gcopy.proofs.DifferenceLemmas.{differs}
use Rattle.dr_gcopy.proofs.compare.first_unlike.Given as goal

abbrev pub invariant-loop-t : goal.invariant-loop-t
invariant-loop-t g l = (i : ℕ) → i < l.t → differs (track_seen (g.P.Plant.state l.plant) l.config) l.a.0 l.b.0 i ≡ false
