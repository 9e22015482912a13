use Rattle.std.proofs.Common.{◌≡◌, ℕ, ◌<◌, false, length, get_or}
use Rattle.dr_steps.proofs.masters.servers_on.Given as goal

abbrev pub invariant-loop-server : goal.invariant-loop-server
invariant-loop-server g l = record {
  sized : length l.on ≡ 8;
  so_far : (k : ℕ) → k < l.server → get_or l.on k false ≡ (g.P.Plant.state l.plant).on k;
}
