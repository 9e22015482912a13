use Rattle.std.proofs.Common.{ℕ, ◌≡◌, ◌<◌, ◌-◌, ◌*◌, get_or, nat_eq, nat_lt}
use Rattle.std.specs.Int.{bit_at}
use Rattle.dr_bits.specs.Tracks.{AreFourWords}
use Rattle.dr_bits.proofs.TrackSet.first.Given as goal

abbrev pub invariant-loop-k : goal.invariant-loop-k
invariant-loop-k l = record {
  are : AreFourWords l.words;
  so_far : (k i : ℕ) → k < l.k → i < 64 → nat_eq (bit_at (get_or l.words k 0) i) 1 ≡ nat_lt i (l.n - 64 * k);
}
