use Rattle.std.proofs.Common.{◌≡◌, ◌≤◌, ◌<◌, ℕ, length, get_or, cond, false}
use Rattle.dr_model.proofs.image.clear_rest.Given as goal

abbrev pub invariant-loop-k : goal.invariant-loop-k
invariant-loop-k l = record {
  length : length l.into ≡ 64;
  later : (q : ℕ) → l.k ≤ q → get_or l.into q 0 ≡ get_or l.initial.into q 0;
  done : (q : ℕ) → q < l.k → get_or l.into q 0 ≡ cond (get_or l.known q false) (get_or l.initial.into q 0) 0;
}
