use Rattle.std.proofs.Common.{◌≡◌, ◌≤◌, ◌<◌, ℕ, List, length, get_or, cond, false}
use Rattle.dr_model.specs.Contents.{byte_laid}
use Rattle.dr_model.specs.Asked.{byte_over}
use Rattle.dr_model.proofs.image.lay_under.Given as goal

abbrev pub invariant-loop-k : goal.invariant-loop-k
invariant-loop-k l = record {
  known_length : length l.known ≡ 64;
  length : length l.into ≡ 64;
  known_later : (q : ℕ) → l.k ≤ q → get_or l.known q false ≡ get_or l.initial.known q false;
  later : (q : ℕ) → l.k ≤ q → get_or l.into q 0 ≡ get_or l.initial.into q 0;
  done : (q : ℕ) → q < l.k → (under : List ℕ) → byte_over l.known l.into under q ≡ cond (get_or l.initial.known q false) (get_or l.initial.into q 0) (byte_laid l.offset l.bytes under q);
}
