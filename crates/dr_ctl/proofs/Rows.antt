-- What rows of zeros count.
use Rattle.std.proofs.Common.{◌≡◌, ℕ, List, [], get_or, replicate, slice_index, arith}
use Rattle.std.proofs.lemmas.Grind.{common_steps}
use Rattle.dr_ctl.specs.Kept.{in_row}

pub none-counted : (n s : ℕ) → ◌≡◌ {A = ℕ} (slice_index (replicate n 0) s) 0
none-counted n s = grind (arith, common_steps)

none-in : (n s x : ℕ) (row : List ℕ) → ((k : ℕ) → ◌≡◌ {A = ℕ} (slice_index row k) 0) → ◌≡◌ {A = ℕ} (slice_index (get_or (replicate n row) s []) x) 0
none-in n s x row none = grind (arith, common_steps, none x)

pub none-counted-in : (n k s x : ℕ) → ◌≡◌ {A = ℕ} (in_row (replicate n (replicate k 0)) s x) 0
none-counted-in n k s x = none-in n s x (replicate k 0) (none-counted k)
