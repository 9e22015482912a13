-- What blocks give that are read one after another.
use Rattle.std.specs.Prelude.{ℕ, zero, suc, ◌+◌, List}

-- A value once it took n blocks, from the k-th on.
unfoldable pub taken_from : {F : Type 0} → (F → ℕ → List ℕ → F) → ℕ → ℕ → (ℕ → List ℕ) → F → F
taken_from taken k zero block x = x
taken_from taken k (suc n) block x = taken_from taken (k + 1) n block (taken x k (block k))
