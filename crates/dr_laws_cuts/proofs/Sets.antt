-- Sets of tracks, and choices.
use Rattle.std.proofs.Common.{ℕ, ◌≡◌, refl, true, Option, Some, None}
use Rattle.std.specs.Prelude.{is_some}

-- what an option holds
pub from_some : (o : Option ℕ) → is_some o ≡ true → (o ≡ None → ⊥)
from_some None h n = absurd cc
from_some (Some s) h n = absurd cc

pub none_by : (o : Option ℕ) → (is_some o ≡ true → ⊥) → o ≡ None
none_by None h = refl
none_by (Some s) h = absurd (h refl)
