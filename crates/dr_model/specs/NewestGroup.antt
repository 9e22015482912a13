-- The newest group of a session, by places of the journal.
use Rattle.std.specs.Prelude.{◌≡◌, ◌≤◌, ℕ, List, ◌∷◌, ◌++◌}
use Rattle.dr_model.specs.declared.event.Event.{Event}
use Rattle.dr_model.specs.declared.event.Event.TheVariants.{Committed, Left}
use Rattle.dr_model.specs.Groups.{In}

-- Primary a stands committed with number n in session s: the target of its member was committed with that number, and hasn't left the
-- session since.
pub record StandsCommitted (events : List Event) (s n a : ℕ) : Type 0 where
  pub before : List Event
  pub behind : List Event
  pub target : ℕ
  pub is : events ≡ before ++ Committed s n a target ∷ behind
  pub stays : In (Left s a) behind → ⊥

-- the greatest number with which any does
pub record NewestGroup (events : List Event) (s n : ℕ) : Type 0 where
  pub primary : ℕ
  pub committed : StandsCommitted events s n primary
  pub greatest : (k a : ℕ) → StandsCommitted events s k a → k ≤ n
