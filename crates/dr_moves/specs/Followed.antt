-- Entries, and what follows the stop of a server in them.
use Rattle.std.specs.Prelude.{◌≡◌, ◌≤◌, ◌+◌, ◌⊎◌, ℕ, Bool, List, [], ◌∷◌, length, Option, None, Some}
use Rattle.dr_logic.specs.Counts.{Counted}
use Rattle.dr_ids.specs.declared.refusal.Refusal.{Refusal}
use Rattle.dr_ids.specs.declared.refusal.Refusal.TheVariants.{Stopped}
use Rattle.dr_plant.specs.State.{PlantState}
use Rattle.dr_config.specs.Table.{ConfigTable}
use Rattle.dr_model.specs.Control.{World}
use Rattle.dr_model.specs.Carry.{Entry, Stretch}
use Rattle.dr_model.specs.Log.{Log}
use Rattle.dr_model.specs.ReadStops.{Ends}
use Rattle.dr_moves.specs.Made.{IsAt}
use Rattle.dr_moves.specs.Turns.{Fails}

-- These entries, carried out from v on, end in u, whatever they are refused for.
pub record EndsSo (armed : ℕ → Bool) (v : World) (entries : List Entry) (u : World) : Type 0 where
  pub refusal : Option Refusal
  pub ends : Ends armed u refusal v entries

-- The first of entries, and then those after it.
pub record EndsFirst (armed : ℕ → Bool) (v : World) (d : Entry) (more : World → Type 0) : Type 0 where
  pub middle : World
  pub first : EndsSo armed v (d ∷ []) middle
  pub later : more middle

-- These entries, each also where a server stopped in one before, end in u.
abbrev pub EndsEach : (ℕ → Bool) → World → List Entry → World → Type 0
EndsEach armed v [] u = u ≡ v
EndsEach armed v (d ∷ ds) u = EndsFirst armed v d (λ m. EndsEach armed m ds u)

-- What follows what ended in v with that refusal leads to u: where a server stopped, these entries; else nothing.
abbrev pub Follows : (ℕ → Bool) → World → Option Refusal → List Entry → World → Type 0
Follows armed v (Some (Stopped s)) follows u = EndsEach armed v follows u
Follows armed v _ follows u = u ≡ v

-- From w the entries end with refusal r, and what follows that leads to u.
pub record EndsFollowed (armed : ℕ → Bool) (w : World) (entries : List Entry) (follows : List Entry) (u : World) (r : Option Refusal) : Type 0 where
  pub middle : World
  pub ends : Ends armed middle r w entries
  pub followed : Follows armed middle r follows u

-- The same where they end all entries that come behind them, too.
pub record FailsFollowed (armed : ℕ → Bool) (w : World) (entries : List Entry) (follows : List Entry) (u : World) (r : Option Refusal) : Type 0 where
  pub middle : World
  pub fails : Fails armed w entries middle r
  pub followed : Follows armed middle r follows u

-- From w a stretch leads on.
pub record LeadsOn (armed : ℕ → Bool) (w : World) (s : Stretch) (more : World → Type 0) : Type 0 where
  pub middle : World
  pub ends : Ends armed middle None w s.entries
  pub later : more middle

-- Or it ends all, with what follows a stop in it.
pub record EndsHere (armed : ℕ → Bool) (w : World) (s : Stretch) (u : World) (r : Option Refusal) : Type 0 where
  pub why : Refusal
  pub middle : World
  pub ends : Ends armed middle (Some why) w s.entries
  pub followed : Follows armed middle (Some why) s.follows u
  pub refusal : r ≡ Some why

-- From w these stretches, one after another, end in u with refusal r.
abbrev pub EndsIn : (ℕ → Bool) → World → List Stretch → World → Option Refusal → Type 0
EndsIn armed w [] u r = (u ≡ w) × (r ≡ None)
EndsIn armed w (s ∷ ss) u r = LeadsOn armed w s (λ v. EndsIn armed v ss u r) ⊎ EndsHere armed w s u r

-- What stays from s to u over what follows a stop, or no stop: configuration and plant agree, no read fuse is armed, the fault of
-- the stop stays counted, and so many events are told at most.
pub record KeptBehind (s u : PlantState) (c : ConfigTable) (old new : Log) (most : ℕ) (stopped : Bool) : Type 0 where
  pub at : IsAt u c
  pub unarmed : (q : ℕ) → s.read_fuse q ≡ None → u.read_fuse q ≡ None
  pub faults : (f : ℕ) → Counted stopped f s.faults → Counted stopped f u.faults
  pub room : old.spare ≤ new.spare + most
  pub spare : length new.events + new.spare ≡ length old.events + old.spare
