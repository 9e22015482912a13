-- The two moves of a failback, one after the other.
use Rattle.std.specs.Prelude.{◌≡◌, ◌≢◌, ◌⊎◌, ℕ, Bool, true, List, [], ◌∷◌, None, is_some, refl}
use Rattle.std.proofs.Common.{subst}
use Rattle.dr_plant.specs.State.{PlantState}
use Rattle.dr_config.specs.Table.{ConfigTable, place_of}
use Rattle.dr_model.specs.Carry.{Entry}
use Rattle.dr_model.specs.Moves.{Move, FallBack, Yield}
use Rattle.dr_model.specs.PairEntries.{fall_back_on, yield_on}
use Rattle.dr_model.specs.Pairs.{state_with}
use Rattle.dr_volume.specs.Update.{IsAsBefore, IsMoved, OthersStay}
use Rattle.dr_volume.specs.View.{volume_seen}
use Rattle.dr_moves.specs.Made.{IsPrimary}
use Rattle.dr_gcopy.specs.Both.{IsOn}
use Rattle.dr_gcopy.specs.Steps.{BothAlone}
use Rattle.dr_failover.specs.Outcomes.{unsent_seen, yielded_seen, Turned, ZerosThere, SameTracks}
use Rattle.dr_failover.specs.Steps.{failback_moves}
use Rattle.dr_failover.specs.declared.turning.Stage.{Stage}
use Rattle.dr_failover.specs.declared.turning.Stage.TheVariants.{Fall, Follow, Over}

-- x falls back on y
abbrev pub fall_seen : PlantState → ConfigTable → ℕ → ℕ → Move
fall_seen s c x y = FallBack x (unsent_seen s c y) (state_with (unsent_seen s c y) (volume_seen s c x).fields)

-- y becomes the secondary of x
abbrev pub yield_seen : PlantState → ConfigTable → ℕ → ℕ → Move
yield_seen s c x y = Yield y x (volume_seen s c x).fields.primary (volume_seen s c x).fields.primary_state

-- the entry that comes next
abbrev pub entry_of : ℕ → ℕ → Stage → Entry
entry_of x y Fall = fall_back_on x y
entry_of x y _ = yield_on y x

-- and all that are left
abbrev pub left_of : ℕ → ℕ → Stage → List Entry
left_of x y Fall = failback_moves x y
left_of x y Follow = yield_on y x ∷ []
left_of x y Over = []

-- y is another volume on a running server, and x a primary
pub record CanFollow (s : PlantState) (c : ConfigTable) (x y : ℕ) : Type 0 where
  pub first : is_some (place_of c x) ≡ true
  pub second : is_some (place_of c y) ≡ true
  pub reached : IsOn s c y
  pub primary : IsPrimary s c x
  pub apart : y ≢ x

-- and x is on a running server, and of the size of y
pub record CanTurn (s : PlantState) (c : ConfigTable) (x y : ℕ) : Type 0 where
  pub running : IsOn s c x
  pub size : (volume_seen s c y).tracks ≡ (volume_seen s c x).tracks
  pub follows : CanFollow s c x y

-- what is asked before the one that comes next
abbrev pub CanGo : PlantState → ConfigTable → ℕ → ℕ → Stage → Type 0
CanGo s c x y Fall = CanTurn s c x y
CanGo s c x y Follow = CanFollow s c x y
CanGo s c x y Over = Unit {0}

-- From s to u the second was done, or cut short.
pub record SecondMade (done : Bool) (s u : PlantState) (c : ConfigTable) (x y : ℕ) : Type 0 where
  pub moved : done ≡ true → IsMoved s u c y (yielded_seen s c y x) None
  pub either : IsAsBefore s u c y ⊎ IsMoved s u c y (yielded_seen s c y x) None
  pub others : OthersStay s u c y

-- From s to u both were done, or cut short.
pub record BothMade (done : Bool) (s u : PlantState) (c : ConfigTable) (x y : ℕ) : Type 0 where
  pub turned : done ≡ true → Turned s u c x y
  pub tracks : ZerosThere s c → SameTracks s u c
  pub others : BothAlone s u c x y

-- what those that are left make
abbrev pub Makes : Stage → Bool → PlantState → PlantState → ConfigTable → ℕ → ℕ → Type 0
Makes Fall done s u c x y = BothMade done s u c x y
Makes Follow done s u c x y = SecondMade done s u c x y
Makes Over done s u c x y = u ≡ s

-- an entry is left
abbrev pub IsLeft : List Entry → Type 0
IsLeft [] = ⊥
IsLeft (d ∷ ds) = Unit {0}

-- nothing is left only behind both
pub none_made : (stage : Stage) (s : PlantState) (c : ConfigTable) (x y : ℕ) → left_of x y stage ≡ [] → Makes stage true s s c x y
none_made Over s c x y none = refl
none_made Fall s c x y none = absurd (subst IsLeft none tt)
none_made Follow s c x y none = absurd (subst IsLeft none tt)
