-- The two moves of a command on a pair, one after the other.
use Rattle.std.specs.Prelude.{◌≡◌, ℕ, true, false, List, [], ◌∷◌, is_some}
use Rattle.dr_plant.specs.State.{PlantState}
use Rattle.dr_config.specs.Table.{ConfigTable, place_of}
use Rattle.dr_model.specs.Layout.{is_part}
use Rattle.dr_model.specs.Moves.{MakeSecondary, MakePrimary, DropPrimary, Suspend}
use Rattle.dr_model.specs.Carry.{Entry, now}
use Rattle.dr_model.specs.PairEntries.{let_go, tell_paused, follow_on, resume_on}
use Rattle.dr_volume.specs.View.{volume_seen}
use Rattle.dr_moves.specs.Made.{IsPrimary, IsSecondary}
use Rattle.dr_gcopy.specs.declared.both.Command.{Command}
use Rattle.dr_gcopy.specs.declared.both.Command.TheVariants.{Make, Remove, Pause, Resume}
use Rattle.dr_gcopy.specs.declared.both.Stage.{Stage}
use Rattle.dr_gcopy.specs.declared.both.Stage.TheVariants.{First, Second, Over}

-- the first entry of a command
abbrev pub first_of : ℕ → ℕ → Command → Entry
first_of a b (Make kind state full) = now (MakeSecondary b a kind state)
first_of a b Remove = now (DropPrimary a)
first_of a b Pause = now (Suspend a false)
first_of a b Resume = follow_on a b

-- and the second
abbrev pub second_of : ℕ → ℕ → Command → Entry
second_of a b (Make kind state full) = now (MakePrimary a b kind state full)
second_of a b Remove = let_go a b
second_of a b Pause = tell_paused a b
second_of a b Resume = resume_on a

-- the one that comes next
abbrev pub entry_of : ℕ → ℕ → Command → Stage → Entry
entry_of a b command First = first_of a b command
entry_of a b command _ = second_of a b command

-- and all that are left
abbrev pub left_of : ℕ → ℕ → Command → Stage → List Entry
left_of a b command First = first_of a b command ∷ second_of a b command ∷ []
left_of a b command Second = second_of a b command ∷ []
left_of a b command Over = []

-- how many events they tell at most
abbrev pub room_of : Stage → ℕ
room_of First = 1
room_of _ = 0

-- the server of v is on
abbrev pub IsOn : PlantState → ConfigTable → ℕ → Type 0
IsOn s c v = s.on (volume_seen s c v).server ≡ true

-- what a command asks before its first entry, besides what it asks before its second
abbrev pub AsksFirst : PlantState → ConfigTable → ℕ → ℕ → Command → Type 0
AsksFirst s c a b (Make kind state full) = IsOn s c b
AsksFirst s c a b Remove = IsOn s c a
AsksFirst s c a b Pause = IsOn s c a × IsPrimary s c a
AsksFirst s c a b Resume = IsOn s c b × IsSecondary s c b

-- and before its second
abbrev pub AsksSecond : PlantState → ConfigTable → ℕ → ℕ → Command → Type 0
AsksSecond s c a b (Make kind state full) = IsOn s c a × (is_part kind ≡ true)
AsksSecond s c a b Remove = IsOn s c b
AsksSecond s c a b Pause = Unit {0}
AsksSecond s c a b Resume = IsOn s c a × IsPrimary s c a

-- both volumes are defined, and what is asked before the second entry holds
pub record CanEnd (s : PlantState) (c : ConfigTable) (a b : ℕ) (command : Command) : Type 0 where
  pub primary : is_some (place_of c a) ≡ true
  pub secondary : is_some (place_of c b) ≡ true
  pub asks : AsksSecond s c a b command

-- and so does what is asked before the first
pub record CanBegin (s : PlantState) (c : ConfigTable) (a b : ℕ) (command : Command) : Type 0 where
  pub asks : AsksFirst s c a b command
  pub ends : CanEnd s c a b command

-- what is asked before the one that comes next
abbrev pub CanGo : PlantState → ConfigTable → ℕ → ℕ → Command → Stage → Type 0
CanGo s c a b command First = CanBegin s c a b command
CanGo s c a b command Second = CanEnd s c a b command
CanGo s c a b command Over = Unit {0}
