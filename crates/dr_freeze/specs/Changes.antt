-- What a freeze and a thaw do with each primary between two logical subsystems, and what they leave.
use Rattle.std.specs.Prelude.{◌≡◌, ◌≢◌, ◌≤◌, ℕ, Bool, ◌&&◌, true, false, List, None, if◌then◌else◌}
use Rattle.dr_ids.specs.Paths.{path_in}
use Rattle.dr_ids.specs.declared.names.VolumeId.{VolumeId}
use Rattle.dr_plant.specs.State.{PlantState}
use Rattle.dr_config.specs.Table.{ConfigTable}
use Rattle.dr_model.specs.declared.event.Event.{Event}
use Rattle.dr_model.specs.declared.state.PairState.TheVariants.{Suspended}
use Rattle.dr_model.specs.Layout.{Fields}
use Rattle.dr_model.specs.Carry.{Entry}
use Rattle.dr_model.specs.WriteEntries.{freeze_on, thaw_on}
use Rattle.dr_volume.specs.View.{Rest, volume_seen}
use Rattle.dr_moves.specs.Coming.{next_of, MayCome, Went, NotTarget, GoesOn, cost_of}
use Rattle.dr_moves.specs.Here.{world_seen}
use Rattle.dr_moves.specs.declared.carrying.Next.{Next}
use Rattle.dr_moves.specs.declared.carrying.Next.TheVariants.{Pass, Do}
use Rattle.dr_moves.specs.declared.moves.Move.TheVariants as move
use Rattle.dr_freeze.specs.declared.changes.Change.{Change}
use Rattle.dr_freeze.specs.declared.changes.Change.TheVariants.{Freeze, Thaw}
use Rattle.dr_freeze.specs.Between.{pairs_with, between, StillBetween}

-- the entry on one volume
abbrev pub change_on : Change → ℕ → ℕ → ℕ → Entry
change_on Freeze l m v = freeze_on l m v
change_on Thaw l m v = thaw_on l m v

-- what becomes of a volume with these fields, which is a primary between both or isn't
abbrev pub changed_by : Change → VolumeId → Bool → Fields → Next
changed_by Freeze v b f = if b then Do (move.Suspend v true) else Pass
changed_by Thaw v b f = if b && f.long_busy then Do (move.Thaw v) else Pass

-- a primary is frozen where it is Suspended and long busy
pub record IsFrozen (f : Fields) : Type 0 where
  pub suspended : f.primary_state ≡ Suspended
  pub busy : f.long_busy ≡ true

-- what a primary is after it
abbrev pub IsChanged : Change → Fields → Type 0
IsChanged Freeze f = IsFrozen f
IsChanged Thaw f = f.long_busy ≡ false

-- Each primary that was in l, with its secondary in m, is so now.
abbrev pub AllChanged : Change → PlantState → ConfigTable → PlantState → ConfigTable → ℕ → ℕ → Type 0
AllChanged x s t u n l m = (v : ℕ) → pairs_with l m v (volume_seen s t v).fields ≡ true → IsChanged x (volume_seen u n v).fields

-- Each primary that was in l, with its secondary in m, is frozen, and no path goes from l to m.
pub record AllFrozen (s : PlantState) (t : ConfigTable) (u : PlantState) (n : ConfigTable) (l m : ℕ) : Type 0 where
  pub primaries : AllChanged Freeze s t u n l m
  pub path : path_in n.paths l m ≡ None

-- Each of them is long busy no more.
abbrev pub AllThawed : PlantState → PlantState → ConfigTable → ℕ → ℕ → Type 0
AllThawed s u t l m = AllChanged Thaw s t u t l m

-- What becomes of v is what the entry on it comes to: one move of it at most, by which a primary between both is changed, and all stay
-- between both that were so. It may tell two events.
pub record IsStep (s : PlantState) (c : ConfigTable) (x : Change) (l m v : ℕ) (next : Next) : Type 0 where
  pub comes : (r : Rest) (events : List Event) → change_on x l m v (world_seen s c r events).control ≡ next_of next
  pub may : MayCome s c next
  pub few : cost_of next s c ≤ 2
  pub goes_on : GoesOn next
  pub alone : (q : ℕ) → q ≢ v → NotTarget next q
  pub changed : (u : PlantState) → Went s u c next → between s c l m v ≡ true → IsChanged x (volume_seen u c v).fields
  pub still : (u : PlantState) → Went s u c next → StillBetween s u c l m
