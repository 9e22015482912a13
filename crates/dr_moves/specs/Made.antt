-- What a move asks, what it is to the machine where it is made, and what stays.
use Rattle.std.specs.Prelude.{◌≡◌, ◌≢◌, ◌⊎◌, ◌<◌, ◌≤◌, ◌+◌, ℕ, Bool, true, false, List, length, max, Some, None, is_some, Result, Ok, Err, OnOk}
use Rattle.std.specs.FinSet.{contains, union}
use Rattle.dr_plant.specs.State.{PlantState}
use Rattle.dr_config.specs.Table.{ConfigTable, place_of}
use Rattle.dr_model.specs.declared.event.Event.{Event}
use Rattle.dr_model.specs.Layout.{Tracks, Fields, is_part}
use Rattle.dr_model.specs.Lawful.{Low}
use Rattle.dr_model.specs.Log.{Log}
use Rattle.dr_model.specs.Control.{Volume}
use Rattle.dr_model.specs.Moves.{Move, Land, Overwrite, Keep, Note, Relate, Withdraw, Fetch, Resync, Reverse, Restore, Release, Store, Strike, Suspend, MakeSecondary, MakePrimary, Follow, Resume, TakeOver, FallBack, Yield, Unsync, Mirror, LandBoth, Hold, Seal, Flash, Commit, Revert, Carried, target, fields_left, told, told_in_stop, settled, settled_in_stop}
use Rattle.dr_model.specs.Carry.{turn}
use Rattle.dr_model.specs.ReadStops.{GoesOff}
use Rattle.dr_model.specs.Refusals.{stopped}
use Rattle.dr_volume.specs.Update.{IsAsBefore, IsMoved, OthersStay}
use Rattle.dr_volume.specs.View.{Rest, volume_seen}
use Rattle.dr_moves.specs.Aside.{AsideFits}
use Rattle.dr_logic.specs.Counts.{Counted}
use Rattle.dr_moves.specs.Fit.{SourceFits, RelationsFit}
use Rattle.dr_moves.specs.Here.{world_seen, armed_in, IsAtRest}
use Rattle.dr_moves.specs.declared.acts.Stop.{Stop}

-- Configuration and plant agree, and relationships fit.
pub record IsAt (s : PlantState) (c : ConfigTable) : Type 0 where
  pub rest : IsAtRest s c
  pub fit : RelationsFit s c

-- v is a target
abbrev pub IsTarget : PlantState → ConfigTable → ℕ → Type 0
IsTarget s c v = (volume_seen s c v).fields.related ≡ true

-- v is a target whose flash may be taken back
abbrev pub IsRevertible : PlantState → ConfigTable → ℕ → Type 0
IsRevertible s c v = (volume_seen s c v).fields.revertible ≡ true

-- v is a primary
abbrev pub IsPrimary : PlantState → ConfigTable → ℕ → Type 0
IsPrimary s c v = is_part (volume_seen s c v).fields.primary ≡ true

-- v is a secondary
abbrev pub IsSecondary : PlantState → ConfigTable → ℕ → Type 0
IsSecondary s c v = is_part (volume_seen s c v).fields.secondary ≡ true

-- no track of the first set is one of the second
abbrev pub Apart : Tracks → Tracks → Type 0
Apart own blank = (k : ℕ) → contains own k ≡ true → contains blank k ≡ false

-- another volume, which fits v as its source, and v is the source of none
pub record MayRelate (s : PlantState) (c : ConfigTable) (v from : ℕ) : Type 0 where
  pub source : SourceFits (is_some (place_of c from)) (volume_seen s c v) (volume_seen s c from)
  pub apart : from ≢ v
  pub lone : (u : ℕ) → (volume_seen s c u).fields.related ≡ true → (volume_seen s c u).fields.source ≢ v

-- what a move asks of the plant, by its kind
abbrev pub Asks : PlantState → ConfigTable → Move → Type 0
Asks s c (Land w v t) = t < (volume_seen s c v).tracks
Asks s c (Overwrite w v t) = (t < (volume_seen s c v).tracks) × IsTarget s c v
Asks s c (Keep v t) = (t < (volume_seen s c v).tracks) × IsTarget s c v
Asks s c (Note v t) = (t < (volume_seen s c v).tracks) × IsTarget s c v
Asks s c (Relate v from options) = MayRelate s c v from
Asks s c (Withdraw v) = IsTarget s c v
Asks s c (Fetch v t) = (t < (volume_seen s c v).tracks) × IsTarget s c v
Asks s c (Resync v sequence) = IsTarget s c v
Asks s c (Reverse v left) = IsTarget s c v × Apart (union (volume_seen s c v).fields.source_changes (volume_seen s c v).fields.target_changes) (volume_seen s c v).fields.blank
Asks s c (Restore v t u) = t < (volume_seen s c v).tracks
Asks s c (Release v t) = IsTarget s c v
Asks s c (Store v t u last) = (t < (volume_seen s c v).tracks) × IsSecondary s c v
Asks s c (Strike v t last) = IsPrimary s c v
Asks s c (Suspend v busy) = IsPrimary s c v
Asks s c (MakeSecondary v u kind state) = is_part kind ≡ true
Asks s c (MakePrimary v u kind state full) = is_part kind ≡ true
Asks s c (Follow v state) = IsSecondary s c v
Asks s c (Resume v state) = IsPrimary s c v
Asks s c (TakeOver v) = IsSecondary s c v
Asks s c (FallBack v more state) = IsPrimary s c v × Low (volume_seen s c v).tracks more
Asks s c (Yield v u kind state) = is_part kind ≡ true
Asks s c (Unsync v t) = (t < (volume_seen s c v).tracks) × IsPrimary s c v
Asks s c (Mirror v t u w) = t < (volume_seen s c v).tracks
Asks s c (LandBoth w v t) = (t < (volume_seen s c v).tracks) × IsPrimary s c v
Asks s c (Hold v from n first) = IsPrimary s c v
Asks s c (Seal v u from n) = IsSecondary s c v
Asks s c (Flash v u a from n) = IsTarget s c v
Asks s c (Commit v a from n) = IsRevertible s c v
Asks s c (Revert v a from n) = IsRevertible s c v × Apart (volume_seen s c v).fields.previous_own (volume_seen s c v).fields.blank
Asks s c _ = Unit {0}

-- The move's volume is defined, its server is on, and what its kind asks holds.
pub record May (s : PlantState) (c : ConfigTable) (m : Move) : Type 0 where
  pub defined : is_some (place_of c (target m)) ≡ true
  pub running : s.on (volume_seen s c (target m)).server ≡ true
  pub asks : Asks s c m

-- the most events that a move of that volume tells
abbrev pub room_for : Move → Volume → ℕ
room_for m x = max (length (told m x)) (length (told_in_stop m x) + 1)

-- what a run knows besides, where the move is done
abbrev pub after_done : Move → Rest → Rest
after_done m r = record r { pending = settled m r.pending }

-- where its server stopped in it, and it counts as done or doesn't
abbrev pub after_stop : Move → Bool → Rest → Rest
after_stop m true r = record r { pending = settled_in_stop m r.pending }
after_stop m false r = r

-- The call was the machine's turn of that move; or its server went off at a read, before it.
abbrev pub Turned : PlantState → PlantState → ConfigTable → List Event → List Event → Move → Result (Unit {0}) Stop → Type 0
Turned s u c before after m (Ok x) = (r : Rest) → turn (world_seen s c r before) m ≡ (world_seen u c (after_done m r) after, None)
Turned s u c before after m (Err stop) =
    (r : Rest) → ((stop.counts ≡ false) × GoesOff (armed_in s) (world_seen u c r after) (Some (stopped stop.server.0)) (world_seen s c r before))
    ⊎ (turn (world_seen s c r before) m ≡ (world_seen u c (after_stop m stop.counts r) after, Some stop.server.0))

-- the volume got the fields and the track where the move counts as done, and else is as it was
abbrev pub Came : Bool → PlantState → PlantState → ConfigTable → ℕ → Fields → Carried → Type 0
Came true s u c v f t = IsMoved s u c v f t
Came false s u c v f t = IsAsBefore s u c v

-- whether a move counts as done
abbrev pub counts_as : Result (Unit {0}) Stop → Bool
counts_as (Ok x) = true
counts_as (Err stop) = stop.counts

-- the server that stopped is that one
abbrev pub stopped_at : ℕ → Result (Unit {0}) Stop → Type 0
stopped_at server (Ok x) = Unit {0}
stopped_at server (Err stop) = stop.server.0 ≡ server

-- A move of v that carried that track was made from s to u, and told.
pub record Made (s u : PlantState) (c : ConfigTable) (old new : Log) (m : Move) (v : ℕ) (t : Carried) (result : Result (Unit {0}) Stop) : Type 0 where
  pub turned : Turned s u c old.events new.events m result
  pub came : Came (counts_as result) s u c v (fields_left m (volume_seen s c v)) t
  pub others : OthersStay s u c v
  pub server : stopped_at (volume_seen s c v).server result

-- What stays from s to u: the facts of `IsAt` and what is set aside, no read fuse is armed, the faults are counted, servers are on
-- as before where the call went well, and the journal has its room.
pub record Kept (s u : PlantState) (c : ConfigTable) (old new : Log) (most : ℕ) (counts : Bool) {E : Type 0} (result : Result (Unit {0}) E) : Type 0 where
  pub at : IsAt u c
  pub aside : AsideFits s c → AsideFits u c
  pub unarmed : (q : ℕ) → s.read_fuse q ≡ None → u.read_fuse q ≡ None
  pub faults : Counted counts s.faults u.faults
  pub on : OnOk result (u.on ≡ s.on)
  pub room : old.spare ≤ new.spare + most
  pub spare : length new.events + new.spare ≡ length old.events + old.spare
