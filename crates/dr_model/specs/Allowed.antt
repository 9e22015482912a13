-- What each kind of move asks of the table where it comes, and of the writes that wait.
use Rattle.std.specs.Prelude.{◌≡◌, ◌≢◌, ◌<◌, ◌≤◌, ◌+◌, ℕ, Bool, true, false, [], ◌∷◌, length, map, filter, Some, None}
use Rattle.std.specs.FinSet.{contains}
use Rattle.dr_model.specs.Limits.{most_targets}
use Rattle.dr_model.specs.Histories.{Write, histories}
use Rattle.dr_model.specs.Contents.{with_write}
use Rattle.dr_model.specs.Control.{Pending, Control, World}
use Rattle.dr_model.specs.declared.state.Part.{Part}
use Rattle.dr_model.specs.declared.state.Part.TheVariants.{Global}
use Rattle.dr_model.specs.Layout.{Tracks, is_part}
use Rattle.dr_model.specs.Moves.{Move, Land, Overwrite, Keep, Note, Relate, Withdraw, Fetch, Resync, Reverse, Restore, Release, Store, Strike, Suspend, MakeSecondary, MakePrimary, DropPrimary, DropSecondary, Follow, Resume, TakeOver, LeavePrimary, FallBack, Yield, Unsync, Mirror, LandBoth, Thaw, FlashHold, FlashFree, Lift, Restart, Hold, Free, Seal, Finish, RaiseAttempt, RaiseFloor, Leave, Flash, Commit, Revert, Unstage, target, is_write}
use Rattle.dr_model.specs.Pairs.{is_metro, is_kind, is_pending, is_suspended, records}
use Rattle.dr_model.specs.Entries.{targets_of}
use Rattle.dr_model.specs.Table.{Table, table}
use Rattle.dr_model.specs.Groups.{OpensAttempt}
use Rattle.dr_model.specs.Attempts.{InAttempt}
use Rattle.dr_model.specs.Laws.{Cascaded, source, its_primary, its_secondary, fields, servers, unsent, AllPending}

-- each target of v holds track t, but one that is restored onto v, which holds it too where it gives it back; and it
-- notes that the track changes, where that is recorded; none is revertible
pub record Kept (T : Table) (v t : ℕ) : Type 0 where
  pub own : (u : ℕ) → source (T u) ≡ Some v → contains (fields T u).own t ≡ true
  pub noted : (u : ℕ) → source (T u) ≡ Some v → (fields T u).recorded ≡ true → (fields T u).reversing ≡ false → contains (fields T u).source_changes t ≡ true
  pub settled : (u : ℕ) → source (T u) ≡ Some v → (fields T u).revertible ≡ false

-- Track t comes to volume v, from the host or from the primary of v: each target of v keeps its own, coordination doesn't hold v, and if v records, the
-- track has been sent.
pub record MayReceive (T : Table) (v t : ℕ) : Type 0 where
  pub low : t < (T v).volume.tracks
  pub kept : Kept T v t
  pub free : (fields T v).coordination ≡ false
  pub sent : (fields T v).recording ≡ true → contains (fields T v).out_of_sync t ≡ false

-- a host write lands on a track of a volume that is no target and no secondary, and has no flash hold
pub record MayLand (T : Table) (v t : ℕ) : Type 0 where
  pub receives : MayReceive T v t
  pub defined : (T v).defined ≡ true
  pub plain : source (T v) ≡ None
  pub first : is_part (fields T v).secondary ≡ false
  pub let_go : (fields T v).flash_hold ≡ false

-- or of a target that is neither revertible nor restored onto its source, and has no flash hold
pub record MayOverwrite (T : Table) (v t : ℕ) : Type 0 where
  pub low : t < (T v).volume.tracks
  pub from : ℕ
  pub related : source (T v) ≡ Some from
  pub forward : (fields T v).reversing ≡ false
  pub settled : (fields T v).revertible ≡ false
  pub let_go : (fields T v).flash_hold ≡ false

-- such a target takes a track that it doesn't hold
pub record MayKeep (T : Table) (v t : ℕ) : Type 0 where
  pub low : t < (T v).volume.tracks
  pub from : ℕ
  pub related : source (T v) ≡ Some from
  pub new : contains (fields T v).own t ≡ false
  pub forward : (fields T v).reversing ≡ false
  pub settled : (fields T v).revertible ≡ false

-- or notes a change of one that it holds
pub record MayNote (T : Table) (v t : ℕ) : Type 0 where
  pub low : t < (T v).volume.tracks
  pub from : ℕ
  pub related : source (T v) ≡ Some from
  pub held : contains (fields T v).own t ≡ true
  pub forward : (fields T v).reversing ≡ false
  pub settled : (fields T v).revertible ≡ false

-- two volumes, which stand in no relationship as targets, and the new target not as a source and in no pair
pub record MayRelate (T : Table) (v s : ℕ) : Type 0 where
  pub apart : s ≢ v
  pub from_defined : (T s).defined ≡ true
  pub defined : (T v).defined ≡ true
  pub tracks : (T v).volume.tracks ≡ (T s).volume.tracks
  pub server : (T v).volume.server ≡ (T s).volume.server
  pub from_plain : source (T s) ≡ None
  pub plain : source (T v) ≡ None
  pub no_source : (u : ℕ) → source (T u) ≡ Some v → ⊥
  pub no_primary : is_part (fields T v).primary ≡ false
  pub no_secondary : is_part (fields T v).secondary ≡ false

-- v is a target that is neither restored nor revertible
pub record MayWithdraw (T : Table) (v : ℕ) : Type 0 where
  pub from : ℕ
  pub related : source (T v) ≡ Some from
  pub forward : (fields T v).reversing ≡ false
  pub settled : (fields T v).revertible ≡ false

-- a target whose changes are recorded
pub record MayResync (T : Table) (v : ℕ) : Type 0 where
  pub from : ℕ
  pub related : source (T v) ≡ Some from
  pub recorded : (fields T v).recorded ≡ true
  pub forward : (fields T v).reversing ≡ false
  pub settled : (fields T v).revertible ≡ false

-- and no other target of its source is restored onto it or revertible, and the source is no secondary
pub record MayReverse (T : Table) (v : ℕ) : Type 0 where
  pub resync : MayResync T v
  pub settled : (u : ℕ) → source (T u) ≡ Some resync.from → (fields T u).revertible ≡ true → ⊥
  pub free : is_part (fields T resync.from).secondary ≡ false
  pub alone : (u : ℕ) → source (T u) ≡ Some resync.from → (fields T u).reversing ≡ true → ⊥

-- v takes back track t, which its target u holds, and so does each other
pub record MayRestore (T : Table) (v t u : ℕ) : Type 0 where
  pub low : t < (T v).volume.tracks
  pub related : source (T u) ≡ Some v
  pub reversing : (fields T u).reversing ≡ true
  pub holds : contains (fields T u).own t ≡ true
  pub kept : Kept T v t
  pub idle : (fields T v).recording ≡ false

-- v's source holds what v gives up
pub record MayRelease (T : Table) (v t : ℕ) : Type 0 where
  pub from : ℕ
  pub related : source (T v) ≡ Some from
  pub reversing : (fields T v).reversing ≡ true
  pub holds : contains (fields T v).own t ≡ true
  pub equal : (T from).bytes t ≡ (T v).bytes t

-- secondary v stores a track of its primary u, which u has out of sync
pub record MayStore (T : Table) (v t u : ℕ) : Type 0 where
  pub receives : MayReceive T v t
  pub sends : its_secondary (T u) ≡ Some v
  pub takes : its_primary (T v) ≡ Some u
  pub out : contains (fields T u).out_of_sync t ≡ true

-- the secondary of v has what v strikes off; the last track is one of a Metro Mirror pair
pub record MayStrike (T : Table) (v t : ℕ) (last : Bool) : Type 0 where
  pub metro : last ≡ true → is_metro (fields T v).primary ≡ true
  pub to : ℕ
  pub sends : its_secondary (T v) ≡ Some to
  pub equal : (T to).bytes t ≡ (T v).bytes t

-- v becomes the secondary of u: two volumes of one size on two servers, u no primary, and a secondary only if it is cascaded from then on,
-- v no primary and no target, and no target of v is restored onto it or revertible
pub record MayMakeSecondary (T : Table) (v u : ℕ) (kind : Part) : Type 0 where
  pub is_kind : is_part kind ≡ true
  pub apart : (T v).volume.server ≡ (T u).volume.server → ⊥
  pub tracks : (T v).volume.tracks ≡ (T u).volume.tracks
  pub from_defined : (T u).defined ≡ true
  pub from_first : is_part (fields T u).primary ≡ false
  pub from_free : is_part (fields T u).secondary ≡ true → Cascaded kind v (fields T u).secondary (fields T u).secondary_partner
  pub plain : (fields T v).related ≡ false
  pub first : is_part (fields T v).primary ≡ false
  pub still : (x : ℕ) → source (T x) ≡ Some v → (fields T x).reversing ≡ true → ⊥
  pub settled : (x : ℕ) → source (T x) ≡ Some v → (fields T x).revertible ≡ false

-- v becomes the primary of its secondary u, which has the same bytes, where not all tracks are out of sync; if it is a secondary, it is
-- cascaded from then on
pub record MayMakePrimary (T : Table) (v u : ℕ) (kind : Part) (full : Bool) : Type 0 where
  pub is_kind : is_part kind ≡ true
  pub plain : (fields T v).related ≡ false
  pub second : is_part (fields T v).secondary ≡ true → Cascaded kind u (fields T v).secondary (fields T v).secondary_partner
  pub defined : (T u).defined ≡ true
  pub takes : its_primary (T u) ≡ Some v
  pub alike : (fields T u).secondary ≡ kind
  pub equal : full ≡ false → (t : ℕ) → t < (T v).volume.tracks → (T v).bytes t ≡ (T u).bytes t

-- track t of a Metro Mirror primary v is about to change on both sides
pub record MayUnsync (T : Table) (v t : ℕ) : Type 0 where
  pub low : t < (T v).volume.tracks
  pub metro : is_metro (fields T v).primary ≡ true

-- secondary v stores a host write on a track of its Metro Mirror primary u, which u has out of sync
pub record MayMirror (T : Table) (v t u : ℕ) : Type 0 where
  pub receives : MayReceive T v t
  pub metro : is_metro (fields T u).primary ≡ true
  pub sends : its_secondary (T u) ≡ Some v
  pub takes : its_primary (T v) ≡ Some u
  pub out : contains (fields T u).out_of_sync t ≡ true

-- a host write lands on a track of a Metro Mirror primary v whose secondary has stored it
pub record MayLandBoth (write : ℕ → Write) (T : Table) (n v t : ℕ) : Type 0 where
  pub land : MayLand T v t
  pub metro : is_metro (fields T v).primary ≡ true
  pub to : ℕ
  pub sends : its_secondary (T v) ≡ Some to
  pub equal : (T to).bytes t ≡ with_write write ((T v).bytes t) n

-- v is a primary
abbrev pub IsPrimary : Table → ℕ → Type 0
IsPrimary T v = is_part (fields T v).primary ≡ true

-- v is a secondary
abbrev pub IsSecondary : Table → ℕ → Type 0
IsSecondary T v = is_part (fields T v).secondary ≡ true

-- a Suspended primary goes on
pub record MayResume (T : Table) (v : ℕ) : Type 0 where
  pub first : is_part (fields T v).primary ≡ true
  pub waits : is_suspended (fields T v).primary_state ≡ true

-- a secondary that is no primary is taken over
pub record MayTakeOver (T : Table) (v : ℕ) : Type 0 where
  pub second : is_part (fields T v).secondary ≡ true
  pub free : is_part (fields T v).primary ≡ false

-- a volume with both parts leaves its primary
pub record MayLeavePrimary (T : Table) (v : ℕ) : Type 0 where
  pub first : is_part (fields T v).primary ≡ true
  pub second : is_part (fields T v).secondary ≡ true

-- a primary is voided, and more of its own tracks are out of sync
pub record MayFallBack (T : Table) (v : ℕ) (more : Tracks) : Type 0 where
  pub first : is_part (fields T v).primary ≡ true
  pub low : (t : ℕ) → contains more t ≡ true → t < (T v).volume.tracks

-- Each of two volumes is a primary of the other, and neither is a secondary. Then v becomes the secondary of u, which doesn't record,
-- is of that kind, and has all out of sync that v hasn't sent; no target of v is restored onto it or revertible.
pub record MayYield (T : Table) (v u : ℕ) (kind : Part) : Type 0 where
  pub sends : its_secondary (T v) ≡ Some u
  pub back : its_secondary (T u) ≡ Some v
  pub free : is_part (fields T v).secondary ≡ false
  pub from_free : is_part (fields T u).secondary ≡ false
  pub alike : (fields T u).primary ≡ kind
  pub idle : (fields T u).recording ≡ false
  pub out : (t : ℕ) → unsent (T v) t ≡ true → contains (fields T u).out_of_sync t ≡ true
  pub still : (x : ℕ) → source (T x) ≡ Some v → (fields T x).reversing ≡ true → ⊥
  pub settled : (x : ℕ) → source (T x) ≡ Some v → (fields T x).revertible ≡ false

-- a Global Copy primary in Copy Pending, which doesn't record, is held for a newer attempt than all of its own; its secondary isn't
-- sealed for that, and has no revertible target
pub record MayHold (T : Table) (v n : ℕ) : Type 0 where
  pub global : is_kind Global (fields T v).primary ≡ true
  pub pending : is_pending (fields T v).primary_state ≡ true
  pub idle : (fields T v).recording ≡ false
  pub newer : (fields T v).attempt < n
  pub unsealed : (u : ℕ) → its_secondary (T v) ≡ Some u → its_primary (T u) ≡ Some v → (fields T u).seal ≢ n
  pub unflashed : (u x : ℕ) → its_secondary (T v) ≡ Some u → its_primary (T u) ≡ Some v → source (T x) ≡ Some u → (fields T x).revertible ≡ false

-- secondary v is sealed for an attempt that its primary u records, which has nothing left to send
pub record MaySeal (T : Table) (v u n : ℕ) : Type 0 where
  pub sends : its_secondary (T u) ≡ Some v
  pub takes : its_primary (T v) ≡ Some u
  pub records : records n (fields T u) ≡ true
  pub drained : (t : ℕ) → contains (fields T u).out_of_sync t ≡ false

-- a target of u whose changes are recorded is flashed for an attempt for which u is sealed, and which is newer than all of its own; u's
-- primary a records that one, or none
pub record MayFlash (T : Table) (v u a n : ℕ) : Type 0 where
  pub resync : MayResync T v
  pub from : resync.from ≡ u
  pub takes : its_primary (T u) ≡ Some a
  pub sealed : (fields T u).seal ≡ n
  pub newer : (fields T v).floor < n
  pub last : (fields T a).recording ≡ true → (fields T a).attempt ≡ n

-- a target that is revertible from attempt n
pub record MayTurn (T : Table) (v n : ℕ) : Type 0 where
  pub from : ℕ
  pub related : source (T v) ≡ Some from
  pub revertible : (fields T v).revertible ≡ true
  pub number : (fields T v).sequence ≡ n

-- a volume that doesn't record has no attempts up to n any more, which is not lower than its own
pub record MayRaise (T : Table) (v n : ℕ) : Type 0 where
  pub idle : (fields T v).recording ≡ false
  pub higher : (fields T v).attempt ≤ n

-- what each kind of move asks of the table
abbrev pub Allowed : (ℕ → Write) → Table → Move → Type 0
Allowed write T (Land n v t) = MayLand T v t
Allowed write T (Overwrite n v t) = MayOverwrite T v t
Allowed write T (Keep v t) = MayKeep T v t
Allowed write T (Note v t) = MayNote T v t
Allowed write T (Relate v s choices) = MayRelate T v s
Allowed write T (Withdraw v) = MayWithdraw T v
Allowed write T (Fetch v t) = MayKeep T v t
Allowed write T (Resync v sequence) = MayResync T v
Allowed write T (Reverse v left) = MayReverse T v
Allowed write T (Restore v t u) = MayRestore T v t u
Allowed write T (Release v t) = MayRelease T v t
Allowed write T (Store v t u last) = MayStore T v t u
Allowed write T (Strike v t last) = MayStrike T v t last
Allowed write T (Suspend v busy) = IsPrimary T v
Allowed write T (MakeSecondary v u kind state) = MayMakeSecondary T v u kind
Allowed write T (MakePrimary v u kind state full) = MayMakePrimary T v u kind full
Allowed write T (DropPrimary v) = IsPrimary T v
Allowed write T (DropSecondary v) = IsSecondary T v
Allowed write T (Follow v state) = IsSecondary T v
Allowed write T (Resume v state) = MayResume T v
Allowed write T (TakeOver v) = MayTakeOver T v
Allowed write T (LeavePrimary v) = MayLeavePrimary T v
Allowed write T (FallBack v more state) = MayFallBack T v more
Allowed write T (Yield v u kind state) = MayYield T v u kind
Allowed write T (Unsync v t) = MayUnsync T v t
Allowed write T (Mirror v t u n) = MayMirror T v t u
Allowed write T (LandBoth n v t) = MayLandBoth write T n v t
Allowed write T (Thaw v) = Unit {0}
Allowed write T (FlashHold v) = Unit {0}
Allowed write T (FlashFree v) = Unit {0}
Allowed write T (Lift v) = Unit {0}
Allowed write T (Restart v) = Unit {0}
Allowed write T (Hold v s n first) = MayHold T v n
Allowed write T (Free v) = Unit {0}
Allowed write T (Seal v u s n) = MaySeal T v u n
Allowed write T (Finish v n) = Unit {0}
Allowed write T (RaiseAttempt v n) = MayRaise T v n
Allowed write T (RaiseFloor v n) = Unit {0}
Allowed write T (Leave v u s) = Unit {0}
Allowed write T (Flash v u a s n) = MayFlash T v u a n
Allowed write T (Commit v a s n) = MayTurn T v n
Allowed write T (Revert v a s n) = MayTurn T v n
Allowed write T (Unstage v) = Unit {0}

-- no write has landed on a volume of v's server
abbrev pub Idle : World → ℕ → Type 0
Idle w v = AllPending (λ p. p.landed ≡ true → servers w.control p.volume ≡ servers w.control v → ⊥) w.control.pending

-- a pending write is one for track t of volume v, and hasn't landed
pub record Coming (v t : ℕ) (p : Pending) : Type 0 where
  pub volume : p.volume ≡ v
  pub track : p.track ≡ t
  pub landed : p.landed ≡ false

-- pending write n is one for track t of volume v that hasn't landed
pub record MayAck (w : World) (n v t : ℕ) : Type 0 where
  pub number : n < w.control.issued + 1
  pub positive : 0 < n
  pub volume : ((histories w.events).write n).volume ≡ v
  pub track : ((histories w.events).write n).track ≡ t
  pub coming : AllPending (Coming v t) (filter (is_write n) w.control.pending)
  pub one : map (λ (p : Pending). p.w) (filter (is_write n) w.control.pending) ≡ n ∷ []
  pub idle : Idle w v

-- host write n is one for track t of volume u, and no write has landed on a volume of the servers of u and v
pub record MayTell (w : World) (n v t u : ℕ) : Type 0 where
  pub number : n < w.control.issued + 1
  pub volume : ((histories w.events).write n).volume ≡ u
  pub track : ((histories w.events).write n).track ≡ t
  pub idle : Idle w v
  pub from_idle : Idle w u

-- What a move asks of the pending writes. As its server starts, a volume goes on while a landed write still waits.
abbrev pub Ready : World → Move → Type 0
Ready w (Land n v t) = MayAck w n v t
Ready w (Overwrite n v t) = MayAck w n v t
Ready w (LandBoth n v t) = MayAck w n v t
Ready w (Store v t u last) = Idle w v × Idle w u
Ready w (Mirror v t u n) = MayTell w n v t u
Ready w (Restart v) = Unit {0}
Ready w m = Idle w (target m)

-- the source of a new target has a place for it
abbrev pub Fits : Control → Move → Type 0
Fits k (Relate v s choices) = length (targets_of k s) < most_targets
Fits k m = Unit {0}

-- the server of a volume is on
abbrev pub Runs : World → ℕ → Type 0
Runs w v = w.control.on (w.control.volume v).server ≡ true

-- a move may come in a world
pub record May (w : World) (m : Move) : Type 0 where
  pub runs : Runs w (target m)
  pub allowed : Allowed (histories w.events).write (table w) m
  pub fits : Fits w.control m
  pub ready : Ready w m
  pub group : InAttempt w.control m

-- the first hold of an attempt may come in a world
pub record MayOpen (w : World) (v s n : ℕ) : Type 0 where
  pub runs : Runs w v
  pub allowed : MayHold (table w) v n
  pub ready : Idle w v
  pub opens : OpensAttempt w.control v s n
