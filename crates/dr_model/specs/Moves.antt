-- The catalogue of moves. A move updates the control record of one volume, done or not done as a whole,
-- and may carry one track to it. Each kind is a constructor, with a row in each of the tables below.
use Rattle.std.specs.Prelude.{ℕ, Bool, true, false, not, List, [], ◌∷◌, ◌++◌, map, filter, Option, Some, None, is_some, nat_eq, if◌then◌else◌}
use Rattle.std.specs.FinSet.{contains}
use Rattle.dr_logic.specs.Bytes.{zeros}
use Rattle.dr_logic.specs.Tables.{at}
use Rattle.dr_model.specs.Histories.{Write}
use Rattle.dr_model.specs.Contents.{with_write}
use Rattle.dr_model.specs.Layout.{Tracks, Entries, Fields, entry_at, entry_of}
use Rattle.dr_model.specs.declared.state.Part.{Part}
use Rattle.dr_model.specs.declared.state.PairState.{PairState}
use Rattle.dr_model.specs.Pairs.{altered, written, held_for, freed, sealed, past_attempt, with_attempt, with_floor, no_member, is_suspended, suspended, made_secondary, made_primary, no_primary, no_secondary, received, struck, resumed, taken_over, unsynced, mirrored, synced, thawed, flash_held, flash_freed, lifted, restarted, fallen_back, yielded}
use Rattle.dr_model.specs.Views.{view}
use Rattle.dr_model.specs.Control.{Pending, Volume, World}
use Rattle.dr_model.specs.Relations.{Choices, rest, in_order, is_bare, closed, fetched, noted, rewritten, made, withdrawn_if, resynced, turned, given_up, restored, flashed, committed, reverted}
use Rattle.dr_model.specs.declared.event.Event.{Event}
use Rattle.dr_model.specs.declared.event.Event.TheVariants.{Ack, Set, Copied, Back, Blanked, Restored, Sent, Mirrored, Suspended, TakenOver, Begin, Cut, Sealed, Left, Flashed, Committed, Reverted, FlashHeld, FlashFreed}

-- the kinds of moves, each with the volumes, tracks, writes and numbers that it is about
pub data Move : Type 0 where
  -- host write w lands on track t of volume v, which is no target; of a primary the track is out of sync from then on
  Land : (w v t : ℕ) → Move
  -- host write w lands on track t of target v
  Overwrite : (w v t : ℕ) → Move
  -- target v keeps its source's track t, which is about to change
  Keep : (v t : ℕ) → Move
  -- target v, which holds track t, notes that its source's track t is about to change
  Note : (v t : ℕ) → Move
  -- v becomes a target of s
  Relate : (v s : ℕ) (choices : Choices) → Move
  -- v is a target no more
  Withdraw : (v : ℕ) → Move
  -- target v takes track t of its source, as the background copy does
  Fetch : (v t : ℕ) → Move
  -- target v shares its changed tracks with its source again
  Resync : (v : ℕ) (sequence : Option ℕ) → Move
  -- target v is to be restored onto its source; it is no longer one of its session, where it was that of the member that u is the
  -- primary of
  Reverse : (v : ℕ) (left : Option ℕ) → Move
  -- source v takes track t back from its target u
  Restore : (v t u : ℕ) → Move
  -- target v gives up track t, which its source has taken back
  Release : (v t : ℕ) → Move
  -- secondary v stores track t of its primary u, maybe the last one of a Metro Mirror pair
  Store : (v t u : ℕ) (last : Bool) → Move
  -- primary v strikes track t off, which its secondary has stored
  Strike : (v t : ℕ) (last : Bool) → Move
  -- primary v is Suspended, and maybe long busy
  Suspend : (v : ℕ) (busy : Bool) → Move
  -- v becomes the secondary of u, and v the primary of u
  MakeSecondary : (v u : ℕ) (kind : Part) (state : PairState) → Move
  MakePrimary : (v u : ℕ) (kind : Part) (state : PairState) (full : Bool) → Move
  -- v is a primary no more, and v is a secondary no more
  DropPrimary : (v : ℕ) → Move
  DropSecondary : (v : ℕ) → Move
  -- secondary v has another state, and primary v goes on
  Follow : (v : ℕ) (state : PairState) → Move
  Resume : (v : ℕ) (state : PairState) → Move
  -- secondary v becomes a Suspended primary of its primary
  TakeOver : (v : ℕ) → Move
  -- v, which is a primary too, leaves its primary: it is a secondary no more
  LeavePrimary : (v : ℕ) → Move
  -- primary v is voided, these tracks are out of sync too, and it has this state
  FallBack : (v : ℕ) (more : Tracks) (state : PairState) → Move
  -- primary v of u, which is a primary of v, becomes its secondary
  Yield : (v u : ℕ) (kind : Part) (state : PairState) → Move
  -- track t of primary v is about to change on both sides: it is out of sync until it has
  Unsync : (v t : ℕ) → Move
  -- secondary v stores what host write w makes of track t of its primary u
  Mirror : (v t u w : ℕ) → Move
  -- host write w, which the secondary of v has stored, lands on track t of v
  LandBoth : (w v t : ℕ) → Move
  -- primary v is long busy no more
  Thaw : (v : ℕ) → Move
  -- v gets a flash hold: host writes on it wait until it ends; and it ends
  FlashHold : (v : ℕ) → Move
  FlashFree : (v : ℕ) → Move
  -- host writes on v wait no more, whatever held them back
  Lift : (v : ℕ) → Move
  -- v goes on after a stop
  Restart : (v : ℕ) → Move
  -- primary v is held for attempt n of session s, maybe as the first of its members
  Hold : (v s n : ℕ) (first : Bool) → Move
  -- primary v, which is held, is let go
  Free : (v : ℕ) → Move
  -- secondary v of u is sealed for attempt n of session s
  Seal : (v u s n : ℕ) → Move
  -- attempt n is over for primary v
  Finish : (v n : ℕ) → Move
  -- no attempt up to n is made with primary v any more, nor flashed on target v
  RaiseAttempt : (v n : ℕ) → Move
  RaiseFloor : (v n : ℕ) → Move
  -- target v is no longer one of session s, whose member u is the primary of
  Leave : (v u s : ℕ) → Move
  -- target v of u is flashed for attempt n of session s, whose member a is the primary of; the flash stays; it is taken back
  Flash : (v u a s n : ℕ) → Move
  Commit : (v a s n : ℕ) → Move
  Revert : (v a s n : ℕ) → Move
  -- nothing is staged on v any more
  Unstage : (v : ℕ) → Move

-- the volume whose record the move updates
abbrev pub target : Move → ℕ
target (Land w v t) = v
target (Overwrite w v t) = v
target (Keep v t) = v
target (Note v t) = v
target (Relate v s choices) = v
target (Withdraw v) = v
target (Fetch v t) = v
target (Resync v sequence) = v
target (Reverse v left) = v
target (Restore v t u) = v
target (Release v t) = v
target (Store v t u last) = v
target (Strike v t last) = v
target (Suspend v busy) = v
target (MakeSecondary v u kind state) = v
target (MakePrimary v u kind state full) = v
target (DropPrimary v) = v
target (DropSecondary v) = v
target (Follow v state) = v
target (Resume v state) = v
target (TakeOver v) = v
target (LeavePrimary v) = v
target (FallBack v more state) = v
target (Yield v u kind state) = v
target (Unsync v t) = v
target (Mirror v t u w) = v
target (LandBoth w v t) = v
target (Thaw v) = v
target (FlashHold v) = v
target (FlashFree v) = v
target (Lift v) = v
target (Restart v) = v
target (Hold v s n first) = v
target (Free v) = v
target (Seal v u s n) = v
target (Finish v n) = v
target (RaiseAttempt v n) = v
target (RaiseFloor v n) = v
target (Leave v u s) = v
target (Flash v u a s n) = v
target (Commit v a s n) = v
target (Revert v a s n) = v
target (Unstage v) = v

-- the fields that the move leaves there
abbrev pub fields_left : Move → Volume → Fields
fields_left (Land w v t) u = written u.fields t
fields_left (Overwrite w v t) u = closed u.tracks (rewritten (fetched u.fields t) t)
fields_left (Keep v t) u = closed u.tracks (noted (fetched u.fields t) t)
fields_left (Note v t) u = noted u.fields t
fields_left (Relate v s choices) u = made s choices u.fields
fields_left (Withdraw v) u = withdrawn_if true u.tracks u.fields
fields_left (Fetch v t) u = closed u.tracks (fetched u.fields t)
fields_left (Resync v sequence) u = resynced sequence u.fields
fields_left (Reverse v left) u = restored u.tracks (turned u.fields)
fields_left (Restore v t from) u = altered u.fields t
fields_left (Release v t) u = restored u.tracks (given_up u.fields t)
fields_left (Store v t from last) u = received last u.fields t
fields_left (Strike v t last) u = struck last u.fields t
fields_left (Suspend v busy) u = suspended busy u.fields
fields_left (MakeSecondary v a kind state) u = made_secondary a kind state u.fields
fields_left (MakePrimary v b kind state full) u = made_primary u.tracks b kind state full u.fields
fields_left (DropPrimary v) u = no_primary u.fields
fields_left (DropSecondary v) u = no_secondary u.fields
fields_left (Follow v state) u = record u.fields { secondary_state = state }
fields_left (Resume v state) u = resumed state u.fields
fields_left (TakeOver v) u = taken_over u.fields
fields_left (LeavePrimary v) u = no_secondary u.fields
fields_left (FallBack v more state) u = fallen_back more state u.fields
fields_left (Yield v a kind state) u = yielded a kind state u.fields
fields_left (Unsync v t) u = unsynced u.fields t
fields_left (Mirror v t from w) u = mirrored u.fields t
fields_left (LandBoth w v t) u = synced u.fields t
fields_left (Thaw v) u = thawed u.fields
fields_left (FlashHold v) u = flash_held u.fields
fields_left (FlashFree v) u = flash_freed u.fields
fields_left (Lift v) u = lifted u.fields
fields_left (Restart v) u = restarted u.fields
fields_left (Hold v s n first) u = held_for n u.fields
fields_left (Free v) u = freed u.fields
fields_left (Seal v a s n) u = sealed n u.fields
fields_left (Finish v n) u = past_attempt n u.fields
fields_left (RaiseAttempt v n) u = with_attempt n u.fields
fields_left (RaiseFloor v n) u = with_floor n u.fields
fields_left (Leave v a s) u = no_member u.fields
fields_left (Flash v from a s n) u = flashed s n u.fields
fields_left (Commit v a s n) u = committed n u.fields
fields_left (Revert v a s n) u = reverted n u.fields
fields_left (Unstage v) u = u.fields

-- by the fields of all volumes before it
abbrev pub next_fields : Move → (ℕ → Volume) → Fields
next_fields m volume = fields_left m (volume (target m))

-- a track with its new bytes, or none
abbrev pub Carried : Type 0
Carried = Option (ℕ × List ℕ)

-- the track that the move carries, with its bytes: those of a track of some volume, maybe with a host write over them
abbrev pub carried : Move → (ℕ → Volume) → (ℕ → ℕ → List ℕ) → (ℕ → Write) → Carried
carried (Land n v t) volume contents write = Some (t, with_write write (contents v t) n)
carried (Overwrite n v t) volume contents write = Some (t, with_write write (view (λ u. (volume u).fields) contents v t) n)
carried (Keep v t) volume contents write = Some (t, contents (volume v).fields.source t)
carried (Fetch v t) volume contents write = Some (t, contents (volume v).fields.source t)
carried (Restore v t u) volume contents write = Some (t, contents u t)
carried (Store v t u last) volume contents write = Some (t, contents u t)
carried (Mirror v t u n) volume contents write = Some (t, with_write write (contents u t) n)
carried (LandBoth n v t) volume contents write = Some (t, with_write write (contents v t) n)
carried _ volume contents write = None

-- a relationship that has ended where its target held these tracks: the others read zeros
abbrev pub told_blank : ℕ → ℕ → Tracks → List Event
told_blank v n own = map (Blanked v) (in_order n (rest n own))

-- a restore onto s that has ended, where it has
abbrev pub told_restored : ℕ → ℕ → ℕ → Tracks → List Event
told_restored v s n own = if is_bare own then told_blank v n own ++ Restored s v ∷ [] else []

-- a target is no longer one of session s, whose member u is the primary of
abbrev pub told_left : Option ℕ → ℕ → List Event
told_left None s = []
told_left (Some u) s = Left s u ∷ []

-- the end of the holds of a volume, told where it had a flash hold
abbrev pub told_freed : ℕ → Bool → List Event
told_freed v held = if held then FlashFreed v ∷ [] else []

-- what the journal is told when the move is done, by the volume as it was
abbrev pub told : Move → Volume → List Event
told (Land n v t) u = Ack n ∷ []
told (Overwrite n v t) u = Ack n ∷ []
told (Keep v t) u = Copied v t ∷ []
told (Relate v s choices) u = Set v s ∷ []
told (Withdraw v) u = told_blank v u.tracks u.fields.own
told (Fetch v t) u = Copied v t ∷ []
told (Resync v sequence) u = Set v u.fields.source ∷ []
told (Reverse v left) u = told_left left u.fields.session ++ told_restored v u.fields.source u.tracks (turned u.fields).own
told (Restore v t from) u = Back v t from ∷ []
told (Release v t) u = told_restored v u.fields.source u.tracks (given_up u.fields t).own
told (Store v t from last) u = Sent from t v ∷ []
told (Suspend v busy) u = if is_suspended u.fields.primary_state then [] else Suspended v ∷ []
told (TakeOver v) u = TakenOver v ∷ []
told (LeavePrimary v) u = TakenOver v ∷ []
told (Mirror v t from n) u = Mirrored n v ∷ []
told (LandBoth n v t) u = Ack n ∷ []
told (FlashHold v) u = FlashHeld v ∷ []
told (FlashFree v) u = FlashFreed v ∷ []
told (Lift v) u = told_freed v u.fields.flash_hold
told (Hold v s n first) u = if first then Begin s n ∷ Cut s n v ∷ [] else Cut s n v ∷ []
told (Seal v a s n) u = Sealed s n a ∷ []
told (Leave v a s) u = Left s a ∷ []
told (Flash v from a s n) u = Flashed s n a from v ∷ []
told (Commit v a s n) u = Committed s n a v ∷ []
told (Revert v a s n) u = Reverted s n a v ∷ []
told _ u = []

-- what it is told where the server stopped in a move that counts as done: a write is acknowledged at the next start
abbrev pub told_in_stop : Move → Volume → List Event
told_in_stop (Land n v t) u = []
told_in_stop (Overwrite n v t) u = []
told_in_stop (LandBoth n v t) u = []
told_in_stop m u = told m u

-- the write that a stop leaves landed, 0 for none
abbrev pub landed : Move → ℕ
landed (Land n v t) = n
landed (Overwrite n v t) = n
landed (LandBoth n v t) = n
landed _ = 0

-- the pending write is that of number n
abbrev pub is_write : ℕ → Pending → Bool
is_write n p = nat_eq p.w n

-- it is another one
abbrev pub is_other : ℕ → Pending → Bool
is_other n p = not (is_write n p)

-- the pending writes with that of number n marked as landed
abbrev pub marked : ℕ → List Pending → List Pending
marked n [] = []
marked n (p ∷ ps) = (if is_write n p then record p { landed = true } else p) ∷ marked n ps

-- the pending writes when the move is done, and where the server stopped in it
abbrev pub settled : Move → List Pending → List Pending
settled (Land n v t) ps = filter (is_other n) ps
settled (Overwrite n v t) ps = filter (is_other n) ps
settled (LandBoth n v t) ps = filter (is_other n) ps
settled _ ps = ps

-- where the server stopped in the move: the write that landed is marked, and stays pending
abbrev pub settled_in_stop : Move → List Pending → List Pending
settled_in_stop (Land n v t) ps = marked n ps
settled_in_stop (Overwrite n v t) ps = marked n ps
settled_in_stop (LandBoth n v t) ps = marked n ps
settled_in_stop _ ps = ps

-- every kind of move but one keeps a staged track in the record, until another takes its stead
abbrev pub keeps_staged : Move → Bool
keeps_staged (Unstage v) = false
keeps_staged m = true

-- what was staged, unless it is blank now
abbrev pub unless_blank : Tracks → Option ℕ → Option ℕ
unless_blank blank None = None
unless_blank blank (Some t) = if contains blank t then None else Some t

-- what is staged after a move: the carried track; else, where it is kept, what was, unless the new blank set holds it
abbrev pub staged_after : Bool → Option ℕ → Tracks → Carried → Option ℕ
staged_after keeps old blank None = if keeps then unless_blank blank old else None
staged_after keeps old blank (Some c) = Some c.0

-- a volume after a move that keeps what is staged, or doesn't: its other slot is chosen, with the new fields and what is staged
abbrev pub moved_keeping : Bool → Volume → Fields → Carried → Volume
moved_keeping keeps v f c = record v { slot = not v.slot; fields = f; staged = staged_after keeps v.staged f.blank c }

-- a volume after a move of any kind but that one
abbrev pub moved : Volume → Fields → Carried → Volume
moved = moved_keeping true

-- track t is the carried one
abbrev pub is_carried : Carried → ℕ → Bool
is_carried None t = false
is_carried (Some c) t = nat_eq t c.0

-- the bytes that it brings
abbrev pub carried_bytes : Carried → List ℕ
carried_bytes None = zeros
carried_bytes (Some c) = c.1

-- a volume's tracks after a move: the carried one as it came, those of the new blank set as zeros
abbrev pub tracks_after : Fields → Carried → (ℕ → List ℕ) → ℕ → List ℕ
tracks_after f c old t = if is_carried c t then carried_bytes c else if contains f.blank t then zeros else old t

-- what is saved of track t, by the entry that names it then: what was, if the entry was used, else the track as it was; zeros if
-- none names it
abbrev pub saved_by : Option ℕ → Entries → (ℕ → List ℕ) → (ℕ → List ℕ) → ℕ → List ℕ
saved_by None old tracks saved t = zeros
saved_by (Some k) old tracks saved t = if is_some (entry_at old k) then saved t else tracks t

-- what is saved of a volume's tracks where its entries are followed by these, by the tracks and what was saved of them before
abbrev pub saved_after : Entries → Entries → (ℕ → List ℕ) → (ℕ → List ℕ) → ℕ → List ℕ
saved_after old next tracks saved t = saved_by (entry_of next t) old tracks saved t

-- a world after a volume got these fields and this track, and kept what was staged, or didn't
abbrev pub updated_keeping : Bool → World → ℕ → Fields → Carried → World
updated_keeping keeps w v f c = record w {
  control = record w.control { volume = at w.control.volume v (moved_keeping keeps (w.control.volume v) f c) };
  contents = at w.contents v (tracks_after f c (w.contents v));
  saved = at w.saved v (saved_after (w.control.volume v).fields.entries f.entries (w.contents v) (w.saved v));
}

-- a world after a move of any kind but that one
abbrev pub updated : World → ℕ → Fields → Carried → World
updated = updated_keeping true
