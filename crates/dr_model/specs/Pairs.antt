-- Pairs: what the fields of a primary and of a secondary become, and what they say.
use Rattle.std.specs.Prelude.{ℕ, max, Bool, true, false, not, ◌&&◌, ◌||◌, Option, Some, None, nat_eq, if◌then◌else◌}
use Rattle.std.specs.FinSet.{union, insert, remove, contains, empty}
use Rattle.dr_ids.specs.declared.refusal.PairSeen.{PairSeen}
use Rattle.dr_ids.specs.declared.refusal.PairSeen.TheVariants as seen
use Rattle.dr_model.specs.declared.state.Part.{Part}
use Rattle.dr_model.specs.declared.state.Part.TheVariants.{Absent, Metro, Global}
use Rattle.dr_model.specs.declared.state.PairState.{PairState}
use Rattle.dr_model.specs.declared.state.PairState.TheVariants.{CopyPending, FullDuplex, Suspended}
use Rattle.dr_model.specs.Layout.{Tracks, Fields, is_part, names, with_entry, without_entry, free_entries}
use Rattle.dr_model.specs.Relations.{all_tracks, is_bare}

-- the secondary of a primary, and the primary of a secondary
abbrev pub secondary_of : Fields → Option ℕ
secondary_of f = if is_part f.primary then Some f.primary_partner else None

-- the primary of a secondary
abbrev pub primary_of : Fields → Option ℕ
primary_of f = if is_part f.secondary then Some f.secondary_partner else None

-- a volume with these fields is a primary of b; it is the secondary of a
abbrev pub is_primary_of : ℕ → Fields → Bool
is_primary_of b f = is_part f.primary && nat_eq f.primary_partner b

-- a volume with these fields is a secondary of a
abbrev pub is_secondary_of : ℕ → Fields → Bool
is_secondary_of a f = is_part f.secondary && nat_eq f.secondary_partner a

-- it has both parts: it is the secondary of a first site, and the primary of a third
abbrev pub is_cascaded : Fields → Bool
is_cascaded f = is_part f.primary && is_part f.secondary

-- coordination holds back what a cascaded volume receives
abbrev pub holds_back : Fields → Bool
holds_back f = is_cascaded f && f.coordination

-- it has no part in a pair
abbrev pub is_unpaired : Fields → Bool
is_unpaired f = not (is_part f.primary) && not (is_part f.secondary)

-- a part in Metro Mirror
abbrev pub is_metro : Part → Bool
is_metro Metro = true
is_metro _ = false

-- two parts of one kind
abbrev pub is_kind : Part → Part → Bool
is_kind Metro Metro = true
is_kind Global Global = true
is_kind _ _ = false

-- the state is Copy Pending
abbrev pub is_pending : PairState → Bool
is_pending CopyPending = true
is_pending _ = false

-- the state is Suspended
abbrev pub is_suspended : PairState → Bool
is_suspended Suspended = true
is_suspended _ = false

-- the state is Full Duplex
abbrev pub is_full_duplex : PairState → Bool
is_full_duplex FullDuplex = true
is_full_duplex _ = false

-- host writes on a volume wait: coordination holds it, or it is long busy, or it has a flash hold; of these three a volume that is no
-- primary may have the last alone
abbrev pub held : Fields → Bool
held f = f.coordination || f.long_busy || f.flash_hold

-- a volume that is no primary, or a Suspended one
abbrev pub is_quiet : Fields → Bool
is_quiet f = not (is_part f.primary) || is_suspended f.primary_state

-- how a volume's pair is seen: the state of the part that it has
abbrev pub state_seen : PairState → PairSeen
state_seen CopyPending = seen.CopyPending
state_seen FullDuplex = seen.FullDuplex
state_seen Suspended = seen.Suspended

-- how the state of a secondary is seen
abbrev pub target_seen : PairState → PairSeen
target_seen CopyPending = seen.TargetCopyPending
target_seen FullDuplex = seen.TargetFullDuplex
target_seen Suspended = seen.TargetSuspended

-- how a volume's pair is seen: as a primary, else as a secondary, else none
abbrev pub pair_seen : Fields → PairSeen
pair_seen f = if is_part f.primary then state_seen f.primary_state else if is_part f.secondary then target_seen f.secondary_state else seen.None

-- the same as a secondary, else as a primary, where a refusal speaks of its part as a secondary
abbrev pub secondary_seen : Fields → PairSeen
secondary_seen f = if is_part f.secondary then target_seen f.secondary_state else if is_part f.primary then state_seen f.primary_state else seen.None

-- track t of a primary changes without its secondary: it is out of sync from then on
abbrev pub parted_track : Fields → ℕ → Fields
parted_track f t = record f { out_of_sync = if is_part f.primary then insert f.out_of_sync t else f.out_of_sync }

-- a volume's track t has new bytes
abbrev pub altered : Fields → ℕ → Fields
altered f t = record (parted_track f t) { blank = remove f.blank t }

-- a write on track t collides: a Global Copy primary records, and still has to send what the track was as it began to
abbrev pub collides : Fields → ℕ → Bool
collides f t = is_kind Global f.primary && (f.recording && contains f.out_of_sync t)

-- what the track was is to be saved: no entry has it yet
abbrev pub saves_track : Fields → ℕ → Bool
saves_track f t = collides f t && not (names f.entries t)

-- New bytes come to track t of a volume. Of a primary that records, the track has changed since it began to, and what it was is saved by
-- the lowest free entry, if it is still to be sent; of any other primary it is out of sync.
abbrev pub written : Fields → ℕ → Fields
written f t = record f {
  out_of_sync = if is_part f.primary && not f.recording then insert f.out_of_sync t else f.out_of_sync;
  change_recording = if is_part f.primary && f.recording then insert f.change_recording t else f.change_recording;
  blank = remove f.blank t;
  entries = if saves_track f t then with_entry f.entries t else f.entries;
}

-- A void: what changed while it recorded is out of sync too, no entry is used, and it neither records nor is held by coordination. So
-- nothing changes if it does neither.
abbrev pub is_engaged : Fields → Bool
is_engaged f = f.recording || f.coordination

-- it records no more and is held no more by coordination; what it recorded beside is out of sync too
abbrev pub voided : Fields → Fields
voided f = record f {
  coordination = false;
  recording = false;
  out_of_sync = if is_engaged f then union f.out_of_sync f.change_recording else f.out_of_sync;
  change_recording = if is_engaged f then empty else f.change_recording;
  entries = if is_engaged f then free_entries else f.entries;
}

-- a primary is Suspended; a long busy state, where it is set, stays
abbrev pub suspended : Bool → Fields → Fields
suspended busy f = record (voided f) { primary_state = Suspended; long_busy = f.long_busy || busy }

-- a pair is made: the part of the secondary, and that of the primary, of which all tracks are out of sync or none
abbrev pub first_state : Part → Bool → PairState
first_state Metro full = if full then CopyPending else FullDuplex
first_state _ full = CopyPending

-- a secondary of a, not sealed
abbrev pub made_secondary : ℕ → Part → PairState → Fields → Fields
made_secondary a kind state f = record f { secondary = kind; secondary_state = state; secondary_partner = a; seal = 0 }

-- a primary of b with n tracks, all of them out of sync or none; its attempt stays as it was
abbrev pub made_primary : ℕ → ℕ → Part → PairState → Bool → Fields → Fields
made_primary n b kind state full f = record f {
  primary = kind;
  primary_state = state;
  primary_partner = b;
  coordination = false;
  long_busy = false;
  recording = false;
  out_of_sync = if full then all_tracks n else empty;
  change_recording = empty;
  entries = free_entries;
}

-- a part is taken away; of a primary the attempt stays
abbrev pub no_primary : Fields → Fields
no_primary f = record f {
  primary = Absent;
  primary_state = CopyPending;
  primary_partner = 0;
  coordination = false;
  long_busy = false;
  recording = false;
  out_of_sync = empty;
  change_recording = empty;
  entries = free_entries;
}

-- a secondary no more
abbrev pub no_secondary : Fields → Fields
no_secondary f = record f { secondary = Absent; secondary_state = CopyPending; secondary_partner = 0; seal = 0 }

-- the last track of a Metro Mirror pair that is out of sync
abbrev pub is_last : Fields → ℕ → Bool
is_last f t = is_metro f.primary && is_bare (remove f.out_of_sync t)

-- a secondary has stored track t, and its primary strikes the track off; with the last one of a Metro Mirror pair both
-- are Full Duplex
abbrev pub received : Bool → Fields → ℕ → Fields
received last f t = record (written f t) { seal = 0; secondary_state = if last then FullDuplex else f.secondary_state }

-- the secondary has stored track t, and the entry that names it is free; with the last one of a Metro Mirror pair the primary is Full
-- Duplex
abbrev pub struck : Bool → Fields → ℕ → Fields
struck last f t = record f {
  out_of_sync = remove f.out_of_sync t;
  primary_state = if last then FullDuplex else f.primary_state;
  entries = without_entry f.entries t;
}

-- a pair that goes on
abbrev pub next_state : Fields → PairState
next_state f = if is_metro f.primary && is_bare f.out_of_sync then FullDuplex else CopyPending

-- a primary goes on in this state, and is long busy no more
abbrev pub resumed : PairState → Fields → Fields
resumed state f = record f { primary_state = state; long_busy = false }

-- track t of a primary is about to change on both sides; the secondary stores the new bytes; then they are on both sides
abbrev pub unsynced : Fields → ℕ → Fields
unsynced f t = record f { out_of_sync = insert f.out_of_sync t }

-- the secondary has stored what the host write makes of it
abbrev pub mirrored : Fields → ℕ → Fields
mirrored f t = written f t

-- the primary has it too: the track is in sync again
abbrev pub synced : Fields → ℕ → Fields
synced f t = record f { blank = remove f.blank t; out_of_sync = remove f.out_of_sync t }

-- a host write on track t goes to the secondary first: of a Metro Mirror pair that isn't Suspended, where t is in sync
abbrev pub goes_over : Fields → ℕ → Bool
goes_over f t = is_metro f.primary && (not (is_suspended f.primary_state) && not (contains f.out_of_sync t))

-- a primary is long busy no more
abbrev pub thawed : Fields → Fields
thawed f = record f { long_busy = false }

-- a volume gets a flash hold, which no void and no part of a pair takes off; and it has none any more
abbrev pub flash_held : Fields → Fields
flash_held f = record f { flash_hold = true }

abbrev pub flash_freed : Fields → Fields
flash_freed f = record f { flash_hold = false }

-- no host write waits any more: the holds of all three kinds end, that of coordination with a void
abbrev pub lifted : Fields → Fields
lifted f = record f {
  coordination = false;
  long_busy = false;
  flash_hold = false;
  recording = if f.coordination then false else f.recording;
  out_of_sync = if f.coordination then union f.out_of_sync f.change_recording else f.out_of_sync;
  change_recording = if f.coordination then empty else f.change_recording;
  entries = if f.coordination then free_entries else f.entries;
}

-- A stop within a host write left a Metro Mirror pair Full Duplex with a track out of sync.
abbrev pub is_torn : Fields → Bool
is_torn f = is_metro f.primary && (is_full_duplex f.primary_state && not (is_bare f.out_of_sync))

-- as its server starts, such a pair is in Copy Pending, and a volume that records or is held is voided
abbrev pub must_restart : Fields → Bool
must_restart f = is_engaged f || is_torn f

-- a volume goes on: what it recorded is void, and a torn pair is in Copy Pending
abbrev pub restarted : Fields → Fields
restarted f = record (voided f) { primary_state = if is_torn f then CopyPending else f.primary_state }

-- a primary records attempt n
abbrev pub records : ℕ → Fields → Bool
records n f = f.recording && nat_eq f.attempt n

-- It is held for attempt n, and from then on what is out of sync and what changes since stand apart. It is let go again. Its
-- secondary is sealed for n. And the attempt is over: the two sets are one again, and no attempt up to n is made any more.
abbrev pub held_for : ℕ → Fields → Fields
held_for n f = record f { coordination = true; recording = true; attempt = n; change_recording = empty }

-- it is held no more, and goes on recording
abbrev pub freed : Fields → Fields
freed f = record f { coordination = false }

-- a secondary is sealed for attempt n
abbrev pub sealed : ℕ → Fields → Fields
sealed n f = record f { seal = n }

-- attempt n is over: the two sets of tracks are one again
abbrev pub past_attempt : ℕ → Fields → Fields
past_attempt n f = record (voided f) { attempt = max f.attempt n }

-- no attempt up to n is made with a volume, or flashed on it, any more
abbrev pub with_attempt : ℕ → Fields → Fields
with_attempt n f = record f { attempt = n }

-- nothing up to n is flashed on this target any more
abbrev pub with_floor : ℕ → Fields → Fields
with_floor n f = record f { floor = n }

-- a target is a member's no more
abbrev pub no_member : Fields → Fields
no_member f = record f { member = false; session = 0 }

-- a secondary becomes a Suspended primary of its primary, with no track out of sync
abbrev pub taken_over : Fields → Fields
taken_over f = record (no_secondary f) {
  primary = f.secondary;
  primary_state = Suspended;
  primary_partner = f.secondary_partner;
  coordination = false;
  long_busy = false;
  recording = false;
  out_of_sync = empty;
  change_recording = empty;
  entries = free_entries;
}

-- A primary is voided, and these tracks are out of sync too; it has this state. Its long busy state stays.
abbrev pub with_more : Tracks → Fields → Fields
with_more more f = record (voided f) { out_of_sync = union (voided f).out_of_sync more }

-- the state in which a pair goes on as these tracks are out of sync too
abbrev pub state_with : Tracks → Fields → PairState
state_with more f = next_state (with_more more f)

-- the primary of a pair that goes the other way round from now on
abbrev pub fallen_back : Tracks → PairState → Fields → Fields
fallen_back more state f = record (with_more more f) { primary_state = state }

-- and its secondary, which was a primary: its attempt stays
abbrev pub yielded : ℕ → Part → PairState → Fields → Fields
yielded a kind state f = made_secondary a kind state (no_primary f)
