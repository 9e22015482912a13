-- FlashCopy relationships: what the fields of a target become.
use Rattle.std.specs.Prelude.{ℕ, max, Bool, true, false, not, ◌&&◌, ◌||◌, List, filter, Option, slice_get, unwrap_or, nat_eq, if◌then◌else◌}
use Rattle.std.specs.List.{range_with_len}
use Rattle.std.specs.FinSet.{union, contains, insert, remove, difference, empty, from_list, is_subset, len}
use Rattle.dr_model.specs.Layout.{Tracks, Fields}

-- how a relationship is made
pub record Choices : Type 0 where
  pub nocopy : Bool
  pub persistent : Bool
  pub recorded : Bool
  pub inhibited : Bool
  pub sequence : ℕ

-- the tracks of a volume that has n
unfoldable pub all_tracks : ℕ → Tracks
all_tracks n = from_list (range_with_len 0 n)

-- a target holds each of its tracks
unfoldable pub is_whole : ℕ → Tracks → Bool
is_whole n own = is_subset (all_tracks n) own

-- the tracks that a target doesn't hold
unfoldable pub rest : ℕ → Tracks → Tracks
rest n own = difference (all_tracks n) own

-- the tracks of a set that are below n, in order, and the lowest of them
unfoldable pub in_order : ℕ → Tracks → List ℕ
in_order n s = filter (contains s) (range_with_len 0 n)

-- the lowest track of a set
abbrev pub lowest : ℕ → Tracks → Option ℕ
lowest n s = slice_get (in_order n s) 0

-- a set without tracks
abbrev pub is_bare : Tracks → Bool
is_bare s = nat_eq (len s) 0

-- a volume that is a target no more keeps of the relationship the floor alone
abbrev pub parted_if : Bool → Fields → Fields
parted_if ends f = record f {
  related = if ends then false else f.related;
  source = if ends then 0 else f.source;
  nocopy = if ends then false else f.nocopy;
  persistent = if ends then false else f.persistent;
  recorded = if ends then false else f.recorded;
  inhibited = if ends then false else f.inhibited;
  own = if ends then empty else f.own;
  previous_own = if ends then empty else f.previous_own;
  source_changes = if ends then empty else f.source_changes;
  target_changes = if ends then empty else f.target_changes;
  sequence = if ends then 0 else f.sequence;
  previous_sequence = if ends then 0 else f.previous_sequence;
  revertible = if ends then false else f.revertible;
  reversing = if ends then false else f.reversing;
  member = if ends then false else f.member;
  session = if ends then 0 else f.session;
}

-- a relationship that isn't persistent ends where the target holds all tracks
abbrev pub closed : ℕ → Fields → Fields
closed n f = parted_if (is_whole n f.own && not f.persistent) f

-- the target holds track t
abbrev pub fetched : Fields → ℕ → Fields
fetched f t = record f { own = insert f.own t; blank = remove f.blank t }

-- track t of the source changes, and track t of the target, where changes are recorded
abbrev pub noted : Fields → ℕ → Fields
noted f t = record f { source_changes = if f.recorded then insert f.source_changes t else f.source_changes }

-- where changes are recorded, a track of the target has changed
abbrev pub rewritten : Fields → ℕ → Fields
rewritten f t = record f { target_changes = if f.recorded then insert f.target_changes t else f.target_changes }

-- a relationship as it is made: the target holds no track; one whose changes are recorded is persistent
abbrev pub made : ℕ → Choices → Fields → Fields
made s c f = record f {
  related = true;
  source = s;
  nocopy = c.nocopy;
  persistent = c.persistent || c.recorded;
  recorded = c.recorded;
  inhibited = c.inhibited;
  own = empty;
  previous_own = empty;
  source_changes = empty;
  target_changes = empty;
  sequence = c.sequence;
  previous_sequence = 0;
  revertible = false;
  reversing = false;
  member = false;
  session = 0;
}

-- a relationship that ends: the tracks that the target doesn't hold read zeros
abbrev pub withdrawn_if : Bool → ℕ → Fields → Fields
withdrawn_if ends n f = record (parted_if ends f) { blank = if ends then rest n f.own else f.blank }

-- the target shares its changed tracks with its source again
abbrev pub resynced : Option ℕ → Fields → Fields
resynced sequence f = record f {
  own = difference (difference f.own f.source_changes) f.target_changes;
  source_changes = empty;
  target_changes = empty;
  sequence = unwrap_or sequence f.sequence;
}

-- the target is to be restored onto its source: what it holds from then on is what comes back
abbrev pub turned : Fields → Fields
turned f = record f {
  own = union f.source_changes f.target_changes;
  source_changes = empty;
  target_changes = empty;
  reversing = true;
  member = false;
  session = 0;
}

-- the target has given track t back
abbrev pub given_up : Fields → ℕ → Fields
given_up f t = record f { own = remove f.own t }

-- a restore that has no track left to give back ends
abbrev pub restored : ℕ → Fields → Fields
restored n f = withdrawn_if (is_bare f.own) n f

-- The target is flashed for attempt n of session s: it shows its source as that is now, and what it held is kept aside.
abbrev pub flashed : ℕ → ℕ → Fields → Fields
flashed s n f = record f {
  own = difference (difference f.own f.source_changes) f.target_changes;
  previous_own = f.own;
  sequence = n;
  previous_sequence = f.sequence;
  revertible = true;
  session = s;
}

-- the flash of attempt n stays, and the target is a member's from then on
abbrev pub committed : ℕ → Fields → Fields
committed n f = record f {
  previous_own = empty;
  source_changes = empty;
  target_changes = empty;
  previous_sequence = 0;
  revertible = false;
  member = true;
  floor = n;
}

-- it is taken back: the target shows what it showed before
abbrev pub reverted : ℕ → Fields → Fields
reverted n f = record f {
  own = f.previous_own;
  previous_own = empty;
  sequence = f.previous_sequence;
  previous_sequence = 0;
  revertible = false;
  session = if f.member then f.session else 0;
  floor = max f.floor n;
}
