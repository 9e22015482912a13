-- What the fields of a volume mean: the machine's fields, and the normal form that reading gives.
use Rattle.std.specs.Prelude.{◌≡◌, ℕ, Bool, ◌&&◌, nat_lt, is_some, Option, None, Some, if◌then◌else◌}
use Rattle.std.specs.FinSet.{empty, intersection}
use Rattle.dr_logic.specs.Bytes.{zeros}
use Rattle.dr_bits.specs.Tracks.{Tracks, first}
use Rattle.dr_model.specs.Layout as layout
use Rattle.dr_model.specs.Layout.{is_part, only_if, entries_of}
use Rattle.dr_model.specs.declared.state.PairState.TheVariants.{CopyPending}
use Rattle.dr_volume.specs.declared.fields.Fields.{Fields}

-- the machine's fields: volumes by their numbers, and nothing of the staged track
abbrev pub plain : Fields → layout.Fields
plain f = record {
  primary = f.primary;
  primary_state = f.primary_state;
  primary_partner = f.primary_partner.0;
  coordination = f.coordination;
  long_busy = f.long_busy;
  recording = f.recording;
  attempt = f.attempt;
  out_of_sync = f.out_of_sync;
  change_recording = f.change_recording;
  secondary = f.secondary;
  secondary_state = f.secondary_state;
  secondary_partner = f.secondary_partner.0;
  seal = f.seal;
  related = f.related;
  source = f.source.0;
  nocopy = f.nocopy;
  persistent = f.persistent;
  recorded = f.recorded;
  inhibited = f.inhibited;
  own = f.own;
  previous_own = f.previous_own;
  source_changes = f.source_changes;
  target_changes = f.target_changes;
  sequence = f.sequence;
  previous_sequence = f.previous_sequence;
  revertible = f.revertible;
  reversing = f.reversing;
  member = f.member;
  session = f.session;
  floor = f.floor;
  flash_hold = f.flash_hold;
  blank = f.blank;
  entries = f.entries;
}

-- the tracks of a set that are below n
abbrev pub cut : ℕ → Tracks → Tracks
cut n s = intersection s (first n)

-- no set has a track from n on
abbrev pub with_cut_sets : ℕ → Fields → Fields
with_cut_sets n f = record f {
  out_of_sync = cut n f.out_of_sync;
  change_recording = cut n f.change_recording;
  own = cut n f.own;
  previous_own = cut n f.previous_own;
  source_changes = cut n f.source_changes;
  target_changes = cut n f.target_changes;
  blank = cut n f.blank;
}

-- no entry names a track from n on, nor one that a lower entry names
abbrev pub with_kept_entries : ℕ → Fields → Fields
with_kept_entries n f = record f { entries = entries_of n f.entries }

-- a volume that is no primary has nothing of one but the attempt
abbrev pub with_primary : Fields → Fields
with_primary f = let there : Bool = is_part f.primary in record f {
  primary_state = only_if there f.primary_state CopyPending;
  primary_partner = record { 0 = only_if there f.primary_partner.0 0 };
  coordination = there && f.coordination;
  long_busy = there && f.long_busy;
  recording = there && f.recording;
  out_of_sync = only_if there f.out_of_sync empty;
  change_recording = only_if there f.change_recording empty;
}

-- a volume that is no secondary has nothing of one
abbrev pub with_secondary : Fields → Fields
with_secondary f = let there : Bool = is_part f.secondary in record f {
  secondary_state = only_if there f.secondary_state CopyPending;
  secondary_partner = record { 0 = only_if there f.secondary_partner.0 0 };
  seal = only_if there f.seal 0;
}

-- a volume that is no target has nothing of one but the floor
abbrev pub with_relation : Fields → Fields
with_relation f = let there : Bool = f.related in record f {
  source = record { 0 = only_if there f.source.0 0 };
  nocopy = there && f.nocopy;
  persistent = there && f.persistent;
  recorded = there && f.recorded;
  inhibited = there && f.inhibited;
  own = only_if there f.own empty;
  previous_own = only_if there f.previous_own empty;
  source_changes = only_if there f.source_changes empty;
  target_changes = only_if there f.target_changes empty;
  sequence = only_if there f.sequence 0;
  previous_sequence = only_if there f.previous_sequence 0;
  revertible = there && f.revertible;
  reversing = there && f.reversing;
  member = there && f.member;
  session = only_if there f.session 0;
}

-- a staged track below n, else none
abbrev pub staged_below : ℕ → Option ℕ → Option ℕ
staged_below n None = None
staged_below n (Some t) = if nat_lt t n then Some t else None

-- no track from n on is staged, and where none is staged there are no bytes of one
abbrev pub with_staged : ℕ → Fields → Fields
with_staged n f = record f {
  staged = staged_below n f.staged;
  staged_bytes = only_if (is_some (staged_below n f.staged)) f.staged_bytes zeros;
}

-- what the fields mean for a volume with n tracks, and nothing else
unfoldable pub normal : ℕ → Fields → Fields
normal n f = with_staged n (with_relation (with_secondary (with_primary (with_kept_entries n (with_cut_sets n f)))))

-- the fields are their own normal form
abbrev pub IsNormal : ℕ → Fields → Type 0
IsNormal n f = normal n f ≡ f
