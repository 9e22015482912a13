-- The head of a record: what its first block says of a volume.
use Rattle.std.specs.Prelude.{ℕ, Bool, ◌&&◌, nat_eq, List}
use Rattle.dr_model.specs.Layout as layout
use Rattle.dr_volume.specs.declared.head.Head.{Head}
use Rattle.dr_volume.specs.declared.head.Relation.{Relation}

-- the fields of a volume but its sets of tracks
abbrev pub head_of : layout.Fields → Head
head_of f = record {
  primary = f.primary;
  primary_state = f.primary_state;
  primary_partner = record { 0 = f.primary_partner };
  coordination = f.coordination;
  long_busy = f.long_busy;
  recording = f.recording;
  attempt = f.attempt;
  secondary = f.secondary;
  secondary_state = f.secondary_state;
  secondary_partner = record { 0 = f.secondary_partner };
  seal = f.seal;
  related = f.related;
  source = record { 0 = f.source };
  nocopy = f.nocopy;
  persistent = f.persistent;
  recorded = f.recorded;
  inhibited = f.inhibited;
  sequence = f.sequence;
  previous_sequence = f.previous_sequence;
  revertible = f.revertible;
  reversing = f.reversing;
  member = f.member;
  session = f.session;
  floor = f.floor;
  flash_hold = f.flash_hold;
}

-- what a first block says: these fields, of whatever size the volume is and whatever the other blocks say
abbrev pub head_said : List ℕ → Head
head_said block = head_of (layout.fields_of 0 (λ k. block))

-- what a head says of its volume as a target
abbrev pub relation_in : Head → Relation
relation_in h = record { related = h.related; source = h.source; recorded = h.recorded; revertible = h.revertible; reversing = h.reversing }

-- it is a target of v
abbrev pub copies_by : ℕ → Relation → Bool
copies_by v r = r.related && nat_eq r.source.0 v
