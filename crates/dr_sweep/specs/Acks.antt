-- What a journal tells of acknowledgements.
use Rattle.std.specs.Prelude.{ℕ, Bool, List, drop, count_by, nat_eq, Option, Some, None, if◌then◌else◌}
use Rattle.std.specs.List.{filter_map, fold, list_any, position}
use Rattle.dr_model.specs.declared.event.Event.{Event}
use Rattle.dr_model.specs.declared.event.Event.TheVariants.{Ack, Issue}

-- a number is one of some
abbrev pub among : List ℕ → ℕ → Bool
among numbers n = list_any (nat_eq n) numbers

-- the write that an event acknowledges
abbrev pub acked_by : Event → Option ℕ
acked_by (Ack w) = Some w
acked_by _ = None

-- the writes that were acknowledged, in order
abbrev pub acked_in : List Event → List ℕ
acked_in events = filter_map acked_by events

-- the write that was acknowledged last: that of an event, or an earlier one
abbrev pub newer : Option ℕ → Event → Option ℕ
newer before (Ack w) = Some w
newer before _ = before

-- the write that was acknowledged last
abbrev pub newest_in : List Event → Option ℕ
newest_in events = fold newer None events

-- the write that an event issues on one of some volumes
abbrev pub issued_by : List ℕ → Event → Option ℕ
issued_by volumes (Issue w volume track offset len bytes) = if among volumes volume then Some w else None
issued_by volumes _ = None

-- the writes that were issued on some volumes
abbrev pub issued_on : List ℕ → List Event → List ℕ
issued_on volumes events = filter_map (issued_by volumes) events

-- of acknowledged writes, how many from a place on were issued on some volumes; none if there is no such place
abbrev pub count_since : List ℕ → List ℕ → Option ℕ → ℕ
count_since issued acked None = 0
count_since issued acked (Some first) = count_by (among issued) (drop first acked)

-- how many writes were acknowledged on some volumes, from the first acknowledgement of a lost write on
abbrev pub age_of : List ℕ → List ℕ → List Event → ℕ
age_of lost volumes events = count_since (issued_on volumes events) (acked_in events) (position (among lost) (acked_in events))

-- the volume on which an event issues one of some writes
abbrev pub volume_by : List ℕ → Event → Option ℕ
volume_by writes (Issue w volume track offset len bytes) = if among writes w then Some volume else None
volume_by writes _ = None

-- the volumes on which a write was acknowledged
abbrev pub written_in : List Event → List ℕ
written_in events = filter_map (volume_by (acked_in events)) events
