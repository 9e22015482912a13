-- What is asked of the lists before an event, where the list of a track after it is wanted.
use Rattle.std.specs.Prelude.{ℕ, List, [], ◌∷◌, ◌++◌, ◌==◌, take, map, Bool, true, false, Option, None, Some, if◌then◌else◌, slice_index_or}
use Rattle.std.specs.List.{range_with_len}
use Rattle.dr_model.specs.declared.event.Event.{Event}
use Rattle.dr_model.specs.declared.event.Event.TheVariants.{Volume, Issue, Ack, Mirrored, Sent, Flashed, Committed, Reverted, Set, Back, Blanked}
use Rattle.dr_model.specs.declared.image.Question.{Question}
use Rattle.dr_model.specs.declared.image.Earlier.{Earlier}
use Rattle.dr_model.specs.declared.image.Issued.{Issued}
use Rattle.dr_model.specs.Histories.{Histories, Write}
use Rattle.dr_model.specs.Contents.{with_write}

-- the list of a track, the present one or the one kept aside
abbrev pub asked : Histories → Question → List ℕ
asked h q = if q.aside then h.aside q.volume q.track else h.now q.volume q.track

-- the list that a question asks for; an empty one where nothing is asked
abbrev pub asked_if : Histories → Option Question → List ℕ
asked_if h None = []
asked_if h (Some q) = asked h q

-- the list before, and the write that the event adds
abbrev pub with_last : List ℕ → Option ℕ → List ℕ
with_last ws None = ws
with_last ws (Some w) = ws ++ w ∷ []

-- the present lists of volume v are asked for
abbrev pub asks_volume : Question → ℕ → Bool
asks_volume q v = if q.aside then false else q.volume == v

-- the present list of track t of volume v is asked for
abbrev pub asks_track : Question → ℕ → ℕ → Bool
asks_track q v t = if q.aside then false else (if q.volume == v then q.track == t else false)

-- the lists that volume v keeps aside are asked for
abbrev pub asks_aside : Question → ℕ → Bool
asks_aside q v = if q.aside then q.volume == v else false

-- the question for a present list, and the one for a list kept aside
abbrev pub present : ℕ → ℕ → Question
present v t = record { volume = v; track = t; aside = false }

-- the list that is kept aside of a track
abbrev pub kept_aside : ℕ → ℕ → Question
kept_aside v t = record { volume = v; track = t; aside = true }

-- the event changes nothing of what is asked; nothing is asked before it; another list is asked for before it
abbrev pub goes_on : Question → Earlier
goes_on q = record { question = Some q; write = None }

-- nothing is to be asked any more
abbrev pub ends : Earlier
ends = record { question = None; write = None }

-- a write of track t of volume v is added to a list of the track, and the result is the list of track t of volume at
abbrev pub stored : Question → ℕ → ℕ → ℕ → ℕ → Earlier
stored q w v t at = if asks_track q at t then record { question = Some (present v t); write = Some w } else goes_on q

-- what is asked before an event, after which a question is asked
abbrev pub earlier_of : Histories → Question → Event → Earlier
earlier_of h q (Volume v server tracks) = if asks_volume q v then ends else goes_on q
earlier_of h q (Ack w) = stored q w (h.write w).volume (h.write w).track (h.write w).volume
earlier_of h q (Mirrored w v) = stored q w (h.write w).volume (h.write w).track v
earlier_of h q (Sent v t to) = if asks_track q to t then goes_on (present v t) else goes_on q
earlier_of h q (Flashed session n a b c) = if asks_volume q c then goes_on (present b q.track) else (if asks_aside q c then goes_on (present c q.track) else goes_on q)
earlier_of h q (Committed session n a c) = if asks_aside q c then ends else goes_on q
earlier_of h q (Reverted session n a c) = if asks_volume q c then goes_on (kept_aside c q.track) else goes_on q
earlier_of h q (Set v from) = if asks_volume q v then goes_on (present from q.track) else goes_on q
earlier_of h q (Back v t from) = if asks_track q v t then goes_on (present from t) else goes_on q
earlier_of h q (Blanked v t) = if asks_track q v t then ends else goes_on q
earlier_of h q _ = goes_on q

-- the host write that was issued
abbrev pub write_of : Issued → Write
write_of i = record { volume = i.volume; track = i.track; offset = i.offset; bytes = take i.len i.bytes }

-- what an event issues under a number
abbrev pub issue_in : Event → ℕ → Option Issued
issue_in (Issue w v t offset len bytes) n = if n == w then Some (record { volume = v; track = t; offset = offset; len = len; bytes = bytes }) else None
issue_in _ n = None

-- by the event at a place, if there is one
abbrev pub issue_at : Option Event → ℕ → Option Issued
issue_at None n = None
issue_at (Some e) n = issue_in e n

-- the tracks of a volume that an event defines
abbrev pub tracks_in : Event → ℕ → Option ℕ
tracks_in (Volume v server tracks) x = if x == v then Some tracks else None
tracks_in _ x = None

-- by the event at a place, if there is one
abbrev pub tracks_at : Option Event → ℕ → Option ℕ
tracks_at None x = None
tracks_at (Some e) x = tracks_in e x

-- a byte as it is known, or else as it is underneath
abbrev pub byte_over : List Bool → List ℕ → List ℕ → ℕ → ℕ
byte_over known bytes under k = if slice_index_or known k false then slice_index_or bytes k 0 else slice_index_or under k 0

-- a track whose known bytes lie over the track underneath
unfoldable pub over : List Bool → List ℕ → List ℕ → List ℕ
over known bytes under = map (byte_over known bytes under) (range_with_len 0 64)

-- a track after a write, if there is one
abbrev pub with_write_if : (ℕ → Write) → List ℕ → Option ℕ → List ℕ
with_write_if write bytes None = bytes
with_write_if write bytes (Some w) = with_write write bytes w
