-- What holds of every world of a run, as parts with names.
use Rattle.std.specs.Prelude.{◌≡◌, ◌≢◌, ◌⊎◌, ◌||◌, ℕ, ◌<◌, ◌≤◌, ◌+◌, Bool, true, false, List, [], ◌∷◌, length, map, Option, Some, None, if◌then◌else◌}
use Rattle.std.specs.FinSet.{contains}
use Rattle.dr_logic.specs.Bytes.{zeros}
use Rattle.dr_model.specs.Histories.{Write, Histories, histories}
use Rattle.dr_model.specs.Layout.{Tracks, Fields, is_part}
use Rattle.dr_model.specs.Lawful.{IsLawful}
use Rattle.dr_model.specs.Limits.{most_targets}
use Rattle.dr_model.specs.Control.{Pending, Control, World, is_volume}
use Rattle.dr_model.specs.Views.{source_of, view}
use Rattle.dr_model.specs.Relations.{is_bare}
use Rattle.dr_model.specs.declared.state.Part.{Part}
use Rattle.dr_model.specs.declared.state.Part.TheVariants.{Global}
use Rattle.dr_model.specs.declared.state.PairState.{PairState}
use Rattle.dr_model.specs.Pairs.{primary_of, secondary_of, is_metro, is_kind, is_pending}
use Rattle.dr_model.specs.Entries.{is_at, targets_of}
use Rattle.dr_model.specs.Table.{Row, Table, table}
pub use Rattle.dr_model.specs.Tables.{Once}
use Rattle.dr_model.specs.Messages.{Flight, Message}
use Rattle.dr_model.specs.Groups.{In, Groups, SecondariesUncascaded, Housed}
use Rattle.dr_model.specs.Attempts.{Attempts}
use Rattle.dr_model.specs.Flights.{Flights}

-- a law on each volume, and one on each volume and the one that it points to
abbrev pub Each : (ℕ → Row → Type 0) → Table → Type 0
Each P T = (v : ℕ) → P v (T v)

-- a law on each volume and the one that it points to
abbrev pub Linked : (Row → Option ℕ) → (ℕ → Row → ℕ → Row → Type 0) → Table → Type 0
Linked link R T = (v u : ℕ) → link (T v) ≡ Some u → R v (T v) u (T u)

-- the record of volume v
abbrev pub fields : Table → ℕ → Fields
fields T v = (T v).volume.fields

-- the source of a target
abbrev pub source : Row → Option ℕ
source r = source_of r.volume.fields

-- Structure: what control records say together.

-- a volume's record is lawful
abbrev pub Lawful : Row → Type 0
Lawful r = IsLawful r.volume.tracks r.volume.fields

-- the sets of a target: what it holds isn't blank, and unless it is revertible it holds what changed
pub record SetsFit (revertible : Bool) (own noted rewritten blank : Tracks) : Type 0 where
  pub apart : (t : ℕ) → contains own t ≡ true → contains blank t ≡ false
  pub noted_held : revertible ≡ false → (t : ℕ) → contains noted t ≡ true → contains own t ≡ true
  pub rewritten_held : revertible ≡ false → (t : ℕ) → contains rewritten t ≡ true → contains own t ≡ true

-- a volume's sets fit
abbrev pub RowSets : Row → Type 0
RowSets r = SetsFit r.volume.fields.revertible r.volume.fields.own r.volume.fields.source_changes r.volume.fields.target_changes r.volume.fields.blank

-- The sets of a revertible target, whose changes are recorded: what it held before isn't blank, and of that it
-- holds now what hasn't changed.
pub record Reverts (recorded reversing : Bool) (own before noted rewritten blank : Tracks) : Type 0 where
  pub records : recorded ≡ true
  pub forward : reversing ≡ false
  pub apart : (t : ℕ) → contains before t ≡ true → contains blank t ≡ false
  pub noted_held : (t : ℕ) → contains noted t ≡ true → contains before t ≡ true
  pub rewritten_held : (t : ℕ) → contains rewritten t ≡ true → contains before t ≡ true
  pub unchanged : (t : ℕ) → contains own t ≡ true → (contains noted t ≡ false) × (contains rewritten t ≡ false)
  pub kept : (t : ℕ) → contains before t ≡ true → contains noted t ≡ false → contains rewritten t ≡ false → contains own t ≡ true

-- so they do where its target is revertible
abbrev pub RowReverts : Row → Type 0
RowReverts r =
    r.volume.fields.revertible ≡ true
    → Reverts r.volume.fields.recorded r.volume.fields.reversing r.volume.fields.own r.volume.fields.previous_own r.volume.fields.source_changes r.volume.fields.target_changes r.volume.fields.blank

-- a relationship whose changes are recorded is persistent, and only such a one is reversed; then no change is noted, and
-- there is a track to give back
pub record FlagsFit (persistent recorded reversing : Bool) (own noted rewritten : Tracks) : Type 0 where
  pub persists : recorded ≡ true → persistent ≡ true
  pub records : reversing ≡ true → recorded ≡ true
  pub unchanged : reversing ≡ true → (t : ℕ) → (contains noted t ≡ false) × (contains rewritten t ≡ false)
  pub some : reversing ≡ true → is_bare own ≡ false

-- a volume's flags fit
abbrev pub RowFlags : Row → Type 0
RowFlags r =
    FlagsFit r.volume.fields.persistent r.volume.fields.recorded r.volume.fields.reversing r.volume.fields.own r.volume.fields.source_changes r.volume.fields.target_changes

-- a target is a volume that is defined
abbrev pub RowDefined : Row → Type 0
RowDefined r = r.volume.fields.related ≡ true → r.defined ≡ true

-- a target and its source, which is no target itself
pub record FlashFits (is_defined : Bool) (from : Option ℕ) (server source_server tracks source_tracks : ℕ) : Type 0 where
  pub defined : is_defined ≡ true
  pub plain : from ≡ None
  pub same_tracks : tracks ≡ source_tracks
  pub same_server : server ≡ source_server

-- a target fits its source
abbrev pub Flashed : ℕ → Row → ℕ → Row → Type 0
Flashed v r u s = FlashFits s.defined (source s) r.volume.server s.volume.server r.volume.tracks s.volume.tracks

-- at most one target of a source is restored onto it
abbrev pub OneRestore : Table → Type 0
OneRestore T =
    (v a b : ℕ) → source (T a) ≡ Some v → source (T b) ≡ Some v → (T a).volume.fields.reversing ≡ true → (T b).volume.fields.reversing ≡ true → a ≡ b

-- all laws on the records of volumes and on targets with their sources
pub record Structure (T : Table) : Type 0 where
  pub lawful : Each (λ v r. Lawful r) T
  pub sets : Each (λ v r. RowSets r) T
  pub flags : Each (λ v r. RowFlags r) T
  pub reverts : Each (λ v r. RowReverts r) T
  pub defined : Each (λ v r. RowDefined r) T
  pub flash : Linked source Flashed T
  pub one_restore : OneRestore T

-- Parts: what the records of pairs say together.

-- the secondary of a primary
abbrev pub its_secondary : Row → Option ℕ
its_secondary r = secondary_of r.volume.fields

-- the primary of a secondary
abbrev pub its_primary : Row → Option ℕ
its_primary r = primary_of r.volume.fields

-- a cascaded volume: the primary of a Global Copy pair, and the secondary of a Metro Mirror pair with another partner
pub record Cascaded (primary : Part) (to : ℕ) (secondary : Part) (from : ℕ) : Type 0 where
  pub sends : is_kind Global primary ≡ true
  pub takes : is_metro secondary ≡ true
  pub apart : to ≢ from

-- a volume with both parts is cascaded, and a target has none
pub record PartsFit (primary : Part) (to : ℕ) (secondary : Part) (from : ℕ) (related : Bool) : Type 0 where
  pub both : is_part primary ≡ true → is_part secondary ≡ true → Cascaded primary to secondary from
  pub no_primary : related ≡ true → is_part primary ≡ false
  pub no_secondary : related ≡ true → is_part secondary ≡ false

-- the parts of a volume fit each other
abbrev pub RowParts : Row → Type 0
RowParts r = PartsFit r.volume.fields.primary r.volume.fields.primary_partner r.volume.fields.secondary r.volume.fields.secondary_partner r.volume.fields.related

-- a partner is a volume that is defined, on another server, and of the same size
pub record PartnerFits (is_defined : Bool) (server partner_server tracks partner_tracks : ℕ) : Type 0 where
  pub defined : is_defined ≡ true
  pub same_tracks : tracks ≡ partner_tracks
  pub apart : server ≡ partner_server → ⊥

-- a volume fits its partner
abbrev pub Partnered : ℕ → Row → ℕ → Row → Type 0
Partnered v r u s = PartnerFits s.defined r.volume.server s.volume.server r.volume.tracks s.volume.tracks

-- no two volumes are each other's secondary
abbrev pub OneWay : ℕ → Row → ℕ → Row → Type 0
OneWay v r u s = its_primary s ≡ Some v → ⊥

-- a volume that its target is restored onto is no secondary
abbrev pub FreeSource : ℕ → Row → ℕ → Row → Type 0
FreeSource v r u s = r.volume.fields.reversing ≡ true → is_part s.volume.fields.secondary ≡ false

-- all laws on partners
pub record Parts (T : Table) : Type 0 where
  pub fit : Each (λ v r. RowParts r) T
  pub secondary : Linked its_secondary Partnered T
  pub primary : Linked its_primary Partnered T
  pub one_way : Linked its_primary OneWay T
  pub free : Linked source FreeSource T

-- Recorders: what is recorded for an attempt. A primary that coordination holds records; one that records is a Global Copy
-- primary in Copy Pending; and where none does, nothing has changed since.
pub record Records (kind : Part) (state : PairState) (held recording : Bool) (changed : Tracks) : Type 0 where
  pub holds : held ≡ true → recording ≡ true
  pub global : recording ≡ true → is_kind Global kind ≡ true
  pub pending : recording ≡ true → is_pending state ≡ true
  pub none : recording ≡ false → (t : ℕ) → contains changed t ≡ false

-- a volume records only as a primary of an attempt
abbrev pub RowRecords : Row → Type 0
RowRecords r = Records r.volume.fields.primary r.volume.fields.primary_state r.volume.fields.coordination r.volume.fields.recording r.volume.fields.change_recording

-- each volume does
abbrev pub Recorders : Table → Type 0
Recorders = Each (λ v r. RowRecords r)

-- The pair law. Two volumes are a pair where one is the primary of the other, which is its secondary, or where each is
-- a primary of the other. Outside the tracks that those of them record which are primaries, both contain the same.
abbrev pub unsent : Row → ℕ → Bool
unsent r t = contains r.volume.fields.out_of_sync t || contains r.volume.fields.change_recording t

-- Outside the tracks that its primary records a secondary contains the same; where each is a primary of the other, outside those
-- of both.
abbrev pub Alike : ℕ → Row → ℕ → Row → Type 0
Alike v r u s =
    (its_primary s ≡ Some v) ⊎ (its_secondary s ≡ Some v)
    → (t : ℕ) → t < r.volume.tracks → unsent r t ≡ false → (its_secondary s ≡ Some v → unsent s t ≡ false) → r.bytes t ≡ s.bytes t

-- the same of each primary and its secondary
abbrev pub PairLaw : Table → Type 0
PairLaw = Linked its_secondary Alike

-- Seals, and targets that were flashed while their sources were sealed.

-- a pair is of one kind, and only a secondary of Global Copy is sealed
abbrev pub OneKind : ℕ → Row → ℕ → Row → Type 0
OneKind v r u s = its_secondary s ≡ Some v → r.volume.fields.secondary ≡ s.volume.fields.primary

-- a sealed secondary is one of Global Copy
abbrev pub SealedGlobal : Row → Type 0
SealedGlobal r = r.volume.fields.seal ≢ 0 → is_kind Global r.volume.fields.secondary ≡ true

-- where its secondary is sealed for the attempt that a primary records, the primary has nothing left to send
abbrev pub AllSent : ℕ → Row → ℕ → Row → Type 0
AllSent v r u s =
    its_primary s ≡ Some v → r.volume.fields.recording ≡ true → s.volume.fields.seal ≢ 0 → s.volume.fields.seal ≡ r.volume.fields.attempt
    → (t : ℕ) → contains r.volume.fields.out_of_sync t ≡ false

-- the source of a revertible target is no secondary of Metro Mirror
abbrev pub NoMetro : ℕ → Row → ℕ → Row → Type 0
NoMetro v r u s = r.volume.fields.revertible ≡ true → is_metro s.volume.fields.secondary ≡ false

-- no target is restored onto it
abbrev pub NoneRestored : Table → Type 0
NoneRestored T = (v a b : ℕ) → source (T a) ≡ Some v → source (T b) ≡ Some v → (fields T a).reversing ≡ true → (fields T b).revertible ≡ true → ⊥

-- and a primary that records an attempt has nothing left to send to it
abbrev pub NothingLeft : Table → Type 0
NothingLeft T =
    (v u x : ℕ) → its_secondary (T v) ≡ Some u → its_primary (T u) ≡ Some v → source (T x) ≡ Some u
    → (fields T v).recording ≡ true → (fields T x).revertible ≡ true → (t : ℕ) → contains (fields T v).out_of_sync t ≡ false

-- all laws on sealed secondaries and on sources of revertible targets
pub record Seals (T : Table) : Type 0 where
  pub kinds : Linked its_primary OneKind T
  pub global : Each (λ v r. SealedGlobal r) T
  pub sent : Linked its_secondary AllSent T
  pub no_metro : Linked source NoMetro T
  pub restored : NoneRestored T
  pub flashed : NothingLeft T

-- Images: what tracks contain, and what they show.

-- blank tracks are zeros, and so are those of a volume that isn't defined
abbrev pub Blank : Table → Type 0
Blank = Each (λ v r. (t : ℕ) → contains r.volume.fields.blank t ≡ true → r.bytes t ≡ zeros)

-- the tracks of a volume that isn't defined are zeros
abbrev pub Fresh : Table → Type 0
Fresh = Each (λ v r. r.defined ≡ false → (t : ℕ) → r.bytes t ≡ zeros)

-- a volume that is no target shows what it contains, and that is what is due
abbrev pub Plain : Row → Type 0
Plain r = source r ≡ None → (t : ℕ) → t < r.volume.tracks → r.bytes t ≡ r.due t

-- a target shows its own track where it holds it, and else its source's
abbrev pub shown_with : Row → Row → ℕ → List ℕ
shown_with r s t = if contains r.volume.fields.own t then r.bytes t else s.bytes t

-- each track of a target shows what it is due to show
abbrev pub Seen : Row → Row → Type 0
Seen r s = (t : ℕ) → t < r.volume.tracks → shown_with r s t ≡ r.due t

-- all laws on what tracks contain and show
pub record Images (T : Table) : Type 0 where
  pub blank : Blank T
  pub fresh : Fresh T
  pub plain : Each (λ v r. Plain r) T
  pub seen : Linked source (λ v r u s. Seen r s) T

-- a revertible target would show, if it went back, the tracks that it held before, and else its source's
abbrev pub ShowsAside : ℕ → Row → ℕ → Row → Type 0
ShowsAside v r u s =
    r.volume.fields.revertible ≡ true → (t : ℕ) → t < r.volume.tracks
    → (if contains r.volume.fields.previous_own t then r.bytes t else s.bytes t) ≡ r.aside t

-- each revertible target does
abbrev pub Asides : Table → Type 0
Asides = Linked source ShowsAside

-- of a target whose changes are recorded, what it holds unchanged equals the source's
abbrev pub HoldsOld : ℕ → Row → ℕ → Row → Type 0
HoldsOld v r u s =
    r.volume.fields.recorded ≡ true → r.volume.fields.reversing ≡ false
    → (t : ℕ) → contains r.volume.fields.own t ≡ true → contains r.volume.fields.source_changes t ≡ false → contains r.volume.fields.target_changes t ≡ false → r.bytes t ≡ s.bytes t

-- each such target does
abbrev pub Recorded : Table → Type 0
Recorded = Linked source HoldsOld

-- Pending writes.

-- each number of a list is below n
abbrev pub Below : ℕ → List ℕ → Type 0
Below n [] = Unit {0}
Below n (w ∷ ws) = (w < n) × Below n ws

-- A pending write is that of its issue, numbered from 1, on a track of a volume that is defined, whose server is off where it has landed.
-- While a server starts, it alone may be on before its landed write is acknowledged.
pub record WaitsFor (starts : Option ℕ) (issued : ℕ) (is_defined on : ℕ → Bool) (server tracks : ℕ → ℕ) (write : ℕ → Write) (p : Pending) : Type 0 where
  pub number : p.w < issued + 1
  pub positive : 0 < p.w
  pub defined : is_defined p.volume ≡ true
  pub low : p.track < tracks p.volume
  pub volume : (write p.w).volume ≡ p.volume
  pub track : (write p.w).track ≡ p.track
  pub calm : p.landed ≡ true → is_at starts (server p.volume) ≡ false → on (server p.volume) ≡ false

-- the server of each volume
abbrev pub servers : Control → ℕ → ℕ
servers k v = (k.volume v).server

-- the tracks of each volume
abbrev pub sizes : Control → ℕ → ℕ
sizes k v = (k.volume v).tracks

-- in a control state
abbrev pub Waits : Option ℕ → Control → (ℕ → Write) → Pending → Type 0
Waits starts k = WaitsFor starts k.issued (is_volume k) k.on (servers k) (sizes k)

-- all pending writes
abbrev pub AllPending : (Pending → Type 0) → List Pending → Type 0
AllPending P [] = Unit {0}
AllPending P (p ∷ ps) = P p × AllPending P ps

-- no two writes have one number
abbrev pub Apart : List Pending → Type 0
Apart [] = Unit {0}
Apart (p ∷ ps) = AllPending (λ q. q.w ≡ p.w → ⊥) ps × Apart ps

-- no two have landed on volumes of one server
abbrev pub Together : (ℕ → ℕ) → Pending → Pending → Type 0
Together server p q = p.landed ≡ true → q.landed ≡ true → server p.volume ≡ server q.volume → ⊥

-- no two landed writes are on one server
abbrev pub Lone : (ℕ → ℕ) → List Pending → Type 0
Lone server [] = Unit {0}
Lone server (p ∷ ps) = AllPending (Together server p) ps × Lone server ps

-- no list has the number of a write that wasn't issued
pub record Numbered (n : ℕ) (h : Histories) : Type 0 where
  pub now : (v t : ℕ) → Below n (h.now v t)
  pub aside : (v t : ℕ) → Below n (h.aside v t)

-- all laws on pending writes
pub record Queue (starts : Option ℕ) (w : World) : Type 0 where
  pub each : AllPending (Waits starts w.control (histories w.events).write) w.control.pending
  pub apart : Apart w.control.pending
  pub lone : Lone (servers w.control) w.control.pending
  pub numbers : Numbered (w.control.issued + 1) (histories w.events)

-- what holds of the table of volumes at every moment, also within a step
pub record SoundRows (T : Table) : Type 0 where
  pub structure : Structure T
  pub parts : Parts T
  pub images : Images T
  pub recorded : Recorded T
  pub recorders : Recorders T
  pub seals : Seals T
  pub pairs : PairLaw T
  pub asides : Asides T

-- Targets: no volume is defined twice, and none has more than 12 targets.

-- no volume is defined twice, and none has more than 12 targets
pub record FewTargets (k : Control) : Type 0 where
  pub once : Once k.volumes
  pub few : (v : ℕ) → length (targets_of k v) ≤ most_targets

-- while a server starts, or none
pub record SoundBut (starts : Option ℕ) (w : World) : Type 0 where
  pub rows : SoundRows (table w)
  pub targets : FewTargets w.control
  pub queue : Queue starts w
  pub groups : Groups w.control
  pub secondaries : SecondariesUncascaded w.control
  pub housed : Housed w.control
  pub attempts : Attempts w.control
  pub flights : Flights w.control

-- what holds of a world between steps
abbrev pub Sound : World → Type 0
Sound = SoundBut None

-- Counts: how much was sent, started and begun.

-- No more than n messages were made, no server was started and no epoch of a session begun more often. The messages in flight are some of
-- those that were made, each with a number of its own, to or from one of so many servers.
pub record IsCounted (n servers : ℕ) (f : Flight) : Type 0 where
  pub made : f.made ≤ n
  pub starts : (server : ℕ) → f.starts server ≤ n
  pub epochs : (s : ℕ) → f.epoch s ≤ n
  pub numbers : (m : Message) → In m f.messages → (0 < m.number) × (m.number ≤ f.made)
  pub once : Once (map (λ (m : Message). m.number) f.messages)
  pub homes : (m : Message) → In m f.messages → m.server < servers

-- none of these counts is above the number of events
abbrev pub FlightCounted : World → Type 0
FlightCounted w = IsCounted (length w.events) (length w.control.servers) w.control.flight

-- what a track of a volume shows
abbrev pub shown : Table → ℕ → ℕ → List ℕ
shown T = view (fields T) (λ v. (T v).bytes)
