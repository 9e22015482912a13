-- How a drain of all tracks is answered, by the state in which it begins, and a second one right after it.
use Rattle.std.specs.Prelude.{◌≡◌, ◌≢◌, ℕ, Bool, true, false, not, List, None, Ok, is_some, if◌then◌else◌}
use Rattle.std.specs.FinSet.{len}
use Rattle.dr_ids.specs.declared.refusal.Refusal.{Refusal}
use Rattle.dr_ids.specs.declared.refusal.Refusal.TheVariants.{Stopped, Held, PairState as PairIs, JournalFull}
use Rattle.dr_ids.specs.declared.refusal.Kind.TheVariants.{Volume as OfVolume, Path as OfPath}
use Rattle.dr_ids.specs.declared.refusal.PairSeen.{PairSeen}
use Rattle.dr_ids.specs.declared.refusal.PairSeen.TheVariants as seen
use Rattle.dr_model.specs.Refusals.{unknown, server_off}
use Rattle.dr_model.specs.declared.said.Addition.{Addition}
use Rattle.dr_model.specs.declared.said.Addition.TheVariants.{Counted}
use Rattle.dr_model.specs.declared.said.Said.{Said}
use Rattle.dr_model.specs.declared.said.Said.TheVariants.{Done, Refused}
use Rattle.dr_model.specs.declared.state.Part.{Part}
use Rattle.dr_model.specs.declared.state.PairState.{PairState}
use Rattle.dr_model.specs.declared.state.PairState.TheVariants.{CopyPending, FullDuplex, Suspended}
use Rattle.dr_model.specs.declared.step.Step.TheVariants.{Drain}
use Rattle.dr_model.specs.Layout.{Fields}
use Rattle.dr_model.specs.Relations.{is_bare}
use Rattle.dr_model.specs.Pairs.{is_metro, holds_back}
use Rattle.dr_model.specs.Control.{Control, World}
use Rattle.dr_model.specs.Entries.{fields_at, is_running, stands_in, is_revertible, relation_state, pair_state, secondary_state}
use Rattle.dr_model.specs.PairEntries.{is_copying, belongs_to, has_path, are_linked, link_down}
use Rattle.dr_model.specs.Plans.{is_defined, has_room}
use Rattle.dr_model.specs.Runs.{Task, run, after_task}
use Rattle.dr_laws_sound.specs.Acknowledged.{said_in}
use Rattle.dr_laws_recovery.specs.Emptied.{IsEmptied}

-- How a drain of all tracks of a volume ends if no server stops: its answer, the state of the volume as a primary then, whether devices were
-- written, and the answer of a second one right after it.
pub record Ending : Type 0 where
  pub answer : Said
  pub state : PairState
  pub writes : Bool
  pub second : Said

-- refused because the pair of primary x is seen so
abbrev pub seen_as : ℕ → PairSeen → Said
seen_as x how = Refused (PairIs (record { 0 = x }) how)

-- Nothing is sent, and the state stays. A second drain answers the same.
abbrev pub stays : Fields → Said → Ending
stays f said = record { answer = said; state = f.primary_state; writes = false; second = said }

-- x can't send to its partner, for this reason, and is Suspended. A second drain is refused for that.
abbrev pub parted : ℕ → Refusal → Ending
parted x r = record { answer = Refused r; state = Suspended; writes = true; second = seen_as x seen.Suspended }

-- All that x had out of sync was sent, n tracks and not none. A Metro Mirror pair is Full Duplex with the last of them, and a second drain is
-- refused for that. A Global Copy pair stays in Copy Pending, and a second drain has nothing to send.
abbrev pub sent : ℕ → Part → ℕ → Ending
sent x kind n =
    if is_metro kind then record { answer = Done (Counted n); state = FullDuplex; writes = true; second = seen_as x seen.FullDuplex }
    else record { answer = Done (Counted n); state = CopyPending; writes = true; second = Done (Counted 0) }

-- How a drain of all tracks of x ends, by the state in which it begins: the first of these rows that fits. The partner of x is y. What the partner
-- is counts only if something is out of sync, and no hold of x counts.
abbrev pub drain_ends : Control → ℕ → Ending
drain_ends k x =
    let f : Fields = fields_at k x in
    let y : ℕ = f.primary_partner in
    if not (is_defined x k) then stays f (Refused (unknown OfVolume))
    else if not (is_running x k) then stays f (Refused (server_off (k.volume x).server))
    else if not (is_copying x k) then stays f (Refused (pair_state k x))
    else if is_bare f.out_of_sync then stays f (Done (Counted 0))
    else if not (has_path x y k) then parted x (unknown OfPath)
    else if not (is_running y k) then parted x (server_off (k.volume y).server)
    else if not (are_linked x y k) then parted x (link_down (k.volume x).server (k.volume y).server)
    else if not (belongs_to x y k) then parted x (secondary_state k y)
    else if stands_in is_revertible k y then stays f (Refused (relation_state k y))
    else if holds_back (fields_at k y) then stays f (Refused (Held (record { 0 = y })))
    else sent x f.primary (len f.out_of_sync)

-- nothing was sent: from w to u no track has changed, and no volume but x
pub record IsUnsent (w u : World) (x : ℕ) : Type 0 where
  pub others : (v : ℕ) → v ≢ x → u.control.volume v ≡ w.control.volume v
  pub tracks : (v t : ℕ) → u.contents v t ≡ w.contents v t

-- A step that led from w to u ended so: it was answered so, and x is in that state. If the answer was ok, x has nothing out of sync; if it was a
-- refusal, nothing was sent. If no device was written, no volume and no track has changed.
pub record EndsSo (e : Ending) (w u : World) (x : ℕ) (said : Said) : Type 0 where
  pub answer : said ≡ e.answer
  pub state : (fields_at u.control x).primary_state ≡ e.state
  pub emptied : (a : Addition) → said ≡ Done a → IsEmptied u x
  pub unsent : (r : Refusal) → said ≡ Refused r → IsUnsent w u x
  pub kept : e.writes ≡ false → (u.control.volume ≡ w.control.volume) × (u.contents ≡ w.contents)

-- A step that began in w ended so; or devices were to be written, and it was refused because a server stopped on which a fuse was armed as it
-- began. It is answered in no other way.
abbrev pub EndsOrStops : World → Ending → World → ℕ → Said → Type 0
EndsOrStops w e u x (Refused (Stopped q)) = (e.writes ≡ true) × (is_some (w.control.fuse q.0) ≡ true)
EndsOrStops w e u x said = EndsSo e w u x said

-- so ends a drain of all tracks of any volume after any run, if the journal has room for a step
abbrev pub DrainsOrStops : List Task → Type 0
DrainsOrStops tasks =
    (t : Task) (x : ℕ) → t.asked ≡ Ok (Drain x None) → has_room (run tasks).events ≡ true
    → EndsOrStops (run tasks) (drain_ends (run tasks).control x) (after_task (run tasks) t) x (said_in (run tasks) t)

-- an answer, if the journal has room for a step
abbrev pub with_room : World → Said → Said
with_room w said = if has_room w.events then said else Refused JournalFull

-- So ends a second one of the same volume, right after one that no stop ended: by the state in which the first one began. No stop ends the second
-- one.
abbrev pub SecondDrains : List Task → Type 0
SecondDrains tasks =
    (t s : Task) (x : ℕ) → t.asked ≡ Ok (Drain x None) → s.asked ≡ Ok (Drain x None) → has_room (run tasks).events ≡ true
    → said_in (run tasks) t ≡ (drain_ends (run tasks).control x).answer
    → said_in (after_task (run tasks) t) s ≡ with_room (after_task (run tasks) t) (drain_ends (run tasks).control x).second
