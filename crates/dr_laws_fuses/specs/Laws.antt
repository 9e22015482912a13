-- What a fuse that isn't reached changes, what the bytes of a torn block change, and which stop comes first.
use Rattle.std.specs.Prelude.{◌≡◌, ℕ, ◌+◌, ◌≤◌, ◌⊎◌, Bool, true, false, List, drop, length, slice_get, Option, Some, None, Result, Ok}
use Rattle.std.specs.List.{list_any, filter_map}
use Rattle.dr_logic.specs.Tables.{at}
use Rattle.dr_model.specs.declared.event.Event.{Event}
use Rattle.dr_model.specs.declared.event.Event.TheVariants.{Ack, Stopped}
use Rattle.dr_model.specs.declared.step.Name.{Name}
use Rattle.dr_model.specs.declared.step.Step.{Step}
use Rattle.dr_model.specs.declared.step.Step.TheVariants.{Start, Stop, StopAfter, Write}
use Rattle.dr_model.specs.declared.step.TornWord.{TornWord}
use Rattle.dr_model.specs.declared.step.TornWord.TheVariants.{Fill, Bytes}
use Rattle.dr_model.specs.Control.{Control, Fuse, Pending, World, is_volume}
use Rattle.dr_model.specs.Carry.{gate_turned}
use Rattle.dr_model.specs.Groups.{In}
use Rattle.dr_model.specs.Entries.{is_at}
use Rattle.dr_model.specs.Plans.{server_named, name_bytes, armed, fuse_at_start}
use Rattle.dr_model.specs.Runs.{Task, after_task, after_tasks}
use Rattle.dr_laws_sound.specs.Stops.{stop_in}
use Rattle.dr_laws_fuses.specs.Fuses.{with_fuse, with_fuses}

-- what the journal was told between two worlds of a run
abbrev pub told_since : World → World → List Event
told_since w u = drop (length w.events) u.events

-- a stop of server s is among events
abbrev pub tells_stop : ℕ → List Event → Bool
tells_stop s events = list_any (λ e. is_at (stop_in e) s) events

-- ---- a fuse that isn't reached

-- the second of two fuses lets that many writes more pass; what either leaves in a block is free
abbrev pub Later : ℕ → Option Fuse → Option Fuse → Type 0
Later d (Some f) (Some g) = g.after ≡ f.after + d
Later d _ _ = ⊥

-- two worlds differ in the fuse of server s alone, which is later in the second by that many writes
pub record LaterBy (s d : ℕ) (w v : World) : Type 0 where
  pub fuse : Option Fuse
  pub is : v ≡ with_fuses w (at w.control.fuse s fuse)
  pub later : Later d (w.control.fuse s) fuse

-- a step that starts server s leaves its fuse: it doesn't stand at 0
abbrev pub KeepsFuse : World → ℕ → Result Step ℕ → Type 0
KeepsFuse w s asked = (name : Name) → asked ≡ Ok (Start name) → server_named w.control (name_bytes name) ≡ Some s → fuse_at_start (w.control.fuse s) ≡ w.control.fuse s

-- a step is a line that arms the fuse of server s
pub record ArmsAnew (w : World) (s : ℕ) (asked : Result Step ℕ) : Type 0 where
  pub name : Name
  pub writes : ℕ
  pub torn : TornWord
  pub is : asked ≡ Ok (StopAfter name writes torn)
  pub named : server_named w.control (name_bytes name) ≡ Some s

-- A step that doesn't stop server s in the one of two such worlds comes to two such worlds, or to one and the same, if it arms that fuse anew.
abbrev pub UnreachedChangesNothing : ℕ → World → World → Task → Type 0
UnreachedChangesNothing s w v t =
    (d : ℕ) → LaterBy s d w v → KeepsFuse w s t.asked → tells_stop s (told_since w (after_task w t)) ≡ false
    → LaterBy s d (after_task w t) (after_task v t) ⊎ (ArmsAnew w s t.asked × (after_task v t ≡ after_task w t))

-- ---- steps that start or stop a server

-- Server s makes no device write in a step: whatever fuse it has, the step leads to the same world, and leaves that fuse.
abbrev pub MakesNoWrite : ℕ → World → Task → Type 0
MakesNoWrite s w t = (fuse : Option Fuse) → after_task (with_fuse w s fuse) t ≡ with_fuse (after_task w t) s fuse

-- So it is with any server in a step that stops one.
abbrev pub StopMakesNoWrite : ℕ → World → Task → Type 0
StopMakesNoWrite s w t = (name : Name) → t.asked ≡ Ok (Stop name) → MakesNoWrite s w t

-- In a step that starts another server, server s makes no device write, and doesn't stop.
abbrev pub StartMakesNoOtherWrite : ℕ → World → Task → Type 0
StartMakesNoOtherWrite s w t =
    (name : Name) → t.asked ≡ Ok (Start name) → (server_named w.control (name_bytes name) ≡ Some s → ⊥) → MakesNoWrite s w t × (tells_stop s (told_since w (after_task w t)) ≡ false)

-- A fuse of server s stops nothing in a step: it leads to what it leads to without a fuse, except for the fuse of that server.
pub record StopsNothing (s : ℕ) (fuse : Fuse) (w : World) (t : Task) : Type 0 where
  pub left : Option Fuse
  pub is : after_task (with_fuse w s (Some fuse)) t ≡ with_fuse (after_task (with_fuse w s None) t) s left

-- So it is with a fuse at 0 in a step that starts that server.
abbrev pub StartTakesFuseAway : ℕ → World → Task → Type 0
StartTakesFuseAway s w t =
    (name : Name) (torn : Option (List ℕ)) → t.asked ≡ Ok (Start name) → server_named w.control (name_bytes name) ≡ Some s → StopsNothing s (record { after = 0; torn = torn }) w t

-- ---- torn bytes

-- two fuses let as many writes pass, and a gate that either cuts short chooses the same slot, whichever is the new one
abbrev pub TearAlike : Option Fuse → Option Fuse → Type 0
TearAlike None None = Unit {0}
TearAlike (Some f) (Some g) = (g.after ≡ f.after) × ((new : Bool) → gate_turned g.torn new ≡ gate_turned f.torn new)
TearAlike _ _ = ⊥

-- two worlds differ in fuses alone that tear alike
pub record TornAlike (w v : World) : Type 0 where
  pub fuse : ℕ → Option Fuse
  pub is : v ≡ with_fuses w fuse
  pub alike : (s : ℕ) → TearAlike (w.control.fuse s) (fuse s)

-- any steps, with the same listed devices, lead from two such worlds to two such worlds
abbrev pub TornBytesTellOneBit : World → World → List Task → Type 0
TornBytesTellOneBit w v tasks = TornAlike w v → TornAlike (after_tasks w tasks) (after_tasks v tasks)

-- a fuse with any bytes tears as one that fills the block with 00 or with 01
abbrev pub TearsAsFill : ℕ → List ℕ → Type 0
TearsAsFill writes bytes = TearAlike (Some (armed writes (Bytes bytes))) (Some (armed writes (Fill 0))) ⊎ TearAlike (Some (armed writes (Bytes bytes))) (Some (armed writes (Fill 1)))

-- ---- the first stop

-- the second of two fuses lets at least as many writes pass
abbrev pub Outlasts : Option Fuse → Option Fuse → Type 0
Outlasts f None = Unit {0}
Outlasts (Some f) (Some g) = f.after ≤ g.after
Outlasts None (Some g) = ⊥

-- By the places that servers have among some: those without one have the same fuses, and so has the one at that place, if one is given; all others let at
-- least as many writes pass.
pub record Lasts (place : ℕ → Option ℕ) (own : Option ℕ) (f g : ℕ → Option Fuse) : Type 0 where
  pub kept : (q : ℕ) → place q ≡ None → g q ≡ f q
  pub same : (q : ℕ) → place q ≡ own → g q ≡ f q
  pub others : (q : ℕ) → Outlasts (f q) (g q)

-- the place of the server whose stop an event tells
abbrev pub stop_at : (ℕ → Option ℕ) → Event → Option ℕ
stop_at place (Stopped s w) = place s
stop_at place _ = None

-- of the servers that have a place, that of the first that stops in a step
abbrev pub first_place : (ℕ → Option ℕ) → World → Task → Option ℕ
first_place place w t = slice_get (filter_map (stop_at place) (told_since w (after_task w t))) 0

-- a server that a step starts has the same fuse in both worlds, or one that its start leaves
abbrev pub StartsAlike : World → (ℕ → Option Fuse) → Result Step ℕ → Type 0
StartsAlike w g asked =
    (name : Name) (q : ℕ) → asked ≡ Ok (Start name) → server_named w.control (name_bytes name) ≡ Some q → (g q ≡ w.control.fuse q) ⊎ (fuse_at_start (w.control.fuse q) ≡ w.control.fuse q)

-- If the first of these servers that stops in a step is that of one place in the one world, or none of them stops, so it is in the other.
abbrev pub FirstPlaceStays : (ℕ → Option ℕ) → Option ℕ → World → (ℕ → Option Fuse) → Task → Type 0
FirstPlaceStays place own w g t =
    Lasts place own w.control.fuse g → StartsAlike w g t.asked → first_place place w t ≡ own → first_place place (with_fuses w g) t ≡ own

-- ---- a server at its last device write

-- server s is off, or its next device write is cut short and leaves what stood in the block
abbrev pub WritesNothing : World → ℕ → Type 0
WritesNothing w s = (w.control.on s ≡ false) ⊎ (w.control.fuse s ≡ Some (record { after = 0; torn = None }))

-- the volumes of server s that are defined, and what their tracks contain, are what they were
pub record LeavesVolumes (s : ℕ) (w u : World) : Type 0 where
  pub volume : (v : ℕ) → is_volume w.control v ≡ true → (w.control.volume v).server ≡ s → u.control.volume v ≡ w.control.volume v
  pub contents : (v t : ℕ) → is_volume w.control v ≡ true → (w.control.volume v).server ≡ s → u.contents v t ≡ w.contents v t

-- a step issues host write n on volume v
abbrev pub IssuesOn : Control → Result Step ℕ → ℕ → ℕ → Type 0
IssuesOn k (Ok (Write u t offset len bytes)) n v = (n ≡ k.issued + 1) × (u ≡ v)
IssuesOn k asked n v = ⊥

-- host write n is one on volume v: it is pending there as a step begins, or the step issues it
abbrev pub IsWriteOn : Control → Result Step ℕ → ℕ → ℕ → Type 0
IsWriteOn k asked n v = ((p : Pending) × In p k.pending × (p.w ≡ n) × (p.volume ≡ v)) ⊎ IssuesOn k asked n v

-- each host write that a step acknowledges is one on a volume that isn't one of server s
abbrev pub AcknowledgesElsewhere : ℕ → World → Task → Type 0
AcknowledgesElsewhere s w t =
    (n : ℕ) → In (Ack n) (told_since w (after_task w t)) → (v : ℕ) × IsWriteOn w.control t.asked n v × (is_volume w.control v ≡ true → (w.control.volume v).server ≡ s → ⊥)

-- In any step that doesn't start that server, its volumes stay, and no host write on one of them is acknowledged.
abbrev pub LastWriteLeavesNothing : ℕ → World → Task → Type 0
LastWriteLeavesNothing s w t =
    WritesNothing w s → ((name : Name) → t.asked ≡ Ok (Start name) → server_named w.control (name_bytes name) ≡ Some s → ⊥) → LeavesVolumes s w (after_task w t) × AcknowledgesElsewhere s w t
