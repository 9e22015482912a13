-- Where a step may end for want of memory: where it asks for memory, behind its refusals, and never where the journal is full.
use Rattle.std.specs.Prelude.{◌≡◌, ℕ, ◌+◌, ◌-◌, ◌<◌, ◌⊎◌, Bool, true, false, not, List, length, is_some, Option, Some, None, Result, Ok, Err}
use Rattle.dr_ids.specs.Paths.{path_in}
use Rattle.dr_ctl.specs.Kept.{is_order}
use Rattle.dr_model.specs.Messages.{Message, message_in}
use Rattle.dr_model.specs.declared.event.Event.{Event}
use Rattle.dr_model.specs.declared.step.Step.{Step}
use Rattle.dr_model.specs.declared.step.Step.TheVariants.{Server, Volume, Issue, Write, MakePath, MakeSession, AddMember, Send, Deliver, Run, Image}
use Rattle.dr_model.specs.Control.{Control, World}
use Rattle.dr_model.specs.Forming.{refusal_said}
use Rattle.dr_model.specs.Limits.{most_events, step_events, image_events}
use Rattle.dr_model.specs.Log.{memory_for}
use Rattle.dr_model.specs.Plans.{has_room_for, plan_of}

-- the events that the journal must have room for, or else a step finds it full; a line outside the grammar only answers
abbrev pub room_needed : Result Step ℕ → ℕ
room_needed (Err column) = 1
room_needed (Ok Image) = image_events
room_needed (Ok step) = step_events

-- the room that a step takes there: an `@run` takes all that is left
abbrev pub room_taken : Result Step ℕ → List Event → ℕ
room_taken (Ok (Run s n)) events = most_events - length events
room_taken asked events = room_needed asked

-- whether there is a message, and it is an order, to which its server replies by another one
abbrev pub asks_reply : Option Message → Bool
asks_reply None = false
asks_reply (Some m) = is_order m.body

-- a step that adds a row to a table: a server, a volume, a path that isn't there yet, a pending write, a subsystem of a session, a member, a
-- message
abbrev pub adds_row : Control → Step → Bool
adds_row k (Server name) = true
adds_row k (Volume v name tracks) = true
adds_row k (MakePath devs src tgt group) = not (is_some (path_in k.paths src tgt))
adds_row k (Issue v t offset len bytes) = true
adds_row k (Write v t offset len bytes) = true
adds_row k (MakeSession devs l s) = true
adds_row k (AddMember devs l a s) = true
adds_row k (Send s name) = true
adds_row k (Deliver n) = asks_reply (message_in k.flight n)
adds_row k _ = false

-- it asks for that row: its plan is no refusal
pub record WantsRow (w : World) (step : Step) : Type 0 where
  pub row : adds_row w.control step ≡ true
  pub free : (line : ℕ) → refusal_said ((plan_of w.control w.events line step).says w.control) ≡ None

-- a line outside the grammar asks for none
abbrev pub AsksRow : World → Result Step ℕ → Type 0
AsksRow w (Ok step) = WantsRow w step
AsksRow w (Err column) = ⊥

-- What a step asks for, where the journal has memory for so many events: the journal isn't full; its events with the room that the step
-- takes need memory of a greater size than these, or the step asks for a row.
pub record WantsMemory (w : World) (asked : Result Step ℕ) (held : ℕ) : Type 0 where
  pub room : has_room_for (room_needed asked) w.events ≡ true
  pub asks : (memory_for held < memory_for (length w.events + room_taken asked w.events)) ⊎ AsksRow w asked
