-- Listings: what each of their lines tells the journal, from the control state alone. No server need be on.
use Rattle.std.specs.Prelude.{ℕ, ◌+◌, Bool, ◌&&◌, ◌||◌, not, List, [], ◌∷◌, ◌++◌, map, filter, Option, Some, None, nat_eq, if◌then◌else◌}
use Rattle.std.specs.FinSet.{len, union}
use Rattle.std.specs.List.{flat_map}
use Rattle.dr_ids.specs.declared.names.Member.{Member}
use Rattle.dr_ids.specs.declared.refusal.Refusal.{Refusal}
use Rattle.dr_ids.specs.declared.refusal.Kind.TheVariants.{Server as OfServer, Volume as OfVolume}
use Rattle.dr_model.specs.declared.event.Event.{Event}
use Rattle.dr_model.specs.declared.event.Event.TheVariants.{PairLine, FlashLine, SessionLine, MirrorLine}
use Rattle.dr_model.specs.declared.said.Addition.TheVariants.{Alone}
use Rattle.dr_model.specs.declared.said.Said.TheVariants.{Done}
use Rattle.dr_model.specs.declared.state.Part.{Part}
use Rattle.dr_model.specs.declared.state.Part.TheVariants.{Absent, Metro, Global}
use Rattle.dr_model.specs.declared.step.Name.{Name}
use Rattle.dr_model.specs.Layout.{Fields, is_part}
use Rattle.dr_model.specs.Answers.{pair_place, phase_place}
use Rattle.dr_model.specs.Refusals.{unknown}
use Rattle.dr_model.specs.Control.{Control, is_volume}
use Rattle.dr_model.specs.Pairs.{state_seen, target_seen, pair_seen}
use Rattle.dr_model.specs.Entries.{fields_at}
use Rattle.dr_model.specs.Sessions.{Session, Mirror, has_subsystem, subsystem_of}
use Rattle.dr_model.specs.PlanParts.{Plan, same, tables_plan, unless, is_owner, on_owner, owner_of}
use Rattle.dr_model.specs.SessionPlans.{name_refusal}

-- ---- pairs

-- the number of a kind of pair in an event
abbrev pub kind_number : Part → ℕ
kind_number Absent = 0
kind_number Metro = 1
kind_number Global = 2

-- the tracks that a primary still has to send: those that are out of sync, and those that changed since it began to record
abbrev pub unsent : Fields → ℕ
unsent f = len (union f.out_of_sync f.change_recording)

-- volume v as a primary: its secondary, its state and kind, and how many tracks are unsent
abbrev pub primary_line : ℕ → ℕ → Fields → Event
primary_line line v f = PairLine line v f.primary_partner (pair_place (state_seen f.primary_state)) (kind_number f.primary) (unsent f)

-- and as a secondary: its primary, its state and kind
abbrev pub secondary_line : ℕ → ℕ → Fields → Event
secondary_line line v f = PairLine line v f.secondary_partner (pair_place (target_seen f.secondary_state)) (kind_number f.secondary) 0

-- one line for each part that it has, that of the primary first
abbrev pub pair_lines : ℕ → ℕ → Fields → List Event
pair_lines line v f =
    (if is_part f.primary then primary_line line v f ∷ [] else []) ++ (if is_part f.secondary then secondary_line line v f ∷ [] else [])

-- ---- FlashCopy relationships

-- the state of a relationship in an event: 0 revertible, 1 reversing, 2 neither
abbrev pub flash_state : Fields → ℕ
flash_state f = if f.revertible then 0 else if f.reversing then 1 else 2

-- a flag of an event, if it is set
abbrev pub flag_if : Bool → ℕ → ℕ
flag_if set flag = if set then flag else 0

-- its flags: 1 without background copy, 2 persistent, 4 recording changes, 8 inhibiting writes on the target
abbrev pub flash_flags : Fields → ℕ
flash_flags f = flag_if f.nocopy 1 + (flag_if f.persistent 2 + (flag_if f.recorded 4 + flag_if f.inhibited 8))

-- target u: its source, its numbers, its state and flags, and how many tracks it holds
abbrev pub flash_line : ℕ → ℕ → Fields → Event
flash_line line u f = FlashLine line f.source u f.sequence f.previous_sequence (flash_state f) (flash_flags f) (len f.own)

-- u is a target, and it is v, or its source is
abbrev pub is_flash_of : ℕ → ℕ → Fields → Bool
is_flash_of v u f = f.related && (nat_eq u v || nat_eq f.source v)

-- one line for each such target, in order of definition
abbrev pub flash_lines : Control → ℕ → ℕ → List Event
flash_lines k line v = map (λ u. flash_line line u (fields_at k u)) (filter (λ u. is_flash_of v u (fields_at k u)) k.volumes)

-- ---- sessions and masters

-- a member: its primary, its secondary, its target, and the state of its primary
abbrev pub member_line : Control → ℕ → ℕ → Member → Event
member_line k line s m = SessionLine line s m.a.0 m.b.0 m.c.0 (pair_place (pair_seen (fields_at k m.a.0)))

-- one line for each member whose primary lies in the logical subsystem, in order of members
abbrev pub member_lines : Control → ℕ → ℕ → Session → List Event
member_lines k line l x = map (member_line k line x.number) (filter (λ m. nat_eq (subsystem_of m.a.0) l) x.members)

-- a session's master: its server, its phase with the number of its attempt, and whether it is paused
abbrev pub mirror_line : ℕ → ℕ → Mirror → Event
mirror_line line s r = MirrorLine line s r.server (phase_place r.master.phase) r.master.number r.paused

-- a line where there is a master
abbrev pub mirror_lines : ℕ → ℕ → Option Mirror → List Event
mirror_lines line s None = []
mirror_lines line s (Some r) = mirror_line line s r ∷ []

-- the sessions that have the logical subsystem, in order
abbrev pub sessions_of : Control → ℕ → List Session
sessions_of k l = filter (has_subsystem l) k.sessions

-- ---- the plans

-- a listing only tells its lines
abbrev pub lists : List Event → Plan
lists told = tables_plan same told (Done Alone)

-- the volume isn't there, or the server that is named isn't its own
abbrev pub listing_refusal : Control → Option Name → ℕ → Option Refusal
listing_refusal k dev v = if not (is_volume k v) then Some (unknown OfVolume) else if is_owner dev v k then None else Some (unknown OfServer)

-- `lspprc`
abbrev pub list_pairs_plan : Control → ℕ → Option Name → ℕ → Plan
list_pairs_plan k line dev v = unless (listing_refusal k dev v) (lists (pair_lines line v (fields_at k v)))

-- `lsflash`
abbrev pub list_flashes_plan : Control → ℕ → Option Name → ℕ → Plan
list_flashes_plan k line dev v = unless (listing_refusal k dev v) (lists (flash_lines k line v))

-- `lssession`
abbrev pub list_session_plan : Control → ℕ → Option Name → ℕ → Plan
list_session_plan k line dev l = on_owner (owner_of k l) (λ owner. unless (name_refusal k dev owner) (lists (flat_map (member_lines k line l) (sessions_of k l))))

-- `showgmir`
abbrev pub show_mirror_plan : Control → ℕ → Option Name → ℕ → Plan
show_mirror_plan k line dev l = on_owner (owner_of k l) (λ owner. unless (name_refusal k dev owner) (lists (flat_map (λ x. mirror_lines line x.number x.mirror) (sessions_of k l))))
