-- A step that lists pairs, FlashCopy relationships, members or masters prints what the records on the devices say, and of sessions what their
-- table says.
use Rattle.std.specs.Prelude.{◌≡◌, ◌==◌, ◌&&◌, ◌||◌, ℕ, Bool, List, [], ◌∷◌, ◌++◌, map, filter, codes, Option, Some, None, Ok, if◌then◌else◌}
use Rattle.std.specs.Fmt.{decimal}
use Rattle.std.specs.FinSet.{len, union}
use Rattle.std.specs.List.{flat_map}
use Rattle.dr_ids.specs.Spelling.{hex2, hex4}
use Rattle.dr_ids.specs.declared.names.Member.{Member}
use Rattle.dr_model.specs.declared.event.Event.{Event}
use Rattle.dr_model.specs.declared.said.Addition.{Addition}
use Rattle.dr_model.specs.declared.said.Addition.TheVariants.{Alone}
use Rattle.dr_model.specs.declared.said.Said.TheVariants.{Done}
use Rattle.dr_model.specs.declared.state.Part.{Part}
use Rattle.dr_model.specs.declared.state.Part.TheVariants.{Absent, Metro, Global}
use Rattle.dr_model.specs.declared.state.PairState.{PairState}
use Rattle.dr_model.specs.declared.state.PairState.TheVariants.{CopyPending, FullDuplex, Suspended}
use Rattle.dr_model.specs.declared.step.Step.{Step}
use Rattle.dr_model.specs.declared.step.Step.TheVariants.{ListPairs, ListFlashes, ListSession, ShowMirror}
use Rattle.dr_model.specs.Answers.{answer, phase_place}
use Rattle.dr_model.specs.Control.{World}
use Rattle.dr_model.specs.Layout.{Blocks, Fields, is_part}
use Rattle.dr_model.specs.Runs.{Task, run}
use Rattle.dr_model.specs.Sessions.{Mirror, has_subsystem, subsystem_of}
use Rattle.dr_model.specs.Text.{Heard, line_text, numbered, or_dash, phase_word, told_name}
use Rattle.dr_laws_sound.specs.Acknowledged.{said_in}
use Rattle.dr_laws_recovery.specs.Decided.{record_on}

-- ---- pairs

-- the words of a pair's state at its primary
abbrev pub state_words : PairState → List ℕ
state_words CopyPending = codes "Copy Pending"
state_words FullDuplex = codes "Full Duplex"
state_words Suspended = codes "Suspended"

-- the words of its kind
abbrev pub kind_words : Part → List ℕ
kind_words Absent = []
kind_words Metro = codes "Metro Mirror"
kind_words Global = codes "Global Copy"

-- Volume v as a primary: its secondary, its state and kind, and how many tracks are out of sync or changed since it began to record.
abbrev pub primary_line : ℕ → Fields → List ℕ
primary_line v f =
    hex4 v ++ codes ":" ++ hex4 f.primary_partner ++ codes " " ++ state_words f.primary_state ++ codes " " ++ kind_words f.primary
    ++ codes " " ++ decimal (len (union f.out_of_sync f.change_recording))

-- and as a secondary: its primary, its state as a target, and its kind
abbrev pub secondary_line : ℕ → Fields → List ℕ
secondary_line v f = hex4 f.secondary_partner ++ codes ":" ++ hex4 v ++ codes " Target " ++ state_words f.secondary_state ++ codes " " ++ kind_words f.secondary ++ codes " -"

-- one line for each part that it has, that of the primary first
abbrev pub pair_lines : ℕ → Fields → List (List ℕ)
pair_lines v f = (if is_part f.primary then primary_line v f ∷ [] else []) ++ (if is_part f.secondary then secondary_line v f ∷ [] else [])

-- ---- FlashCopy relationships

-- the word of a relationship's state
abbrev pub relation_words : Fields → List ℕ
relation_words f = if f.revertible then codes "Revertible" else if f.reversing then codes "Reversing" else codes "Established"

-- its letters: without background copy, persistent, recording changes, inhibiting writes on the target; or a dash
abbrev pub letters : Fields → List ℕ
letters f =
    or_dash ((if f.nocopy then codes "N" else []) ++ (if f.persistent then codes "P" else []) ++ (if f.recorded then codes "R" else []) ++ (if f.inhibited then codes "I" else []))

-- target t: its source, its numbers, its state and letters, and how many tracks it holds
abbrev pub relation_line : ℕ → Fields → List ℕ
relation_line t f =
    hex4 f.source ++ codes ":" ++ hex4 t ++ codes " " ++ decimal f.sequence ++ codes " " ++ decimal f.previous_sequence
    ++ codes " " ++ relation_words f ++ codes " " ++ letters f ++ codes " " ++ decimal (len f.own)

-- t is a target, and it is v, or its source is
abbrev pub is_of : ℕ → ℕ → Fields → Bool
is_of v t f = f.related && (t == v || f.source == v)

-- ---- members and masters

-- what a volume's pair shows: its state as a primary, else as a secondary
abbrev pub shown_words : Fields → List ℕ
shown_words f =
    if is_part f.primary then state_words f.primary_state
    else if is_part f.secondary then codes "Target " ++ state_words f.secondary_state
    else codes "none"

-- a member of session s: its three volumes, and what the first one's pair shows
abbrev pub member_line : ℕ → Member → Fields → List ℕ
member_line s m f = hex2 s ++ codes " " ++ hex4 m.a.0 ++ codes ":" ++ hex4 m.b.0 ++ codes ":" ++ hex4 m.c.0 ++ codes " " ++ shown_words f

-- the master of session s, if it has one: its server by name, its phase, the number of its attempt, and whether it is paused
abbrev pub master_lines : Heard → ℕ → Option Mirror → List (List ℕ)
master_lines names s None = []
master_lines names s (Some r) =
    (hex2 s ++ codes " " ++ told_name names r.server ++ codes " " ++ phase_word (phase_place r.master.phase) ++ codes " " ++ decimal r.master.number
    ++ (if r.paused then codes " paused" else codes " running")) ∷ []

-- ---- the law

-- The lines of a listing, in order. Of a volume they are its parts, or the targets that are it or copy from it, in order of definition. Of a logical
-- subsystem they are those of each session that has it: the members whose primaries lie in it, or the master. No other step lists any.
abbrev pub lines_on : World → (ℕ → Blocks) → Step → Option (Heard → List (List ℕ))
lines_on w device (ListPairs devs v) = Some (λ names. pair_lines v (record_on w device v))
lines_on w device (ListFlashes devs v) =
    Some (λ names. map (λ t. relation_line t (record_on w device t)) (filter (λ t. is_of v t (record_on w device t)) w.control.volumes))
lines_on w device (ListSession devs l) =
    Some (λ names. flat_map
    (λ x. map (λ m. member_line x.number m (record_on w device m.a.0)) (filter (λ m. subsystem_of m.a.0 == l) x.members))
    (filter (has_subsystem l) w.control.sessions))
lines_on w device (ShowMirror devs l) =
    Some (λ names. flat_map (λ x. master_lines names x.number x.mirror) (filter (has_subsystem l) w.control.sessions))
lines_on w device _ = None

-- Between the events of w and its answer ok, a step on line n tells one event for each of these lines, which prints it, and no other.
pub record Prints (w u : World) (n : ℕ) (lines : Heard → List (List ℕ)) : Type 0 where
  pub told : List Event
  pub events : u.events ≡ (w.events ++ told) ++ answer n (Done Alone) ∷ []
  pub prints : (names : Heard) → map (line_text names) told ≡ map (numbered n) (lines names)

-- If the last step of a run lists something, and isn't refused, its lines are those of the records on these devices.
abbrev pub ListsDevices : List Task → (ℕ → Blocks) → Type 0
ListsDevices tasks device =
    (before : List Task) (t : Task) (s : Step) (said : Addition) (lines : Heard → List (List ℕ)) → tasks ≡ before ++ t ∷ [] → t.asked ≡ Ok s → said_in (run before) t ≡ Done said
    → lines_on (run tasks) device s ≡ Some lines
    → Prints (run before) (run tasks) t.line lines
