-- Freeze windows: what the secondaries of a set of pairs hold while no host write can land on a primary alone.
use Rattle.std.specs.Prelude.{◌≡◌, ℕ, ◌<◌, Bool, true, false, not, ◌&&◌, ◌||◌, List, [], ◌∷◌, ◌++◌, drop, length, Option, Some, None, nat_eq, All, if◌then◌else◌}
use Rattle.std.specs.List.{list_any, fold}
use Rattle.dr_model.specs.declared.event.Event.{Event}
use Rattle.dr_model.specs.declared.event.Event.TheVariants.{Ack, Mirrored, Back}
use Rattle.dr_model.specs.Histories.{Write, histories, lists}
use Rattle.dr_model.specs.Contents.{image}
use Rattle.dr_model.specs.Layout.{Blocks, Fields, is_part}
use Rattle.dr_model.specs.Control.{Control, World, is_volume}
use Rattle.dr_model.specs.Pairs.{is_metro, is_full_duplex, is_suspended, is_primary_of, is_secondary_of}
use Rattle.dr_model.specs.Relations.{is_bare}
use Rattle.dr_model.specs.Entries.{fields_at, subsystem}
use Rattle.dr_model.specs.WriteEntries.{partner_of}
use Rattle.dr_model.specs.Fits.{on_device}
use Rattle.dr_model.specs.Runs.{Task}
use Rattle.dr_model.specs.Table.{waiting}
use Rattle.dr_laws_freezes.specs.Moments.{moments}

-- pairs of logical subsystems, and the primaries of such a set
abbrev pub LssPairs : Type 0
LssPairs = List (ℕ × ℕ)

-- v is a primary in the first logical subsystem of a pair, and its secondary is in the second
abbrev pub is_of : Control → ℕ → ℕ × ℕ → Bool
is_of k v p = is_part (fields_at k v).primary && (nat_eq (subsystem v) p.0 && nat_eq (subsystem (partner_of k v)) p.1)

-- v is a primary of one of these pairs of logical subsystems
abbrev pub is_in : LssPairs → Control → ℕ → Bool
is_in set k v = is_volume k v && list_any (is_of k v) set

-- a Metro Mirror primary that is Full Duplex, with no track out of sync, and none recorded as changed since
abbrev pub is_clean : Fields → Bool
is_clean f = is_metro f.primary && (is_full_duplex f.primary_state && (is_bare f.out_of_sync && is_bare f.change_recording))

-- v is the primary of q, which has the part for it, and it is Full Duplex, or Suspended and long busy
abbrev pub stays_with : ℕ → ℕ → Control → Bool
stays_with q v k =
    is_primary_of q (fields_at k v)
    && ((is_full_duplex (fields_at k v).primary_state || (is_suspended (fields_at k v).primary_state && (fields_at k v).long_busy))
    && is_secondary_of v (fields_at k q))

-- a restore stored a track of v
abbrev pub is_back_to : ℕ → Event → Bool
is_back_to v (Back u t from) = nat_eq u v
is_back_to v _ = false

-- A window of a set is a stretch of moments, in which these events were told. It is sound where at its first moment each
-- primary of the set is clean, where at each of its moments each such primary stays with its partner, and where no restore
-- stored a track of a volume of the set.
pub record IsSoundWindow (set : LssPairs) (first : World) (later : List World) (events : List Event) : Type 0 where
  pub clean : (v : ℕ) → is_in set first.control v ≡ true → is_clean (fields_at first.control v) ≡ true
  pub stay : (v : ℕ) → is_in set first.control v ≡ true → All (λ w. stays_with (partner_of first.control v) v w.control ≡ true) (first ∷ later)
  pub primaries : (v : ℕ) → is_in set first.control v ≡ true → list_any (is_back_to v) events ≡ false
  pub secondaries : (v : ℕ) → is_in set first.control v ≡ true → list_any (is_back_to (partner_of first.control v)) events ≡ false

-- the last host write that q stored as a secondary, among these events
abbrev pub later_mirrored : ℕ → Option ℕ → Event → Option ℕ
later_mirrored q last (Mirrored w v) = if nat_eq v q then Some w else last
later_mirrored q last _ = last

-- over all of these events, in their order
abbrev pub last_mirrored : ℕ → List Event → Option ℕ
last_mirrored q events = fold (later_mirrored q) None events

-- the event acknowledges write w
abbrev pub is_ack : ℕ → Event → Bool
is_ack w (Ack n) = nat_eq n w
is_ack w _ = false

-- That write, where it is one on track t that wasn't acknowledged. Where there is none in the window, those that landed on the
-- primary before it, as its server stopped, and wait.
abbrev pub unacked_on : List Event → ℕ → List ℕ → Option ℕ → List ℕ
unacked_on events t waits None = waits
unacked_on events t waits (Some w) = if nat_eq ((histories events).write w).track t && not (list_any (is_ack w) events) then w ∷ [] else []

-- the host writes that the secondary q of v holds on track t where a window ends in which these events were told
abbrev pub frozen : World → List Event → ℕ → ℕ → ℕ → List ℕ
frozen last events q v t = lists last.events v t ++ unacked_on last.events t (waiting last.control.pending v t) (last_mirrored q events)

-- the last world of a window, and the events that were told in it
abbrev pub last_of : World → List World → World
last_of w [] = w
last_of w (v ∷ vs) = last_of v vs

-- the events that were told from the first of two moments to the last
abbrev pub told_since : World → World → List Event
told_since first last = drop (length first.events) last.events

-- the writes on track t of volume v that these events acknowledge, in their order
abbrev pub acked_in : (ℕ → Write) → ℕ → ℕ → Event → List ℕ
acked_in write v t (Ack n) = if nat_eq v (write n).volume && nat_eq t (write n).track then n ∷ [] else []
acked_in write v t _ = []

-- of all of these events
abbrev pub acked_on : (ℕ → Write) → ℕ → ℕ → List Event → List ℕ
acked_on write v t [] = []
acked_on write v t (e ∷ es) = acked_in write v t e ++ acked_on write v t es

-- Track t of v holds the host writes that it held at the first of two moments, and each that was acknowledged on it since.
abbrev pub HoldsWhatCame : World → World → ℕ → ℕ → Type 0
HoldsWhatCame first last v t = lists last.events v t ≡ lists first.events v t ++ acked_on (histories last.events).write v t (told_since first last)

-- At each moment of a sound window of a run, so also where it ends with the freeze of its last pair: each track of each
-- secondary of the set contains what the host writes make that its primary holds, and the last one that the secondary stored
-- where it wasn't acknowledged. The primary holds what it held as the window began, and each write that was
-- acknowledged on it since; so a secondary of the set lacks none of them, nor any of them on which another depends.
abbrev pub FreezeCut : List Task → Type 0
FreezeCut tasks =
    (set : LssPairs) (before later after : List World) (first : World)
    → moments tasks ≡ before ++ (first ∷ later ++ after)
    → let last : World = last_of first later in
    IsSoundWindow set first later (told_since first last)
    → (v t : ℕ) → is_in set first.control v ≡ true → t < (first.control.volume v).tracks
    → (last.contents (partner_of first.control v) t ≡ image (histories last.events).write (frozen last (told_since first last) (partner_of first.control v) v t))
    × HoldsWhatCame first last v t

-- Where a sound window ends with the run, the devices contain the cut: the same of each secondary's track as its device has it.
abbrev pub EndsInCut : List Task → (ℕ → Blocks) → Type 0
EndsInCut tasks device =
    (set : LssPairs) (before later : List World) (first : World)
    → moments tasks ≡ before ++ (first ∷ later)
    → let last : World = last_of first later in
    IsSoundWindow set first later (told_since first last)
    → (v t : ℕ) → is_in set first.control v ≡ true → t < (first.control.volume v).tracks
    → (on_device last.control device (partner_of first.control v) t ≡ image (histories last.events).write (frozen last (told_since first last) (partner_of first.control v) v t))
    × HoldsWhatCame first last v t
