-- Flash windows: what the sources of FlashCopy pairs hold, and what their targets show, while flash holds let host writes on the sources wait.
use Rattle.std.specs.Prelude.{◌≡◌, ℕ, ◌<◌, Bool, true, false, not, ◌&&◌, List, ◌∷◌, ◌++◌, nat_eq, All}
use Rattle.std.specs.List.{list_any}
use Rattle.dr_model.specs.declared.event.Event.{Event}
use Rattle.dr_model.specs.declared.event.Event.TheVariants.{Volume, Ack, Mirrored, Sent, Flashed, Reverted, Set, Back, Blanked, Stopped}
use Rattle.dr_model.specs.Histories.{Write, histories, lists}
use Rattle.dr_model.specs.Contents.{image}
use Rattle.dr_model.specs.Dependence.{DependsOn}
use Rattle.dr_model.specs.Layout.{Blocks}
use Rattle.dr_model.specs.Control.{World}
use Rattle.dr_model.specs.Groups.{In}
use Rattle.dr_model.specs.Entries.{fields_at}
use Rattle.dr_model.specs.Views.{view}
use Rattle.dr_model.specs.Fits.{on_device}
use Rattle.dr_model.specs.Runs.{Task}
use Rattle.dr_laws_freezes.specs.Moments.{moments}
use Rattle.dr_laws_freezes.specs.Windows.{last_of, told_since}

-- pairs of volumes, the source of each first
abbrev pub FlashPairs : Type 0
FlashPairs = List (ℕ × ℕ)

-- the event gives a list of volume v another value, and acknowledges no write
abbrev pub changes : ℕ → Event → Bool
changes v (Volume x server tracks) = nat_eq v x
changes v (Mirrored n x) = nat_eq v x
changes v (Sent x q to) = nat_eq v to
changes v (Flashed s n a b c) = nat_eq v c
changes v (Reverted s n a c) = nat_eq v c
changes v (Set x from) = nat_eq v x
changes v (Back x q from) = nat_eq v x
changes v (Blanked x q) = nat_eq v x
changes v e = false

-- host write n is one for track q of volume v
abbrev pub is_for : (ℕ → Write) → ℕ → ℕ → ℕ → Bool
is_for write v q n = nat_eq (write n).volume v && nat_eq (write n).track q

-- the event tells of a host write on track q of volume v that it was acknowledged, or that it landed as a server stopped
abbrev pub reaches : (ℕ → Write) → ℕ → ℕ → Event → Bool
reaches write v q (Ack n) = is_for write v q n
reaches write v q (Stopped s n) = not (nat_eq n 0) && is_for write v q n
reaches write v q e = false

-- where in a stretch of moments target t takes the tracks of source s: the first moment that has this event, behind those before it
pub record Taken (first : World) (later : List World) (s t : ℕ) : Type 0 where
  pub until : List World
  pub taken : World
  pub rest : List World
  pub is : later ≡ until ++ (taken ∷ rest)
  pub behind : List Event
  pub told : taken.events ≡ (last_of first until).events ++ (Set t s ∷ behind)

-- what the source held on track q in the journal up to that event: the cut of the pair
abbrev pub cut_at : (first : World) (later : List World) (s t : ℕ) → Taken first later s t → ℕ → List ℕ
cut_at first later s t p q = lists (last_of first p.until).events s q

-- The source has a flash hold as its tracks are taken, and from there to the end of the stretch. Which line gave it the hold, and when, doesn't
-- matter: a second target of a source that is held, and one that is taken anew under the hold, are such pairs too. From there on nothing but
-- acknowledgements changes what source and target hold; so the target isn't taken once more.
pub record IsHeldPair (first : World) (later : List World) (s t : ℕ) (p : Taken first later s t) : Type 0 where
  pub held : All (λ w. (fields_at w.control s).flash_hold ≡ true) (p.taken ∷ p.rest)
  pub source : list_any (changes s) (told_since p.taken (last_of first later)) ≡ false
  pub target : list_any (changes t) (told_since p.taken (last_of first later)) ≡ false

-- A window of a set of pairs is a stretch of moments in which the target of each pair takes the tracks of its source. It is sound where each
-- pair is so from there on. Nothing else is asked: where a source is a secondary, or is restored, or two pairs have one target, what that
-- changes in a list behind the source's hold is no acknowledgement.
pub record IsSoundWindow (set : FlashPairs) (first : World) (later : List World) : Type 0 where
  pub taken : (s t : ℕ) → In (s, t) set → Taken first later s t
  pub sound : (s t : ℕ) → (here : In (s, t) set) → IsHeldPair first later s t (taken s t here)

-- What a sound window leaves, where tracks contain these bytes. Each cut is what its source holds at the end. So the cuts are closed: where a
-- write in the cut of one pair depends on a write that the source of another one holds at the end, that is in the cut of the other. And each cut has every write
-- that its source holds at the end and that was acknowledged before the window. Each track of a target shows what the writes of its cut make, unless a
-- host write on that track of the target was acknowledged, or landed in a stop, since the target took the tracks of its source.
pub record LeavesOneCut (set : FlashPairs) (first : World) (later : List World) (window : IsSoundWindow set first later) (contents : ℕ → ℕ → List ℕ) : Type 0 where
  pub held : (s t : ℕ) → (here : In (s, t) set) → (q : ℕ) → lists (last_of first later).events s q ≡ cut_at first later s t (window.taken s t here) q
  pub closed : (s t : ℕ) → (here : In (s, t) set) → (q w : ℕ) → In w (cut_at first later s t (window.taken s t here) q)
      → (x y : ℕ) → (there : In (x, y) set) → (r u : ℕ) → In u (lists (last_of first later).events x r) → DependsOn (last_of first later).events w u → In u (cut_at first later x y (window.taken x y there) r)
  pub acknowledged : (s t : ℕ) → (here : In (s, t) set) → (q u : ℕ) → In u (lists (last_of first later).events s q) → In (Ack u) first.events → In u (cut_at first later s t (window.taken s t here) q)
  pub shown : (s t : ℕ) → (here : In (s, t) set) → (q : ℕ) → q < ((last_of first later).control.volume t).tracks
      → list_any (reaches (histories (last_of first later).events).write t q) (told_since (window.taken s t here).taken (last_of first later)) ≡ false
      → view (fields_at (last_of first later).control) contents t q ≡ image (histories (last_of first later).events).write (cut_at first later s t (window.taken s t here) q)

-- At the end of each sound window of a run: of one that ends as the last pair's target takes its source's tracks, and of each longer one.
abbrev pub FlashCut : List Task → Type 0
FlashCut tasks =
    (set : FlashPairs) (before later after : List World) (first : World)
    → moments tasks ≡ before ++ (first ∷ later ++ after)
    → (window : IsSoundWindow set first later)
    → LeavesOneCut set first later window (last_of first later).contents

-- Where a sound window ends with the run, the same of what tracks contain on the devices.
abbrev pub EndsInFlashCut : List Task → (ℕ → Blocks) → Type 0
EndsInFlashCut tasks device =
    (set : FlashPairs) (before later : List World) (first : World)
    → moments tasks ≡ before ++ (first ∷ later)
    → (window : IsSoundWindow set first later)
    → LeavesOneCut set first later window (on_device (last_of first later).control device)
