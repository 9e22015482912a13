-- Cuts: what a primary held as it was held for an attempt, and what follows for it and its secondary.
use Rattle.std.specs.Prelude.{◌≡◌, ◌≢◌, ◌<◌, ◌≤◌, ℕ, Bool, true, false, List, [], ◌∷◌, ◌++◌, Option, Some, None, is_some}
use Rattle.std.specs.List.{fold}
use Rattle.std.specs.FinSet.{contains}
use Rattle.dr_logic.specs.Tables.{at2}
use Rattle.dr_model.specs.declared.event.Event.{Event}
use Rattle.dr_model.specs.declared.event.Event.TheVariants.{Cut}
use Rattle.dr_model.specs.Histories.{Lists, Write, Histories, no_history, after_event, histories, lists}
use Rattle.dr_model.specs.Contents.{image}
use Rattle.dr_model.specs.Control.{World}
use Rattle.dr_model.specs.Pairs.{primary_of}
use Rattle.dr_model.specs.Moves.{Move, Hold}
use Rattle.dr_model.specs.Table.{Row, Table, table}
use Rattle.dr_model.specs.Laws.{Each, Linked, its_primary, its_secondary, fields}

-- for each number and volume, the session whose attempt of that number cut the volume, and what its tracks held there
pub record Cuts : Type 0 where
  pub by : ℕ → ℕ → Option ℕ
  pub held : ℕ → ℕ → ℕ → List ℕ

-- before the first event nothing is cut
abbrev pub no_cuts : Cuts
no_cuts = record { by = λ n a. None; held = λ n a t. [] }

-- volume a, whose lists are these, is cut for attempt n of session s
abbrev pub cut_for : ℕ → ℕ → ℕ → Lists → Cuts → Cuts
cut_for s n a now c = record { by = at2 c.by n a (Some s); held = at2 c.held n a (now a) }

-- the histories of a journal with its cuts, event by event
pub record Past : Type 0 where
  pub history : Histories
  pub cuts : Cuts

-- what an event makes of the cuts, by the lists before it
abbrev pub cuts_after : Past → Event → Cuts
cuts_after p (Cut s n a) = cut_for s n a p.history.now p.cuts
cuts_after p e = p.cuts

-- after one event more
abbrev pub past_event : Past → Event → Past
past_event p e = record { history = after_event p.history e; cuts = cuts_after p e }

-- after a journal
unfoldable pub past : List Event → Past
past events = fold past_event (record { history = no_history; cuts = no_cuts }) events

-- the cuts that a journal gives
abbrev pub cuts : List Event → Cuts
cuts events = (past events).cuts

-- the cuts after a move
abbrev pub next_cuts : Lists → Move → Cuts → Cuts
next_cuts now (Hold v s n first) c = cut_for s n v now c
next_cuts now m c = c

-- ---- laws on the rows of volumes

-- a primary that records was cut for its attempt; and for none that is greater
pub record CutsFit (by : ℕ → Option ℕ) (recording : Bool) (attempt : ℕ) : Type 0 where
  pub recorder : recording ≡ true → is_some (by attempt) ≡ true
  pub positive : (n : ℕ) → is_some (by n) ≡ true → 0 < n
  pub low : (n : ℕ) → is_some (by n) ≡ true → n ≤ attempt

-- of a volume, by its record
abbrev pub RowCuts : Cuts → ℕ → Row → Type 0
RowCuts c v r = CutsFit (λ n. c.by n v) r.volume.fields.recording r.volume.fields.attempt

-- what track t of a volume held at cut n
abbrev pub at_cut : (ℕ → Write) → Cuts → ℕ → ℕ → ℕ → List ℕ
at_cut write c n v t = image write (c.held n v t)

-- while it records, a track that is still out of sync is as at the cut
abbrev pub UnsentAsAtCut : (ℕ → Write) → Cuts → ℕ → Row → Type 0
UnsentAsAtCut write c v r =
    r.volume.fields.recording ≡ true
    → (t : ℕ) → t < r.volume.tracks → contains r.volume.fields.out_of_sync t ≡ true → r.due t ≡ at_cut write c r.volume.fields.attempt v t

-- and of any other track its secondary is
abbrev pub SentAsAtCut : (ℕ → Write) → Cuts → ℕ → Row → ℕ → Row → Type 0
SentAsAtCut write c v r u s =
    r.volume.fields.recording ≡ true → its_primary s ≡ Some v
    → (t : ℕ) → t < r.volume.tracks → contains r.volume.fields.out_of_sync t ≡ false → s.due t ≡ at_cut write c r.volume.fields.attempt v t

-- A secondary that is sealed for a number holds the cut of that number, on each track.
pub record HoldsCut (write : ℕ → Write) (c : Cuts) (v : ℕ) (r : Row) (u : ℕ) : Type 0 where
  pub cut : is_some (c.by r.volume.fields.seal u) ≡ true
  pub tracks : (t : ℕ) → t < r.volume.tracks → r.due t ≡ at_cut write c r.volume.fields.seal u t

-- so does each secondary that is sealed
abbrev pub SealedAsAtCut : (ℕ → Write) → Cuts → ℕ → Row → ℕ → Row → Type 0
SealedAsAtCut write c v r u s = r.volume.fields.seal ≢ 0 → HoldsCut write c v r u

-- all laws of cuts
pub record CutLaws (write : ℕ → Write) (c : Cuts) (T : Table) : Type 0 where
  pub cut : Each (RowCuts c) T
  pub unsent : Each (UnsentAsAtCut write c) T
  pub sent : Linked its_secondary (SentAsAtCut write c) T
  pub sealed : Linked its_primary (SealedAsAtCut write c) T

-- of a volume that is about to be held no landed write waits: it is due to show what its list says
abbrev pub IsCalm : (ℕ → Write) → Lists → Table → Move → Type 0
IsCalm write now T (Hold v s n first) = (t : ℕ) → t < (T v).volume.tracks → (T v).due t ≡ image write (now v t)
IsCalm write now T m = Unit {0}

-- ---- what a run promises of seals

-- volume a was cut for attempt n of session s at this place of a journal
pub record CutAt (events : List Event) (s n a : ℕ) : Type 0 where
  pub before : List Event
  pub behind : List Event
  pub is : events ≡ before ++ Cut s n a ∷ behind

-- A secondary that is sealed for a number: its primary was cut once for that number, and each track of the secondary contains what
-- the host writes make that its primary held there.
pub record SealedCut (w : World) (v u : ℕ) : Type 0 where
  pub session : ℕ
  pub place : CutAt w.events session (fields (table w) v).seal u
  pub only : (s : ℕ) (other : CutAt w.events s (fields (table w) v).seal u) → other.before ≡ place.before
  pub tracks : (t : ℕ) → t < (table w v).volume.tracks → w.contents v t ≡ image (histories w.events).write (lists place.before u t)

-- so does each secondary that is sealed
abbrev pub SealsHold : World → Type 0
SealsHold w = (v u : ℕ) → primary_of (fields (table w) v) ≡ Some u → (fields (table w) v).seal ≢ 0 → SealedCut w v u
