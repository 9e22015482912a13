-- Which host writes each track holds after a journal.
use Rattle.std.specs.Prelude.{ℕ, List, [], ◌∷◌, ◌++◌, take, Option, None, Some}
use Rattle.std.specs.List.{fold}
use Rattle.dr_logic.specs.Tables.{at, at2}
use Rattle.dr_model.specs.declared.event.Event.{Event}
use Rattle.dr_model.specs.declared.event.Event.TheVariants.{Volume, Issue, Ack, Mirrored, Sent, Flashed, Committed, Reverted, Set, Back, Blanked}

-- for each volume and track the numbers of the host writes that it holds, first to last
abbrev pub Lists : Type 0
Lists = ℕ → ℕ → List ℕ

-- a host write as it was issued
pub record Write : Type 0 where
  pub volume : ℕ
  pub track : ℕ
  pub offset : ℕ
  pub bytes : List ℕ

-- the lists of each volume, those that a flashed target keeps aside, the writes by number, and the number of
-- tracks of each volume that is defined
pub record Histories : Type 0 where
  pub now : Lists
  pub aside : Lists
  pub write : ℕ → Write
  pub tracks : ℕ → Option ℕ

-- a number that was never issued: a write of no bytes
abbrev pub no_write : Write
no_write = record { volume = 0; track = 0; offset = 0; bytes = [] }

-- before the first event nothing is defined, and each list is empty
abbrev pub no_history : Histories
no_history = record { now = λ v t. []; aside = λ v t. []; write = λ w. no_write; tracks = λ v. None }

-- the list of the write's own volume and track, with the write at its end
abbrev pub joined : Histories → ℕ → List ℕ
joined h w = h.now (h.write w).volume (h.write w).track ++ w ∷ []

-- what an event does to the lists: an acknowledged write joins the list of its track, and events of copies set, move, keep aside
-- or clear lists; all other events change none
abbrev pub after_event : Histories → Event → Histories
after_event h (Volume v server tracks) = record h { now = at h.now v (λ t. []); tracks = at h.tracks v (Some tracks) }
after_event h (Issue w v t offset len bytes) = record h { write = at h.write w (record { volume = v; track = t; offset = offset; bytes = take len bytes }) }
after_event h (Ack w) = record h { now = at2 h.now (h.write w).volume (h.write w).track (joined h w) }
after_event h (Mirrored w v) = record h { now = at2 h.now v (h.write w).track (joined h w) }
after_event h (Sent v t to) = record h { now = at2 h.now to t (h.now v t) }
after_event h (Flashed session n a b c) = record h { aside = at h.aside c (h.now c); now = at h.now c (h.now b) }
after_event h (Committed session n a c) = record h { aside = at h.aside c (λ t. []) }
after_event h (Reverted session n a c) = record h { now = at h.now c (h.aside c) }
after_event h (Set v from) = record h { now = at h.now v (h.now from) }
after_event h (Back v t from) = record h { now = at2 h.now v t (h.now from t) }
after_event h (Blanked v t) = record h { now = at2 h.now v t [] }
after_event h _ = h

-- the histories after a journal
unfoldable pub histories : List Event → Histories
histories events = fold after_event no_history events

-- the writes that a track holds after a journal
abbrev pub lists : List Event → Lists
lists events = (histories events).now
