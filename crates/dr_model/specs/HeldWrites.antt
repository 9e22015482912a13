-- Which writes a volume's lists have, by places of the journal.
use Rattle.std.specs.Prelude.{◌≡◌, ◌⊎◌, ℕ, Bool, true, false, List, ◌∷◌, ◌++◌}
use Rattle.std.specs.List.{list_any}
use Rattle.dr_model.specs.declared.event.Event.{Event}
use Rattle.dr_model.specs.declared.event.Event.TheVariants.{Volume, Ack, Mirrored, Stopped, Answer, Sent, Flashed, Reverted, Set, Back, Blanked}
use Rattle.dr_model.specs.Histories.{Write, histories}
use Rattle.dr_model.specs.Groups.{In}

-- a secondary of Metro Mirror stored write u
pub record IsMirrored (events : List Event) (u : ℕ) : Type 0 where
  pub secondary : ℕ
  pub told : In (Mirrored u secondary) events

-- the answer of a step
abbrev pub is_answer : Event → Bool
is_answer (Answer line code a b c) = true
is_answer e = false

-- and behind that a server stopped, before the step was answered
pub record WasMirrored (events : List Event) (u : ℕ) : Type 0 where
  pub before : List Event
  pub between : List Event
  pub behind : List Event
  pub secondary : ℕ
  pub server : ℕ
  pub landed : ℕ
  pub is : events ≡ before ++ Mirrored u secondary ∷ (between ++ Stopped server landed ∷ behind)
  pub unanswered : list_any is_answer between ≡ false

-- the host was told that write u is stored; or a secondary of Metro Mirror has stored it, and a server stopped in that step
abbrev pub IsStored : List Event → ℕ → Type 0
IsStored events u = In (Ack u) events ⊎ WasMirrored events u

-- so was write u, and it was issued for track t
pub record IsStoredOn (events : List Event) (u t : ℕ) : Type 0 where
  pub stored : IsStored events u
  pub track : ((histories events).write u).track ≡ t

-- the event gives track t of volume v another list: that of another volume, none, or the one that it had before a flash
abbrev pub Replaces : (ℕ → Write) → ℕ → ℕ → Event → Type 0
Replaces write v t (Volume x server tracks) = v ≡ x
Replaces write v t (Mirrored n x) = (v ≡ x) × (t ≡ (write n).track)
Replaces write v t (Sent x q to) = (v ≡ to) × (t ≡ q)
Replaces write v t (Flashed s n a b c) = v ≡ c
Replaces write v t (Reverted s n a c) = v ≡ c
Replaces write v t (Set x from) = v ≡ x
Replaces write v t (Back x q from) = (v ≡ x) × (t ≡ q)
Replaces write v t (Blanked x q) = (v ≡ x) × (t ≡ q)
Replaces write v t e = ⊥

-- write u, which was issued for track t of volume v, was acknowledged
pub record WasAcknowledged (events : List Event) (u v t : ℕ) : Type 0 where
  pub before : List Event
  pub behind : List Event
  pub is : events ≡ before ++ Ack u ∷ behind
  pub volume : ((histories before).write u).volume ≡ v
  pub track : ((histories before).write u).track ≡ t

-- after write u was acknowledged, track t of volume v was given another list: by a restore, or by what came from another volume
pub record WasReplaced (events : List Event) (u v t : ℕ) : Type 0 where
  pub before : List Event
  pub behind : List Event
  pub event : Event
  pub is : events ≡ before ++ event ∷ behind
  pub acknowledged : In (Ack u) before
  pub replaces : Replaces (histories before).write v t event
